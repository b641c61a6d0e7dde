-- Rows and the scan point of a good image read into a memory, and the whole image into zeros: in the end it is the memory of the image's state.
use Rattle.std.proofs.Common.{◌≡◌, ℕ, suc, ◌+◌, ◌%◌, ◌^◌, ◌<◌, ◌≤◌, false, List, [], ◌∷◌, ◌++◌, length, get_or, take, drop, set, replicate, sym, refl, ap, ◌∙◌, add-one, arith, take-suc}
use mathlib.Core.Option.{Option, none, some}
use lib.Seq.{split_at, take-append_seam, drop-append_seam}
use Rattle.lists.specs.Slots.{occurs, Once, NoneFrom}
use Rattle.lists.proofs.SlotsLaws.{occurs-same, occurs_append}
use Rattle.lists.proofs.OnceLaws.{none_below}
use Rattle.rules.specs.Numbers.{slots}
use Rattle.rules.specs.State.{Channel, State, Scan as ScanPoint, fresh, with_scan, visit_number}
use Rattle.rules.specs.Facts.{Edition, Sound}
use Rattle.rules.proofs.Kept.{fresh-sound}
use Rattle.memory.specs.Names as the
use Rattle.memory.specs.Layout.{place, width, bytes_of, base_length, memory_length}
use Rattle.memory.specs.Memory.{base}
use Rattle.memory.specs.Reading.{row_count_at}
use Rattle.memory.specs.Edits.{with_rows, row_joined, with_order}
use Rattle.memory.specs.Fits.{Fits}
use Rattle.memory.specs.Point.{in_numbers}
use Rattle.memory.specs.declared.point.Scan.{Scan}
use Rattle.memory.proofs.Fitting.{rows_few, mask_fits}
use Rattle.memory.proofs.SoundFits.{sound-fits}
use Rattle.memory.proofs.Base.{memory-base}
use Rattle.memory.proofs.Fresh.{fresh-bytes}
use Rattle.memory.proofs.PointEdits.{fits-order}
use Rattle.memory.proofs.RowEdits.{fits-joined, room_to_join}
use Rattle.image.specs.Parts.{as_number, part, widths, numbers_of, laid, span, numbers_in}
use Rattle.image.specs.Image.{visit_byte, entries, scan_parts, following, head_parts, lists, image_of}
use Rattle.reader.specs.Decoding.{Reached, with_channels}
use Rattle.image.proofs.PartLaws.{drop-part}
use Rattle.image.proofs.RoundTrip.{wide-holds, visit-lt}
use Rattle.reader.proofs.RecordsDecode.{numbers-behind, parts-passed}

-- ---- rows

-- row i is not among those before it
row_new : (rows : List ℕ) (i : ℕ) → Once rows → i < length rows → occurs (get_or rows i 0) (take i rows) ≡ 0
row_new rows i once l =
    let r = get_or rows i 0 in
    let split : rows ≡ take i rows ++ r ∷ drop (suc i) rows = split_at rows i 0 l in
    let sum : occurs r rows ≡ occurs r (take i rows) + occurs r (r ∷ drop (suc i) rows)
    = ap (occurs r) split ∙ occurs_append r (take i rows) (r ∷ drop (suc i) rows) in
    omega (arith, sum, once r, occurs-same r (drop (suc i) rows))

row_low : (rows : List ℕ) (i : ℕ) → NoneFrom slots rows → get_or rows i 0 < slots
row_low rows i free = none_below slots rows (omega arith) free i

module _ (s : State) (rows : List ℕ) (once : Once rows) (free : NoneFrom slots rows) where
  pub rows_step : {memory after : List ℕ} (i : ℕ) → i < length rows → Fits (with_rows s (take i rows)) → memory ≡ bytes_of (with_rows s (take i rows))
      → ((t : State) → Fits t → memory ≡ bytes_of t → get_or rows i 0 < slots → occurs (get_or rows i 0) t.rows ≡ 0 → after ≡ bytes_of (row_joined t (get_or rows i 0)))
      → Fits (with_rows s (take (i + 1) rows)) × (after ≡ bytes_of (with_rows s (take (i + 1) rows)))
  rows_step i l F m step =
      let low : get_or rows i 0 < slots = row_low rows i free in
      let new : occurs (get_or rows i 0) (take i rows) ≡ 0 = row_new rows i once l in
      let more : take (i + 1) rows ≡ take i rows ++ get_or rows i 0 ∷ [] = ap (λ (k : ℕ). take k rows) (add-one i) ∙ take-suc rows i 0 l in
      rw more (fits-joined F (get_or rows i 0) low new, step (with_rows s (take i rows)) F m low new)

-- ---- the edition, the order and the scan point

-- zeros with an edition in its place are the fresh state's base
pub edition-stored : {m : List ℕ} (edition e : ℕ) → m ≡ replicate base_length 0 → (edition < 256 → e ≡ edition) → Edition edition
    → set m (place the.edition) e ≡ bytes_of (fresh edition)
edition-stored edition e zeros low E =
    let front : base (set (replicate memory_length 0) (place the.edition) edition) ≡ set (replicate base_length 0) (place the.edition) edition = refl in
    rw (zeros, low (omega (arith, E.1))) (sym front ∙ ap base (sym (fresh-bytes edition E)) ∙ memory-base (fresh-sound edition E))

-- 255 is no visit, and the memory's number for a slot is one more
pub visit-back : (o : Option ℕ) (n : ℕ) → visit_number o < 256 ^ width the.visit → n ≡ visit_byte o → (n + 1) % 256 ≡ visit_number o
visit-back none n h e = rw e refl
visit-back (some i) n h e = omega arith

pub row_room : {m : List ℕ} {s : State} {i : ℕ} → Fits s → m ≡ bytes_of s → i < slots → occurs i s.rows ≡ 0 → row_count_at m < slots
row_room {i = i} F e l new = rw e (room_to_join i F l new)

-- ---- the whole image

module _ (image : List ℕ) (v : ℕ) (h : 1 ≤ v) (s : State) (S : Sound s) (unmarked : s.parked ≡ false) (e : image ≡ image_of v s) where
  F : Fits s
  F = sound-fits S

  whole : image ≡ laid (head_parts v s) ++ lists v s
  unfolding image_of
  whole = e

  -- the numbers of the version and of the length of what follows, and the others
  pub head-taken : (n m : ℕ) × (numbers_in (widths (head_parts v s)) image ≡ n ∷ m ∷ numbers_of (scan_parts v s))
  unfolding numbers_in
  head-taken =
      let behind : drop 1 image ≡ laid (drop 1 (head_parts v s)) ++ lists v s = rw whole (drop-part (part 1 v) (drop 1 (head_parts v s)) (lists v s) 0) in
      let others = numbers-behind (part 4 (following v s)) (scan_parts v s) (lists v s)
      (F.edition-fits, (F.order-fits, (wide-holds v h s.scan.position F.position-fits, (F.column_fits, (mask_fits F, (visit-lt v h s.scan.visit F.visit-fits, (omega (arith, rows_few F), tt))))))) in
      (as_number 1 image, as_number 4 (laid (drop 1 (head_parts v s)) ++ lists v s), ap (λ (ns : List ℕ). as_number 1 image ∷ ns) (ap (numbers_in (widths (drop 1 (head_parts v s)))) behind ∙ others))

  pub head_passed : drop (span (widths (head_parts v s))) image ≡ s.rows ++ entries v s.channels
  unfolding lists
  head_passed = rw whole (parts-passed (head_parts v s) (lists v s))

  -- the state's channels have room in the fresh state's memory
  channels_fit : Fits (fresh s.edition) → Fits (with_channels (fresh s.edition) s.channels)
  unfolding fresh
  channels_fit G =
      record {
        size = F.size;
        slot = F.slot;
        pool = F.pool;
        once = G.once;
        below = G.below;
        part = G.part;
        order-fits = G.order-fits;
        position-fits = G.position-fits;
        column_fits = G.column_fits;
        visit-fits = G.visit-fits;
        edition-fits = G.edition-fits;
      }

  pub image_decoded : (count : ℕ) (left rows entries-left m0 m1 m2 m3 m4 : List ℕ) (order : ℕ) (point : Scan)
      → left ≡ drop (span (widths (head_parts v s))) image → count ≡ length s.rows → rows ≡ take count left → entries-left ≡ drop count left → order ≡ s.order → point ≡ in_numbers s.scan
      → m0 ≡ bytes_of (fresh s.edition)
      → ((e : ℕ) (cs : List Channel) → Fits (with_channels (fresh e) cs) → Reached entries-left (entries v cs) m0 (fresh e) → m1 ≡ bytes_of (with_channels (fresh e) cs))
      → ((t : State) → Once rows → NoneFrom slots rows → Fits (with_rows t []) → m1 ≡ bytes_of (with_rows t []) → Fits (with_rows t rows) × (m2 ≡ bytes_of (with_rows t rows)))
      → ((t : State) → Fits t → m2 ≡ bytes_of t → m3 ≡ bytes_of (with_order t order))
      → ((t : State) (q : ScanPoint) → Fits t → m3 ≡ bytes_of t → point ≡ in_numbers q → m4 ≡ bytes_of (with_scan t q))
      → m4 ≡ bytes_of s
  unfolding fresh
  image_decoded count left rows entries-left m0 m1 m2 m3 m4 order point passed count-is rows-are entries-are order-is point-is started slots_read rows-read stored-order stored-scan =
      let there : left ≡ s.rows ++ entries v s.channels = passed ∙ head_passed in
      let first-rows : rows ≡ s.rows = rows-are ∙ rw (count-is, there) (take-append_seam s.rows (entries v s.channels)) in
      let behind-rows : entries-left ≡ entries v s.channels = entries-are ∙ rw (count-is, there) (drop-append_seam s.rows (entries v s.channels)) in
      let empty : Fits (fresh s.edition) = sound-fits (fresh-sound s.edition S.edition-is) in
      let filled = slots_read s.edition s.channels (channels_fit empty) (record { ahead = behind-rows; memory = started; fits = empty }) in
      let (fits, joined) = (rw first-rows at rows-read) (with_channels (fresh s.edition) s.channels) F.once F.below (channels_fit empty) filled in
      let t = with_rows (with_channels (fresh s.edition) s.channels) s.rows in
      let small : s.order < 256 = omega (arith, F.order-fits) in
      rw (sym unmarked) at (stored-scan (with_order t s.order) s.scan (fits-order fits s.order small) (rw order-is at (stored-order t fits joined)) point-is)
