-- Parts and a slot's records read into a memory: where a good image goes on with them, the memory goes on to the state with them.
use Rattle.std.proofs.Common.{◌≡◌, ℕ, zero, suc, ◌+◌, ◌^◌, ◌<◌, ◌≤◌, List, [], ◌∷◌, ◌++◌, length, get_or, take, drop, sym, refl, ap, ◌∙◌, append_assoc, add-zero, add-one, arith, length-append, length-set, drop_of_length-le, length-take-le, take_all, drop-cons, take-suc, get_or-set_same, set-set}
use Rattle.rules.specs.Numbers.{slots, room, cells}
use Rattle.rules.specs.State.{Record, Channel, State, blank, at, with_channel}
use Rattle.memory.specs.Layout.{run_of, bytes_of}
use Rattle.memory.specs.Reading.{waiting_at, first_at}
use Rattle.memory.specs.Edits.{record_added, queue_now, with_waiting}
use Rattle.memory.specs.Fits.{Each, each_nil, each_cons, RecordFits, SlotFits, Fits}
use Rattle.memory.specs.Records.{Ends}
use Rattle.memory.proofs.Fitting.{run-few, fewer}
use Rattle.memory.proofs.RecordEdits.{fits_queue}
use Rattle.memory.proofs.Lanes.{waiting-is}
use Rattle.memory.proofs.RunLaws.{before, no_record}
use Rattle.memory.proofs.RunEdits.{total-is, run_insert}
use Rattle.lists.proofs.TabLaws.{length-insert_at}
use Rattle.image.specs.Parts.{as_number, widths, numbers_of, laid, span, numbers_in}
use Rattle.image.specs.declared.parts.Part.{Part}
use Rattle.image.specs.Image.{record_bytes, record_parts, records_bytes}
use Rattle.reader.specs.Decoding.{Reached, NoneBehind}
use Rattle.image.proofs.PartLaws.{drop-part, drop-laid, part-back}
use Rattle.reader.proofs.RunEnd.{queue_ends}

-- ---- parts that the image goes on with

-- each part's width holds its number
abbrev pub Held : List Part → Type 0
Held [] = Unit {0}
Held (p ∷ ps) = (p.number < 256 ^ p.width) × Held ps

part_passed : (p : Part) (ps : List Part) (rest : List ℕ) → drop p.width (laid (p ∷ ps) ++ rest) ≡ laid ps ++ rest
part_passed p ps rest = ap (λ (n : ℕ). drop n (laid (p ∷ ps) ++ rest)) (sym (add-zero p.width)) ∙ drop-part p ps rest 0

pub numbers-back : (ps : List Part) (rest : List ℕ) → Held ps → numbers_in (widths ps) (laid ps ++ rest) ≡ numbers_of ps
unfolding numbers_in
numbers-back [] rest hs = refl
numbers-back (p ∷ ps) rest (h, hs) =
    rw (part-back (p ∷ ps) 0 rest (omega arith) h, part_passed p ps rest, numbers-back ps rest hs)

-- (the number before them may be held or not)
pub numbers-behind : (p : Part) (ps : List Part) (rest : List ℕ) → Held ps
    → numbers_in (widths (p ∷ ps)) (laid (p ∷ ps) ++ rest) ≡ as_number p.width (laid (p ∷ ps) ++ rest) ∷ numbers_of ps
unfolding numbers_in
numbers-behind p ps rest hs = rw (part_passed p ps rest, numbers-back ps rest hs)

pub parts-passed : (ps : List Part) (rest : List ℕ) → drop (span (widths ps)) (laid ps ++ rest) ≡ rest
parts-passed ps rest = ap (λ (k : ℕ). drop k (laid ps ++ rest)) (sym (add-zero (span (widths ps)))) ∙ drop-laid ps rest 0

-- ---- the channel of a slot, and its queue

at-channel : (s : State) (slot : ℕ) (c : Channel) → slot < length s.channels → at (with_channel s slot c).channels slot ≡ c
at-channel s slot c l = get_or-set_same s.channels slot c blank l

-- what fits with a channel in a slot has room for that channel
pub channel-fits : (s : State) (slot : ℕ) (c : Channel) → slot < slots → Fits (with_channel s slot c) → SlotFits c
channel-fits s slot c l F =
    let size = F.size in
    rw (at-channel s slot c (omega (arith, size, length-set s.channels slot c))) at (F.slot slot)

pub within : (s : State) (slot : ℕ) (c : Channel) → slot < slots → Fits (with_channel s slot c) → slot < length s.channels
within s slot c l F = omega (arith, F.size, length-set s.channels slot c)

-- a channel that is there, with another queue
pub queued_channel : (s : State) (slot : ℕ) (c : Channel) (xs : List Record) → slot < length s.channels → queue_now (with_channel s slot c) slot xs ≡ with_channel s slot (with_waiting xs c)
queued_channel s slot c xs l =
    ap (λ (d : Channel). with_channel (with_channel s slot c) slot (with_waiting xs d)) (at-channel s slot c l)
    ∙ ap (λ (cs : List Channel). record { edition = s.edition; channels = cs; rows = s.rows; order = s.order; scan = s.scan; parked = s.parked })
    (set-set s.channels slot c (with_waiting xs c))

module _ (s : State) (slot : ℕ) (l : slot < length s.channels) where
  queued_more : (xs : List Record) (x : Record) → record_added (queue_now s slot xs) slot x ≡ queue_now s slot (xs ++ x ∷ [])
  queued_more xs x =
      let c = with_waiting xs (at s.channels slot) in
      ap (λ (d : Channel). queue_now (queue_now s slot xs) slot (d.waiting ++ x ∷ [])) (at-channel s slot c l)
      ∙ queued_channel s slot c (xs ++ x ∷ []) l

-- ---- a record

-- the last of a list whose records all fit fits
each_last : (rs : List Record) (x : Record) → Each RecordFits (rs ++ x ∷ []) → RecordFits x
each_last [] x (each_cons f h) = f
each_last (r ∷ rs) x (each_cons f h) = each_last rs x h

module _ {left m : List ℕ} {s : State} (slot : ℕ) (x : Record) (rest : List ℕ) (here : slot < slots) (F : Fits (record_added s slot x))
    (R : Reached left (laid (record_parts x) ++ rest) m s) where
  added : SlotFits (with_waiting ((at s.channels slot).waiting ++ x ∷ []) (at s.channels slot))
  added = channel-fits s slot (with_waiting ((at s.channels slot).waiting ++ x ∷ []) (at s.channels slot)) here F

  pub record-room : waiting_at m slot < room
  record-room =
      let long = length-append (at s.channels slot).waiting (x ∷ []) in
      rw R.memory (omega (arith, waiting-is R.fits slot here, added.few, long))

  pub record-fits : RecordFits x
  record-fits = each_last (at s.channels slot).waiting x added.records

  pub record-taken : numbers_in (2 ∷ 4 ∷ []) left ≡ x.length ∷ x.reference ∷ []
  record-taken =
      let f = record-fits in
      ap (numbers_in (2 ∷ 4 ∷ [])) R.ahead ∙ numbers-back (record_parts x) rest (f.length-fits, (f.reference-fits, tt))

  pub record-reached : {behind after : List ℕ} (size reference : ℕ) → behind ≡ drop record_bytes left → size ≡ x.length → reference ≡ x.reference
      → (place : ℕ) → Ends m slot place
      → ((t : State) → Fits t → m ≡ bytes_of t → Ends m slot place → after ≡ bytes_of (record_added t slot (record { length = size; reference = reference })))
      → Reached behind rest after (record_added s slot x)
  record-reached size reference passed size_is reference-is place ends appended =
      record {
        ahead = passed ∙ ap (drop record_bytes) R.ahead ∙ parts-passed (record_parts x) rest;
        memory = rw (size_is, reference-is) at (appended s R.fits R.memory ends);
        fits = F;
      }

  pub record-place : (place : ℕ) → Ends m slot place → place < cells
  record-place place ends =
      let cs = (record_added s slot x).channels in
      let all = run-few F in
      let grown : length (run_of cs) ≡ suc (length (run_of s.channels)) = ap length (sym (run_insert s.channels slot x (omega (arith, R.fits.size)))) ∙ length-insert_at (before s.channels (suc slot)) x (run_of s.channels) in
      let run : first_at m slots ≡ length (run_of s.channels) = rw R.memory (total-is R.fits) in
      omega (arith, all, grown, run, ends.1)

-- ---- records, one after the other

each_take : (n : ℕ) {rs : List Record} → Each RecordFits rs → Each RecordFits (take n rs)
each_take zero h = each_nil
each_take (suc n) each_nil = each_nil
each_take (suc n) (each_cons f h) = each_cons f (each_take n h)

length-take-most : (n : ℕ) (rs : List Record) → length (take n rs) ≤ length rs
length-take-most zero rs = omega arith
length-take-most (suc n) [] = omega arith
length-take-most (suc n) (r ∷ rs) = omega (arith, length-take-most n rs)

-- where a queue has room, so has its beginning
queue_part : (s : State) (slot : ℕ) (xs : List Record) (n : ℕ) → slot < slots → Fits (queue_now s slot xs) → Fits (queue_now s slot (take n xs))
queue_part s slot xs n here F =
    let c = with_waiting xs (at s.channels slot) in
    let l : slot < length s.channels = within s slot c here F in
    let C : SlotFits c = channel-fits s slot c here F in
    let few : length (take n xs) ≤ length xs = length-take-most n xs in
    let now : at (queue_now s slot xs).channels slot ≡ c = at-channel s slot c l in
    let less : length (take n xs) ≤ length (at (queue_now s slot xs).channels slot).waiting = rw now few in
    let part = fits_queue slot (take n xs) F here (omega (arith, C.few)) (each_take n C.records)
    (fewer F slot (with_waiting (take n xs) (at (queue_now s slot xs).channels slot)) here less) in
    rw (queued_channel s slot c (take n xs) l) at part

records-ahead : (xs : List Record) (i : ℕ) (rest : List ℕ) → i < length xs
    → records_bytes (drop i xs) ++ rest ≡ laid (record_parts (get_or xs i no_record)) ++ (records_bytes (drop (i + 1) xs) ++ rest)
unfolding records_bytes
records-ahead xs i rest l =
    let x = get_or xs i no_record in
    rw (add-one i, drop-cons xs i no_record l) (append_assoc (laid (record_parts x)) (records_bytes (drop (suc i) xs)) rest)

module _ (left memory : List ℕ) (s : State) (slot : ℕ) (here : slot < slots) (xs : List Record) (rest : List ℕ) (F : Fits (queue_now s slot xs)) (i : ℕ) (l : i < length xs)
    (R : Reached left (records_bytes (drop i xs) ++ rest) memory (queue_now s slot (take i xs))) where
  pub records-step : {behind-it after : List ℕ} → NoneBehind s slot → (place : ℕ) → place ≡ before s.channels slot + i
      → ((t : State) (x : Record) (more : List ℕ) → Fits (record_added t slot x) → Ends memory slot place → Reached left (laid (record_parts x) ++ more) memory t
      → Reached behind-it more after (record_added t slot x))
      → Reached behind-it (records_bytes (drop (i + 1) xs) ++ rest) after (queue_now s slot (take (i + 1) xs))
  records-step behind place place_is step =
      let x = get_or xs i no_record in
      let inside : slot < length s.channels = within s slot (with_waiting xs (at s.channels slot)) here F in
      let short : length (take i xs) ≡ i = length-take-le i xs (omega arith) in
      let ends : Ends memory slot place = rw place_is (rw short at (queue_ends s slot (take i xs) inside behind R.fits R.memory)) in
      let more : take (i + 1) xs ≡ take i xs ++ x ∷ [] = ap (λ (n : ℕ). take n xs) (add-one i) ∙ take-suc xs i no_record l in
      let grown : record_added (queue_now s slot (take i xs)) slot x ≡ queue_now s slot (take (i + 1) xs)
      = queued_more s slot inside (take i xs) x ∙ ap (queue_now s slot) (sym more) in
      let done = step (queue_now s slot (take i xs)) x (records_bytes (drop (i + 1) xs) ++ rest) (rw grown (queue_part s slot xs (i + 1) here F)) ends (rw (records-ahead xs i rest l) at R) in
      rw grown at done

pub records-ended : {left memory : List ℕ} (s : State) (slot : ℕ) (xs : List Record) (i : ℕ) → length xs ≤ i → (rest : List ℕ)
    → Reached left (records_bytes (drop i xs) ++ rest) memory (queue_now s slot (take i xs)) → Reached left rest memory (queue_now s slot xs)
unfolding records_bytes
records-ended s slot xs i l rest R =
    let none : drop i xs ≡ [] = drop_of_length-le xs l in
    let all : take i xs ≡ xs = take_all i xs l in
    rw (none, all) at R

-- the place that is read off a memory whose slot has no records yet
pub place_read : (s : State) (slot : ℕ) (m : List ℕ) → slot < slots → NoneBehind s slot → Fits (queue_now s slot []) → m ≡ bytes_of (queue_now s slot []) → first_at m slots ≡ before s.channels slot
place_read s slot m here behind F e =
    let inside : slot < length s.channels = within s slot (with_waiting [] (at s.channels slot)) here F in
    (queue_ends s slot [] inside behind F e).1 ∙ add-zero (before s.channels slot)
