-- The notes worked out afresh: after k slots they are right for the bytes of these, and after all of them a sound state's base has that state's own notes behind it.
use Rattle.std.proofs.Common.{◌≡◌, ℕ, ◌+◌, ◌%◌, ◌<◌, ◌≤◌, Bool, true, false, ltb, List, ◌++◌, length, replicate, sym, refl, ap, ◌∙◌, mod-eq_of_lt, arith, length-append, ltb-false, ltb-true, le-ltb, lt-ltb, eq-eqb, ne_eqb}
use lib.ListN.{length-replicate}
use lib.Seq.{drop-append_seam}
use Rattle.lists.specs.Tabs.{tab}
use Rattle.lists.proofs.SlotsLaws.{if_eq}
use Rattle.rules.specs.Numbers.{slots, cells}
use Rattle.rules.specs.State.{State}
use Rattle.rules.specs.Fullest.{inserted, ranked, fullest_by, bytes_in}
use Rattle.rules.specs.Facts.{Sound}
use Rattle.rules.proofs.Filling.{bytes_most}
use Rattle.memory.specs.Fields.{filled, line, lines, lay}
use Rattle.memory.specs.Layout.{bytes_of, notes_by, memory_of, base_length, memory_length}
use Rattle.memory.specs.Memory.{base, noted, sound_base}
use Rattle.memory.specs.Reading.{waiting_at, first_at, record_at, state_of}
use Rattle.memory.specs.Records.{cell_of}
use Rattle.memory.specs.declared.records.Cell.{Cell}
use Rattle.memory.proofs.Base.{length-base}
use Rattle.memory.proofs.RunEdits.{first_next}
use Rattle.memory.proofs.RoundTrip.{base-state}
use Rattle.memory.proofs.NoteLaws.{length-noted}
use Rattle.memory.proofs.OneMemory.{sound-base}
use Rattle.fullest.specs.Noted.{NotedBy, now_in}
use Rattle.soundness.specs.Notes.{length_at, sum_of}
use Rattle.soundness.proofs.NotesChecked.{sum-read}
use Rattle.soundness.proofs.MemoryNoted.{noted_other, base-behind, memory-noted-by}
use Rattle.soundness.proofs.SumLaws.{eight-turn}
use Rattle.image.specs.Image.{image_of}
use Rattle.reader.specs.Decoding.{bytes_from, no_bytes, bytes_to}
use Rattle.image.proofs.EntryLaws.{first-total, sound-total}

-- ---- a memory of zeros: its notes say that no byte waits, whatever is written to its base

zero-base : base (replicate memory_length 0) ≡ replicate base_length 0
zero-base = refl

zero-notes : noted (replicate memory_length 0) ≡ notes_by no_bytes
unfolding notes_by lay lines line filled tab fullest_by ranked inserted
zero-notes = refl

notes-behind : (β n : List ℕ) → length β ≡ base_length → noted (β ++ n) ≡ n
notes-behind β n e = rw (← e) (drop-append_seam β n)

module _ (m : List ℕ) (zeros : m ≡ replicate memory_length 0) where
  pub zeros-long : length m ≡ memory_length
  zeros-long = ap length zeros ∙ length-replicate {A = ℕ} memory_length 0

  pub zeros-base : base m ≡ replicate base_length 0
  zeros-base = ap base zeros ∙ zero-base

  pub zeros-base-long : length (base m) ≡ base_length
  zeros-base-long = length-base m (omega (arith, zeros-long))

  pub base-written : (β : List ℕ) → length β ≡ base_length → NotedBy no_bytes (β ++ noted m)
  base-written β e =
      record {
        size = omega (arith, length-append β (noted m), length-noted m zeros-long);
        small = λ i. omega arith;
        notes = notes-behind β (noted m) e ∙ ap noted zeros ∙ zero-notes;
      }

-- ---- the bytes of a slot

module _ (b : List ℕ) (p : ℕ) where
  pub bytes-none : (n : ℕ) → cells < p + n → 0 ≡ bytes_from b p n
  unfolding bytes_from
  bytes-none n l = rw (lt-ltb cells (p + n) l) refl

  pub bytes-turn : (i sum r : ℕ) {x : Cell} → sum ≡ sum_of (length_at b) p i % 65536 → x ≡ cell_of (record_at b (p + i)) → r ≡ (sum + x.length) % 65536
      → r ≡ sum_of (length_at b) p (i + 1) % 65536
  unfolding record_at
  bytes-turn i sum r e here g =
      eight-turn (length_at b) p i sum r e (g ∙ ap (λ (x : Cell). (sum + x.length) % 65536) here)

  pub bytes_counted : (n i sum : ℕ) → p + n ≤ cells → i ≡ n → sum ≡ sum_of (length_at b) p i % 65536 → sum ≡ bytes_from b p n
  unfolding bytes_from
  bytes_counted n i sum l q e = rw (le-ltb cells (p + n) l) (e ∙ ap (λ (k : ℕ). sum_of (length_at b) p k % 65536) q)

-- as they are found in a memory whose base is β
pub bytes-there : (β b : List ℕ) (k p n v : ℕ) → b ≡ β → p ≡ first_at β k → n ≡ waiting_at b k → v ≡ bytes_from b p n → v ≡ bytes_from β (first_at β k) (waiting_at β k)
bytes-there β b k p n v same place count e =
    let here : n ≡ waiting_at β k = count ∙ ap (λ (x : List ℕ). waiting_at x k) same in
    e ∙ ap (λ (x : List ℕ). bytes_from x p n) same ∙ ap (λ (q : ℕ). bytes_from β q n) place ∙ ap (bytes_from β (first_at β k)) here

-- and the next slot's first record is behind them
pub place-there : (β b : List ℕ) (k p n : ℕ) → b ≡ β → p ≡ first_at β k → n ≡ waiting_at b k → p + n ≡ first_at β (k + 1)
place-there β b k p n same place count =
    let here : n ≡ waiting_at β k = count ∙ ap (λ (x : List ℕ). waiting_at x k) same in
    omega (arith, first_next β k)

-- ---- slot after slot

-- no bytes more where none wait
pub noted-none : (f : ℕ → ℕ) (b : List ℕ) (k v : ℕ) → v ≡ 0 → f k ≡ 0 → NotedBy f b → NotedBy (now_in f k v) b
noted-none f b k v e h N =
    noted_other f (now_in f k v) b N
    (λ i.
    if_eq i k
    (λ q. rw (q, eq-eqb k k refl, e) h)
    (λ d. rw (ne_eqb i k d) refl))

module _ (β b : List ℕ) where
  pub counted_none : NotedBy no_bytes b → NotedBy (bytes_to β 0) b
  counted_none N = noted_other no_bytes (bytes_to β 0) b N (λ i. rw (le-ltb i 0 (omega arith)) refl)

  -- slot k's bytes are not counted yet
  pub none_yet : (k : ℕ) → bytes_to β k k ≡ 0
  none_yet k = rw (le-ltb k k (omega arith)) refl

  -- slot i's bytes are as they are, unless it is slot k
  same_side : (i k : ℕ) → (i ≡ k → ⊥) → ltb i k ≡ ltb i (k + 1)
  same_side i k d = go (ltb i k) refl
    where
      go : (t : Bool) → ltb i k ≡ t → t ≡ ltb i (k + 1)
      go true q = let l : i < k = ltb-true i k q in sym (lt-ltb i (k + 1) (omega arith))
      go false q = let l : k ≤ i = ltb-false i k q in sym (le-ltb i (k + 1) (omega arith))

  pub counted-turn : (k v : ℕ) → v ≡ bytes_from β (first_at β k) (waiting_at β k) → NotedBy (now_in (bytes_to β k) k v) b → NotedBy (bytes_to β (k + 1)) b
  counted-turn k v e N =
      noted_other (now_in (bytes_to β k) k v) (bytes_to β (k + 1)) b N
      (λ i.
      if_eq i k
      (λ q. rw (q, eq-eqb k k refl, lt-ltb k (k + 1) (omega arith)) e)
      (λ d. rw (ne_eqb i k d, same_side i k d) refl))

  -- ---- and in the end

  counted-bytes : {s : State} → Sound s → β ≡ bytes_of s → (i : ℕ) → i < slots → bytes_to β slots i ≡ bytes_in s.channels i
  unfolding bytes_from
  counted-bytes {s} S e i l =
      let sound : sound_base β ≡ true = rw e (sound-base S) in
      let stands : state_of β ≡ s = ap state_of e ∙ base-state S in
      let sum : sum_of (length_at β) (first_at β i) (waiting_at β i) ≡ bytes_in s.channels i = sum-read β i l ∙ ap (λ (t : State). bytes_in t.channels i) stands in
      let few : first_at β i + waiting_at β i ≤ cells = omega (arith, first_next β i, first-total β i l, sound-total β sound) in
      rw (lt-ltb i slots l, le-ltb cells (first_at β i + waiting_at β i) few, sum) (mod-eq_of_lt (omega (arith, bytes_most S i)))

  pub counted-all : NotedBy (bytes_to β slots) b → base b ≡ β → (s : State) → Sound s → β ≡ bytes_of s → b ≡ memory_of s
  counted-all N p s S e = memory-noted-by (bytes_to β slots) s b (p ∙ e) N (counted-bytes S e)

-- ---- the base of a good image, and the notes behind it

pub built_noted : (image β n m : List ℕ) (v : ℕ) → length β ≡ base_length → ((s : State) → Sound s → s.parked ≡ false → image ≡ image_of v s → β ≡ bytes_of s)
    → ((s : State) → Sound s → base (β ++ n) ≡ bytes_of s → m ≡ memory_of s) → (s : State) → Sound s → s.parked ≡ false → image ≡ image_of v s → m ≡ memory_of s
built_noted image β n m v size built notes s S unmarked e = notes s S (base-behind β n size ∙ built s S unmarked e)
