-- Records and entries written one after the other, as they stand in a lent memory.
use mathlib.Core.Path.{◌≡◌, refl, sym, ap, ◌∙◌}
use mathlib.Core.Bool.{true}
use mathlib.Core.List.{List, [], ◌∷◌, ◌++◌, append_assoc, append-nil}
use Prim.Native.Nat.{ℕ, ◌+◌, ◌-◌, ◌*◌, ◌≤◌, ◌<◌}
use native.Mathlib.Numerals.{add-one}
use native.Mathlib.Nat.{mul-le-mul_right, add-mul}
use native.Mathlib.Omega.{arith}
use lib.ListN.{length}
use Rattle.lists.specs.Tabs.{tab}
use Rattle.lists.proofs.TabLaws.{length-tab, tab-last}
use Rattle.rules.specs.Numbers.{slots, cells}
use Rattle.rules.specs.State.{Record, Channel}
use Rattle.memory.specs.Names as the
use Rattle.memory.specs.Layout.{run_of, base_length}
use Rattle.memory.specs.Head.{head_at}
use Rattle.memory.specs.Memory.{sound_base}
use Rattle.memory.specs.Reading.{byte_in, waiting_at, first_at, record_at, channel_at, state_of}
use Rattle.memory.specs.declared.heads.Head.{Head}
use Rattle.memory.proofs.BytesOfState.{kind-there}
use Rattle.memory.proofs.RunOfSlots.{run-read}
use Rattle.memory.proofs.RunEdits.{first-le, first_next}
use Rattle.memory.proofs.SoundBytes.{base-only}
use Rattle.memory.proofs.SoundFits.{sound-fits}
use Rattle.memory.proofs.Fitting.{run-few}
use Rattle.memory.proofs.OneMemory.{base-sound}
use Rattle.std.specs.Int.{bytes_high_first}
use Rattle.image.specs.Parts.{high_first, part, laid}
use Rattle.image.specs.declared.parts.Part.{Part}
use Rattle.image.specs.Image.{wide, length_width, record_bytes, record_parts, records_bytes, slot_parts, fixed, entry, entries}
use Rattle.image.proofs.LaidLaws.{same-bytes}
use Rattle.image.proofs.RoundTrip.{length-records}
use Rattle.image.proofs.Lengths.{length-entries}

-- ---- records

records_append : (rs qs : List Record) → records_bytes (rs ++ qs) ≡ records_bytes rs ++ records_bytes qs
unfolding records_bytes
records_append [] qs = refl
records_append (r ∷ rs) qs =
    ap (λ (l : List ℕ). laid (record_parts r) ++ l) (records_append rs qs) ∙ sym (append_assoc (laid (record_parts r)) (records_bytes rs) (records_bytes qs))

record-is : (r : Record) → bytes_high_first 2 r.length ++ bytes_high_first 4 r.reference ≡ laid (record_parts r)
unfolding laid
record-is r =
    ap (λ (l : List ℕ). l ++ bytes_high_first 4 r.reference) (same-bytes 2 r.length)
    ∙ ap (λ (l : List ℕ). high_first 2 r.length ++ l) (same-bytes 4 r.reference ∙ sym (append-nil (high_first 4 r.reference)))

module _ (f : ℕ → Record) where
  pub length-records_to : (i : ℕ) → length (records_bytes (tab i f)) ≡ record_bytes * i
  length-records_to i = length-records (tab i f) ∙ ap (λ (n : ℕ). record_bytes * n) (length-tab i f)

  pub records-turn : (i : ℕ) → records_bytes (tab i f) ++ (bytes_high_first 2 (f i).length ++ bytes_high_first 4 (f i).reference) ≡ records_bytes (tab (i + 1) f)
  unfolding records_bytes
  records-turn i =
      ap (λ (l : List ℕ). records_bytes (tab i f) ++ l) (record-is (f i) ∙ sym (append-nil (laid (record_parts (f i)))))
      ∙ sym (records_append (tab i f) (f i ∷ []))
      ∙ ap records_bytes (sym (ap (λ (k : ℕ). tab k f) (add-one i) ∙ tab-last i f))

-- ---- one entry

-- the parts of an entry, as its numbers are read off a memory
abbrev pub parts_read : ℕ → Head → ℕ → List Part
parts_read v h count =
    part (length_width v) (10 + wide v + record_bytes * count)
    ∷ part 1 h.kind
    ∷ part 4 h.ticket
    ∷ part (wide v) h.weight
    ∷ part 2 h.deficit
    ∷ part 2 h.serial
    ∷ part 1 count
    ∷ []

pub parts-are : (m : List ℕ) (i v : ℕ) → byte_in the.kind m i ≤ 2 → parts_read v (head_at m i) (waiting_at m i) ≡ slot_parts v (channel_at m i)
unfolding channel_at
parts-are m i v low = rw (kind-there (byte_in the.kind m i) low, length-tab (waiting_at m i) (λ n. record_at m (first_at m i + n)))

pub entry-is : (m : List ℕ) (i v : ℕ) → byte_in the.kind m i ≤ 2
    → laid (parts_read v (head_at m i) (waiting_at m i)) ++ records_bytes (tab (waiting_at m i) (λ n. record_at m (first_at m i + n))) ≡ entry v (channel_at m i)
unfolding entry channel_at
entry-is m i v low = ap (λ (ps : List Part). laid ps ++ records_bytes (tab (waiting_at m i) (λ n. record_at m (first_at m i + n)))) (parts-are m i v low)

-- ---- all entries

entries_append : (v : ℕ) (cs ds : List Channel) → entries v (cs ++ ds) ≡ entries v cs ++ entries v ds
unfolding entries
entries_append v [] ds = refl
entries_append v (c ∷ cs) ds = ap (λ (l : List ℕ). entry v c ++ l) (entries_append v cs ds) ∙ sym (append_assoc (entry v c) (entries v cs) (entries v ds))

-- the entries of the slots before slot n of a memory
abbrev pub entries_to : ℕ → List ℕ → ℕ → List ℕ
entries_to v m n = entries v (tab n (channel_at m))

pub length-run_to : (m : List ℕ) (n : ℕ) → length (run_of (tab n (channel_at m))) ≡ first_at m n
length-run_to m n = ap length (run-read m n) ∙ length-tab (first_at m n) (record_at m)

pub length_to-slot : (v : ℕ) (m : List ℕ) (n : ℕ) → length (entries_to v m n) ≡ n * fixed v + record_bytes * first_at m n
length_to-slot v m n =
    length-entries v (tab n (channel_at m)) ∙ rw (length-tab n (channel_at m), length-run_to m n)

pub first-total : (m : List ℕ) (n : ℕ) → n < slots → first_at m (n + 1) ≤ first_at m slots
first-total m n l = let e : n + 1 + (slots - 1 - n) ≡ slots = omega arith in rw e at (first-le m (n + 1) (slots - 1 - n))

-- an entry more has room where all have
pub slot-room : (v : ℕ) (m : List ℕ) (n : ℕ) → n < slots
    → length (entries_to v m n) + (fixed v + record_bytes * waiting_at m n) ≤ slots * fixed v + record_bytes * first_at m slots
slot-room v m n l =
    let some-slots : (n + 1) * fixed v ≤ slots * fixed v = mul-le-mul_right (fixed v) (omega arith) in
    omega (arith, length_to-slot v m n, first_next m n, first-total m n l, add-mul n 1 (fixed v))

pub entries-turn : (v : ℕ) (m : List ℕ) (n : ℕ) → entries_to v m n ++ entry v (channel_at m n) ≡ entries_to v m (n + 1)
unfolding entries
entries-turn v m n =
    ap (λ (l : List ℕ). entries_to v m n ++ l) (sym (append-nil (entry v (channel_at m n))))
    ∙ sym (entries_append v (tab n (channel_at m)) (channel_at m n ∷ []))
    ∙ ap (entries v) (sym (ap (λ (k : ℕ). tab k (channel_at m)) (add-one n) ∙ tab-last n (channel_at m)))

-- ---- a sound base

module _ (m : List ℕ) (e : sound_base m ≡ true) where
  pub sound-size : length m ≡ base_length
  sound-size = (base-sound m e).size

  pub sound-kind : (i : ℕ) → i < slots → byte_in the.kind m i ≤ 2
  sound-kind = (base-only m e).kinds

  pub sound-total : first_at m slots ≤ cells
  unfolding state_of
  sound-total = let few = run-few (sound-fits (base-sound m e).state) in omega (arith, length-run_to m slots)
