-- Fullest on a sound memory: the places of the list read the entries that the rules answer, and zeros behind them.
use Rattle.std.proofs.Common.{◌≡◌, ℕ, zero, suc, ◌+◌, ◌<◌, ◌≤◌, List, [], ◌∷◌, map, length, get_or, take, sym, refl, ap, ◌∙◌, arith}
use lib.ListN.{length-map, get_or-eq_default}
use Rattle.answers.specs.Answer.{given}
use Rattle.rules.specs.Numbers.{slots, listed}
use Rattle.rules.specs.Fullest.{bytes_in, fullest}
use Rattle.rules.specs.Calls.{Entry, entries, fullest_call}
use Rattle.rules.proofs.Parking.{unparked-is}
use Rattle.rules.proofs.Ranked.{fullest-few, fullest-low}
use Rattle.memory.specs.Fields.{filled}
use Rattle.memory.specs.Names as the
use Rattle.memory.specs.Layout.{note_place}
use Rattle.memory.specs.Reading.{state_of, bytes_at, listed_at}
use Rattle.memory.specs.Memory.{replied}
use Rattle.memory.proofs.Base.{bytes_small}
use Rattle.memory.proofs.NoteLaws.{bytes_read, listed-read, place_read}
use Rattle.memory.proofs.OneMemory.{memory-sound, noted-is}
use Rattle.uplink.specs.Told.{nobody, panel, leaving}
use Rattle.uplink.specs.Holds.{TakesCalls}

-- ---- lists of entries

abbrev place : List Entry → ℕ → Entry
place es k = get_or es k nobody

-- five entries at the most are those at the first five places, and the numbers there are theirs, with zeros behind
in_five : (es : List Entry) → length es ≤ listed
    → (take (length es) (place es 0 ∷ place es 1 ∷ place es 2 ∷ place es 3 ∷ place es 4 ∷ []) ≡ es)
    × (length es ∷ (place es 0).slot ∷ (place es 0).bytes ∷ (place es 1).slot ∷ (place es 1).bytes ∷ (place es 2).slot ∷ (place es 2).bytes ∷ (place es 3).slot ∷ (place es 3).bytes ∷ (place es 4).slot ∷ (place es 4).bytes ∷ []
    ≡ panel es)
unfolding filled
in_five [] h = (refl, refl)
in_five (a ∷ []) h = (refl, refl)
in_five (a ∷ b ∷ []) h = (refl, refl)
in_five (a ∷ b ∷ c ∷ []) h = (refl, refl)
in_five (a ∷ b ∷ c ∷ d ∷ []) h = (refl, refl)
in_five (a ∷ b ∷ c ∷ d ∷ e ∷ []) h = (refl, refl)
in_five (a ∷ b ∷ c ∷ d ∷ e ∷ f ∷ es) h = absurd (omega arith)

five : (es : List Entry) → length es ≤ listed → (n : ℕ) (x y z v w : Entry) → n ≡ length es → x ≡ place es 0 → y ≡ place es 1 → z ≡ place es 2 → v ≡ place es 3 → w ≡ place es 4
    → (take n (x ∷ y ∷ z ∷ v ∷ w ∷ []) ≡ es)
    × (n ∷ x.slot ∷ x.bytes ∷ y.slot ∷ y.bytes ∷ z.slot ∷ z.bytes ∷ v.slot ∷ v.bytes ∷ w.slot ∷ w.bytes ∷ [] ≡ panel (take n (x ∷ y ∷ z ∷ v ∷ w ∷ [])))
five es h n x y z v w e p q r s t =
    let (list, numbers) = in_five es h in
    rw (e, p, q, r, s, t, list) (refl, numbers)

-- a place of a list of slots, told of
get_d_told : (f : ℕ → Entry) (is : List ℕ) (k : ℕ) → k < length is → get_or (map f is) k nobody ≡ f (get_or is k 0)
get_d_told f [] k h = absurd (omega arith)
get_d_told f (i ∷ is) zero h = refl
get_d_told f (i ∷ is) (suc k) h = get_d_told f is k (omega arith)

-- ---- a memory that takes calls

module _ (b : List ℕ) (T : TakesCalls b) where
  abbrev full : ℕ → ℕ
  full = bytes_in (state_of b).channels

  abbrev told : List Entry
  told = entries (state_of b)

  small : (i : ℕ) → i < slots → full i < 65536
  small = bytes_small (memory-sound b T.0).state

  counted : listed_at b ≡ length told
  counted = listed-read full small b (noted-is b T.0) ∙ sym (length-map (fullest (state_of b).channels) _)

  -- one place

  pub behind-last : (k : ℕ) → listed_at b ≤ k → nobody ≡ place told k
  behind-last k h = sym (get_or-eq_default told nobody (omega (arith, counted)))

  slot_is : (k : ℕ) → k < listed → get_or b (note_place the.fullest + k) 0 ≡ get_or (fullest (state_of b).channels) k 0
  slot_is k l = place_read full small b (noted-is b T.0) k l

  pub slot-low : (k s : ℕ) → k < listed → s ≡ get_or b (note_place the.fullest + k) 0 → s < slots
  slot-low k s l e = omega (arith, slot_is k l, fullest-low full k)

  pub at_place : (k s m : ℕ) → k < listed → k < listed_at b → s ≡ get_or b (note_place the.fullest + k) 0 → m ≡ bytes_at b s → record { slot = s; bytes = m } ≡ place told k
  at_place k s m l h e q =
      let is : s ≡ get_or (fullest (state_of b).channels) k 0 = e ∙ slot_is k l in
      let bytes : m ≡ full s = q ∙ bytes_read full small b (noted-is b T.0) s (slot-low k s l e) in
      let lt : k < length (fullest (state_of b).channels) = omega (arith, listed-read full small b (noted-is b T.0)) in
      rw (bytes, is) (sym (get_d_told (λ i. record { slot = i; bytes = full i }) (fullest (state_of b).channels) k lt))

  -- all five

  pub five-told : (n : ℕ) (x y z v w : Entry) → n ≡ listed_at b → x ≡ place told 0 → y ≡ place told 1 → z ≡ place told 2 → v ≡ place told 3 → w ≡ place told 4
      → (leaving (given (take n (x ∷ y ∷ z ∷ v ∷ w ∷ []))) b ≡ replied b (fullest_call (state_of b)))
      × (n ∷ x.slot ∷ x.bytes ∷ y.slot ∷ y.bytes ∷ z.slot ∷ z.bytes ∷ v.slot ∷ v.bytes ∷ w.slot ∷ w.bytes ∷ [] ≡ panel (take n (x ∷ y ∷ z ∷ v ∷ w ∷ [])))
  unfolding fullest_call
  five-told n x y z v w e p q r s t =
      let few : length told ≤ listed = omega (arith, counted, listed-read full small b (noted-is b T.0), fullest-few full) in
      let (list, numbers) = five told few n x y z v w (e ∙ counted) p q r s t in
      let says : fullest_call (state_of b) ≡ given (record { fields = told; state = state_of b }) = unparked-is (state_of b) _ T.1 in
      (rw (list, says) (ap (leaving (given told)) (sym (memory-sound b T.0).bytes)), numbers)
