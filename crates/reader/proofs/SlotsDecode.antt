-- The entries of all slots read one after the other into a fresh memory: the slots passed are the state's, the others are free.
use Rattle.std.proofs.Common.{◌≡◌, ℕ, zero, suc, ◌+◌, ◌<◌, ◌≤◌, Bool, true, false, ltb, List, [], ◌∷◌, ◌++◌, length, take, drop, set, sym, refl, ap, ◌∙◌, ⊎_elim, not-suc-le-zero, eq-or-lt_of_le, add-one, arith, length-set, take-append-drop, drop-cons, get_or-set_other, take-suc, get_or-set_same, ext_get_or, ltb-false, ltb-true}
use lib.ListN.{get_or-eq_default, get_or-replicate}
use Rattle.rules.specs.Numbers.{slots, shared}
use Rattle.rules.specs.State.{Channel, State, blank, fresh, at, beyond, shared_use, with_channel}
use Rattle.rules.proofs.Pool.{shared-set, shared_append}
use Rattle.memory.specs.Fits.{Fits}
use Rattle.memory.specs.Layout.{bytes_of}
use Rattle.memory.specs.Reading.{waiting_at, first_at}
use Rattle.memory.proofs.Fitting.{fits-channel}
use Rattle.memory.proofs.Lanes.{waiting-is}
use Rattle.memory.proofs.RunLaws.{before, before-suc, before-set}
use Rattle.reader.proofs.RunEnd.{run_ends}
use Rattle.image.specs.Image.{entry, entries}
use Rattle.reader.specs.Decoding.{Reached, NoneBehind, with_channels, done_to}

length-done : (cs : List Channel) (i : ℕ) → length (done_to cs i) ≡ slots
unfolding done_to
length-done cs zero = refl
length-done cs (suc i) = length-set (done_to cs i) i (at cs i) ∙ length-done cs i

-- a slot that is not reached yet is free
done-later : (cs : List Channel) (i j : ℕ) → i ≤ j → j < slots → at (done_to cs i) j ≡ blank
unfolding done_to
done-later cs zero j l h = get_or-replicate slots j blank blank h
done-later cs (suc i) j l h = get_or-set_other (done_to cs i) i j (at cs i) blank (λ e. omega arith) ∙ done-later cs i j (omega arith) h

-- nor has a slot past the last any records
done-behind : (cs : List Channel) (i j : ℕ) → i ≤ j → (at (done_to cs i) j).waiting ≡ []
done-behind cs i j l = go (ltb j slots) refl
  where
    go : (t : Bool) → ltb j slots ≡ t → (at (done_to cs i) j).waiting ≡ []
    go true e = ap (λ (c : Channel). c.waiting) (done-later cs i j l (ltb-true j slots e))
    go false e =
        let out : length (done_to cs i) ≤ j = omega (arith, length-done cs i, ltb-false j slots e) in
        ap (λ (c : Channel). c.waiting) (get_or-eq_default (done_to cs i) blank out)

done_at : (cs : List Channel) (i j : ℕ) → j < i → i ≤ slots → at (done_to cs i) j ≡ at cs j
unfolding done_to
done_at cs zero j l h = absurd (not-suc-le-zero l)
done_at cs (suc i) j l h =
    let le : j ≤ i = omega arith in
    ⊎_elim
    (λ (e : j ≡ i). rw e (get_or-set_same (done_to cs i) i (at cs i) blank (omega (arith, length-done cs i))))
    (λ (m : j < i). get_or-set_other (done_to cs i) i j (at cs i) blank (λ e. omega arith) ∙ done_at cs i j m (omega arith))
    (eq-or-lt_of_le le)

done_all : (cs : List Channel) → length cs ≡ slots → done_to cs slots ≡ cs
done_all cs e =
    ext_get_or blank (done_to cs slots) cs (length-done cs slots ∙ sym e)
    (λ j l. done_at cs slots j (omega (arith, length-done cs slots)) (omega arith))

pub slots-none : (e : ℕ) (cs : List Channel) → fresh e ≡ with_channels (fresh e) (done_to cs 0)
unfolding done_to fresh
slots-none e cs = refl

-- the slots passed use no more of the shared cells than all do
done-shared : (cs : List Channel) (i : ℕ) → i ≤ slots → length cs ≡ slots → shared_use (done_to cs i) ≡ shared_use (take i cs)
unfolding done_to shared_use
done-shared cs zero h e = refl
done-shared cs (suc i) h e =
    let c = at cs i in
    let free : at (done_to cs i) i ≡ blank = done-later cs i i (omega arith) (omega arith) in
    let more : shared_use (set (done_to cs i) i c) + beyond blank ≡ shared_use (done_to cs i) + beyond c
    = rw free at (shared-set (done_to cs i) i c (omega (arith, length-done cs i))) in
    let last : shared_use (take (suc i) cs) ≡ shared_use (take i cs) + shared_use (c ∷ [])
    = ap shared_use (take-suc cs i blank (omega arith)) ∙ shared_append (take i cs) (c ∷ []) in
    omega (arith, more, last, done-shared cs i (omega arith) e)

take-shared : (cs : List Channel) (i : ℕ) → shared_use (take i cs) ≤ shared_use cs
take-shared cs i =
    let e : shared_use cs ≡ shared_use (take i cs) + shared_use (drop i cs)
    = ap shared_use (sym (take-append-drop i cs)) ∙ shared_append (take i cs) (drop i cs) in
    omega arith

module _ (left memory : List ℕ) (v i e : ℕ) (cs : List Channel) (F : Fits (with_channels (fresh e) cs)) where
  pub slots-step : {behind-it after : List ℕ} (place : ℕ) → place ≡ first_at memory slots → i < slots → Reached left (entries v (drop i cs)) memory (with_channels (fresh e) (done_to cs i))
      → ((s : State) (c : Channel) (rest : List ℕ) → Fits (with_channel s i c) → (at s.channels i).waiting ≡ [] → NoneBehind s i → place ≡ first_at memory slots → Reached left (entry v c ++ rest) memory s
      → Reached behind-it rest after (with_channel s i c))
      → Reached behind-it (entries v (drop (i + 1) cs)) after (with_channels (fresh e) (done_to cs (i + 1)))
  unfolding entries done_to
  slots-step place ends l R step =
      let first : drop i cs ≡ at cs i ∷ drop (suc i) cs = drop-cons cs i blank (omega (arith, F.size)) in
      let empty : (at (done_to cs i) i).waiting ≡ [] = ap (λ (c : Channel). c.waiting) (done-later cs i i (omega arith) l) in
      let behind : NoneBehind (with_channels (fresh e) (done_to cs i)) i = λ j m. done-behind cs i j (omega arith) in
      let pool : shared_use (done_to cs (suc i)) ≤ shared = omega (arith, done-shared cs (suc i) l F.size, take-shared cs (suc i), F.pool) in
      let fits : Fits (with_channel (with_channels (fresh e) (done_to cs i)) i (at cs i)) = fits-channel R.fits i (at cs i) l (F.slot i) pool in
      rw (add-one i) (step (with_channels (fresh e) (done_to cs i)) (at cs i) (entries v (drop (suc i) cs)) fits empty behind ends (rw first at R))

  -- the run ends behind the records of the slot that was passed
  pub slots-place : {behind-it rest after : List ℕ} → i < slots → Reached left (entries v (drop i cs)) memory (with_channels (fresh e) (done_to cs i))
      → Reached behind-it rest after (with_channels (fresh e) (done_to cs (i + 1))) → first_at after slots ≡ first_at memory slots + waiting_at after i
  unfolding done_to
  slots-place {after = after} l R S =
      let one : i + 1 ≡ suc i = omega arith in
      let before-now : first_at memory slots ≡ before (done_to cs i) i = run_ends i (λ j m. done-behind cs i j m) R.fits R.memory in
      let here : waiting_at after i ≡ length (at (done_to cs (i + 1)) i).waiting = rw S.memory (waiting-is S.fits i l) in
      let now : first_at after slots ≡ before (done_to cs (i + 1)) (i + 1) = run_ends (i + 1) (λ j m. done-behind cs (i + 1) j m) S.fits S.memory in
      let parts : before (done_to cs (suc i)) (suc i) ≡ before (done_to cs i) i + length (at (done_to cs (suc i)) i).waiting
      = before-suc (done_to cs (suc i)) i ∙ ap (λ (n : ℕ). n + length (at (done_to cs (suc i)) i).waiting) (before-set (done_to cs i) i (at cs i)) in
      now ∙ ap (λ (k : ℕ). before (done_to cs k) k) one ∙ parts
      ∙ ap (λ (n : ℕ). n + length (at (done_to cs (suc i)) i).waiting) (sym before-now)
      ∙ ap (λ (n : ℕ). first_at memory slots + n) (sym (here ∙ ap (λ (k : ℕ). length (at (done_to cs k) i).waiting) one))

  pub slots-first : memory ≡ bytes_of (fresh e) → Fits (fresh e) → 0 ≡ first_at memory slots
  unfolding before fresh done_to
  slots-first m G = sym (run_ends {s = fresh e} 0 (λ j l. done-behind cs 0 j l) G m)

  pub slots-ended : i ≡ slots → Reached left (entries v (drop i cs)) memory (with_channels (fresh e) (done_to cs i))
      → memory ≡ bytes_of (with_channels (fresh e) cs)
  slots-ended last R =
      let all : done_to cs slots ≡ cs = done_all cs F.size in
      rw (last, all) at R.memory
