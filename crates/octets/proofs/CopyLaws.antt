-- What stands where after a run of bytes has been copied, and how a run grows by one cell.
use Prim.Native.Nat.{ℕ, ◌+◌, ◌-◌, ◌≤◌, ◌<◌}
use mathlib.Core.Path.{◌≡◌, sym, ap, ◌∙◌, subst}
use mathlib.Core.Logic.{⊎_elim}
use mathlib.Core.List.{List, ◌++◌, append-nil}
use native.Mathlib.Omega.{arith}
use native.Mathlib.Nat.{add-zero, eq-or-lt_of_le}
use native.Mathlib.Decide.{dec_lt}
use lib.ListN.{length, get_or, set, take, drop, length-set, length-append, length-drop, take-append-drop, get_or-append}
use lib.Seq.{length-take-le, get_or-append-add, get_or-take, get_or-drop, get_or-set_same, get_or-set_other, ext_get_or}
use Rattle.octets.specs.Slide.{copied}

-- the n bytes of a from i on go to place j of b on
module _ (a : List ℕ) (i j n : ℕ) (b : List ℕ) (from : i + n ≤ length a) (into : j + n ≤ length b) where
  -- the lengths of what stands before the run, of the run, and of both
  length_before : length (take j b) ≡ j
  length_before = length-take-le j b (omega arith)

  length_run : length (take n (drop i a)) ≡ n
  length_run = length-take-le n (drop i a) (omega (arith, length-drop i a))

  length_front : length (take j b ++ take n (drop i a)) ≡ j + n
  length_front = omega (arith, length-append (take j b) (take n (drop i a)), length_before, length_run)

  pub length-copied : length (copied a i j n b) ≡ length b
  unfolding copied
  length-copied =
      omega (arith, length-append (take j b ++ take n (drop i a)) (drop (j + n) b), length_front, length-drop (j + n) b)

  pub copied-before : (x : ℕ) → x < j → get_or (copied a i j n b) x 0 ≡ get_or b x 0
  unfolding copied
  copied-before x h =
      get_or-append (take j b ++ take n (drop i a)) (drop (j + n) b) 0 x (omega (arith, length_front))
      ∙ get_or-append (take j b) (take n (drop i a)) 0 x (omega (arith, length_before))
      ∙ get_or-take j b x 0 h

  pub copied_at : (x : ℕ) → x < n → get_or (copied a i j n b) (j + x) 0 ≡ get_or a (i + x) 0
  unfolding copied
  copied_at x h =
      get_or-append (take j b ++ take n (drop i a)) (drop (j + n) b) 0 (j + x) (omega (arith, length_front))
      ∙ ap (λ (m : ℕ). get_or (take j b ++ take n (drop i a)) (m + x) 0) (sym length_before)
      ∙ get_or-append-add (take j b) (take n (drop i a)) x 0
      ∙ get_or-take n (drop i a) x 0 h
      ∙ get_or-drop i a x 0

  pub copied-after : (x : ℕ) → j + n ≤ x → get_or (copied a i j n b) x 0 ≡ get_or b x 0
  unfolding copied
  copied-after x h =
      let e : x ≡ length (take j b ++ take n (drop i a)) + (x - (j + n)) = omega (arith, length_front) in
      let f : j + n + (x - (j + n)) ≡ x = omega arith in
      ap (λ (m : ℕ). get_or (take j b ++ take n (drop i a) ++ drop (j + n) b) m 0) e
      ∙ get_or-append-add (take j b ++ take n (drop i a)) (drop (j + n) b) (x - (j + n)) 0
      ∙ get_or-drop (j + n) b (x - (j + n)) 0
      ∙ ap (λ (m : ℕ). get_or b m 0) f

  -- a list with these bytes is the one copied into
  pub copied-only : (c : List ℕ) → length c ≡ length b → ((x : ℕ) → x < j → get_or c x 0 ≡ get_or b x 0) → ((x : ℕ) → x < n → get_or c (j + x) 0 ≡ get_or a (i + x) 0)
      → ((x : ℕ) → j + n ≤ x → get_or c x 0 ≡ get_or b x 0) → c ≡ copied a i j n b
  copied-only c len before run after =
      ext_get_or 0 c (copied a i j n b) (len ∙ sym length-copied)
      (λ x l. elim (dec_lt x j) [
        | yes h ↦ before x h ∙ sym (copied-before x h)
        | no h ↦ elim (dec_lt x (j + n)) [
          | yes u ↦
              let e : x ≡ j + (x - j) = omega arith in
              subst (λ (m : ℕ). get_or c m 0 ≡ get_or (copied a i j n b) m 0) (sym e) (run (x - j) (omega arith) ∙ sym (copied_at (x - j) (omega arith)))
          | no u ↦ after x (omega arith) ∙ sym (copied-after x (omega arith))
        ]
      ])

-- no byte copied
pub copied_none : (a : List ℕ) (i j : ℕ) (b : List ℕ) → copied a i j 0 b ≡ b
unfolding copied
copied_none a i j b = rw (add-zero j, append-nil (take j b)) (take-append-drop j b)

-- the byte behind the run is copied too
pub copied_more : (a : List ℕ) (i j n : ℕ) (b : List ℕ) → i + n < length a → j + n < length b
    → set (copied a i j n b) (j + n) (get_or a (i + n) 0) ≡ copied a i j (n + 1) b
copied_more a i j n b from into =
    let len : length (copied a i j n b) ≡ length b = length-copied a i j n b (omega arith) (omega arith) in
    copied-only a i j (n + 1) b (omega arith) (omega arith) (set (copied a i j n b) (j + n) (get_or a (i + n) 0))
    (length-set (copied a i j n b) (j + n) (get_or a (i + n) 0) ∙ len)
    (λ x h. other x (λ e. omega arith) ∙ copied-before a i j n b (omega arith) (omega arith) x h)
    (λ x h. let le : x ≤ n = omega arith in ⊎_elim
    (λ (e : x ≡ n). rw e (get_or-set_same (copied a i j n b) (j + n) (get_or a (i + n) 0) 0 (omega arith)))
    (λ (l : x < n). other (j + x) (λ e. omega arith) ∙ copied_at a i j n b (omega arith) (omega arith) x l)
    (eq-or-lt_of_le le))
    (λ x h. other x (λ e. omega arith) ∙ copied-after a i j n b (omega arith) (omega arith) x (omega arith))
  where
    other : (x : ℕ) → (x ≡ j + n → ⊥) → get_or (set (copied a i j n b) (j + n) (get_or a (i + n) 0)) x 0 ≡ get_or (copied a i j n b) x 0
    other x h = get_or-set_other (copied a i j n b) (j + n) x (get_or a (i + n) 0) 0 h
