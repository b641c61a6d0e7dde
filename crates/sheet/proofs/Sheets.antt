-- What the sheet's words mean. Two lists are the same, or there is a place up to which they agree and no further; the sheet tells which.
use Prim.Native.Nat.{ℕ, zero, suc, ◌+◌, ◌≤◌}
use mathlib.Core.Path.{◌≡◌, refl, sym, ap, ◌∙◌}
use mathlib.Core.Bool.{false}
use mathlib.Core.Logic.{◌⊎◌, inl, inr}
use mathlib.Core.List.{List, [], ◌∷◌, ◌++◌, append-nil}
use native.Mathlib.Omega.{arith}
use lib.Dec.{ltb}
use lib.ListN.{length, get_or, take}
use borrow.Author.Tests.{ltb-false, le-ltb, eq-eqb, ne_eqb}
use Rattle.lists.specs.Slots.{occurs}
use Rattle.lists.proofs.SlotsLaws.{if_eq}
use Rattle.answers.specs.Answer.{too_many, bad_weight, given, ◌gives◌}
use Rattle.answers.proofs.Answers.{checked-given, given_inj}
use Rattle.spread.specs.Round.{round_of}
use Rattle.spread.proofs.RoundLaws.{round-occurs, round-length}
use Rattle.sheet.specs.Sheet.{Sheet, right, wrong_at, sheet_from, sheet_of, FirstWrong, rows_most, any_bad, sheet_call}
use Rattle.sheet.proofs.WeightLaws.{visits-most}

-- ---- two lists

no_cons : {x : ℕ} {xs : List ℕ} → ◌≡◌ {A = List ℕ} [] (x ∷ xs) → ⊥
no_cons e = let z : ◌≡◌ {A = ℕ} 0 1 = cc in omega arith

wrong-right : {n : ℕ} → ◌≡◌ {A = Sheet} (wrong_at n) right → ⊥
wrong-right e = let z : ◌≡◌ {A = ℕ} 0 1 = cc in omega arith

-- they are the same, or there is a first place where they differ or one of them has ended
same_or_wrong : (xs ys : List ℕ) → (xs ≡ ys) ⊎ ((n : ℕ) × FirstWrong n xs ys)
same_or_wrong [] [] = inl refl
same_or_wrong [] (y ∷ ys) = inr (0, record { agree = refl; differ = λ e. no_cons e })
same_or_wrong (x ∷ xs) [] = inr (0, record { agree = refl; differ = λ e. no_cons (sym e) })
same_or_wrong (x ∷ xs) (y ∷ ys) = if_eq x y (λ e. go e (same_or_wrong xs ys)) (λ n. inr (0, record { agree = refl; differ = λ e. n cc }))
  where
    go : x ≡ y → (xs ≡ ys) ⊎ ((n : ℕ) × FirstWrong n xs ys) → (x ∷ xs ≡ y ∷ ys) ⊎ ((n : ℕ) × FirstWrong n (x ∷ xs) (y ∷ ys))
    go e (inl q) = inl cc
    go e (inr (n, w)) = let a = w.agree in inr (suc n, record { agree = cc; differ = λ q. w.differ cc })

-- with a first place alike in both, what follows is counted from one place less
later : {n x y : ℕ} {xs ys : List ℕ} → FirstWrong (suc n) (x ∷ xs) (y ∷ ys) → (x ≡ y) × FirstWrong n xs ys
later {n} {x} {y} {xs} {ys} w =
    let a = w.agree in
    let head : x ≡ y = cc in
    let tail : take n xs ≡ take n ys = cc in
    (head, record { agree = tail; differ = λ e. w.differ cc })

-- the place is one of the second list's, or the one behind it
wrong-within : (n : ℕ) (xs ys : List ℕ) → FirstWrong n xs ys → n ≤ length ys
wrong-within zero xs ys w = omega arith
wrong-within (suc n) [] [] w = absurd (w.differ refl)
wrong-within (suc n) [] (y ∷ ys) w = absurd (no_cons w.agree)
wrong-within (suc n) (x ∷ xs) [] w = absurd (no_cons (sym w.agree))
wrong-within (suc n) (x ∷ xs) (y ∷ ys) w = omega (arith, wrong-within n xs ys (later w).1)

from-same : (p : ℕ) (xs : List ℕ) → sheet_from p xs xs ≡ right
unfolding sheet_from
from-same p [] = refl
from-same p (x ∷ xs) = rw (eq-eqb x x refl) (from-same (suc p) xs)

from_wrong : (p n : ℕ) (xs ys : List ℕ) → FirstWrong n xs ys → sheet_from p xs ys ≡ wrong_at (p + n)
unfolding sheet_from
from_wrong p n [] [] w = absurd (w.differ refl)
from_wrong p zero [] (y ∷ ys) w = ap wrong_at (omega arith)
from_wrong p (suc n) [] (y ∷ ys) w = absurd (no_cons w.agree)
from_wrong p zero (x ∷ xs) [] w = ap wrong_at (omega arith)
from_wrong p (suc n) (x ∷ xs) [] w = absurd (no_cons (sym w.agree))
from_wrong p zero (x ∷ xs) (y ∷ ys) w = rw (ne_eqb x y (λ e. w.differ cc)) (ap wrong_at (omega arith))
from_wrong p (suc n) (x ∷ xs) (y ∷ ys) w =
    let (same, rest) = later w in
    let s : suc p + n ≡ p + suc n = omega arith in
    rw (eq-eqb x y same) (from_wrong (suc p) n xs ys rest ∙ ap wrong_at s)

-- ---- the sheet

-- "it accepts exactly if the list is the visits": the visits are accepted
pub right-same : (visits : List ℕ) → sheet_of visits visits ≡ right
unfolding sheet_of
right-same visits = from-same 0 visits

-- and nothing else; what isn't has its first wrong place named, and no other place is
pub wrong_first : (rows visits : List ℕ) (n : ℕ) → FirstWrong n rows visits → sheet_of rows visits ≡ wrong_at n
unfolding sheet_of
wrong_first rows visits n w = from_wrong 0 n rows visits w ∙ ap wrong_at (omega arith)

pub same-right : (rows visits : List ℕ) → sheet_of rows visits ≡ right → rows ≡ visits
same-right rows visits e = go (same_or_wrong rows visits)
  where
    go : (rows ≡ visits) ⊎ ((n : ℕ) × FirstWrong n rows visits) → rows ≡ visits
    go (inl q) = q
    go (inr (n, w)) = absurd (wrong-right (sym (wrong_first rows visits n w) ∙ e))

pub first-wrong : (rows visits : List ℕ) (n : ℕ) → sheet_of rows visits ≡ wrong_at n → FirstWrong n rows visits
first-wrong rows visits n e = go (same_or_wrong rows visits)
  where
    go : (rows ≡ visits) ⊎ ((m : ℕ) × FirstWrong m rows visits) → FirstWrong n rows visits
    go (inl q) = absurd (wrong-right (sym e ∙ rw q (right-same visits)))
    go (inr (m, w)) = let told = sym (wrong_first rows visits m w) ∙ e in let s : m ≡ n = cc in rw (← s) w

-- the three ways to be wrong, as document 02 has them
same-beginning : (p : ℕ) (xs ys zs : List ℕ) → sheet_from p (xs ++ ys) (xs ++ zs) ≡ sheet_from (p + length xs) ys zs
unfolding sheet_from
same-beginning p [] ys zs = let s : p + 0 ≡ p = omega arith in rw s refl
same-beginning p (x ∷ xs) ys zs =
    let s : p + suc (length xs) ≡ suc p + length xs = omega arith in
    rw (eq-eqb x x refl, s) (same-beginning (suc p) xs ys zs)

-- another row than the one visited, whether there is a row of that number or not
pub other_row : (xs ys zs : List ℕ) (y z : ℕ) → (y ≡ z → ⊥) → sheet_of (xs ++ y ∷ ys) (xs ++ z ∷ zs) ≡ wrong_at (length xs)
unfolding sheet_of sheet_from
other_row xs ys zs y z n = same-beginning 0 xs (y ∷ ys) (z ∷ zs) ∙ rw (ne_eqb y z n) (ap wrong_at (omega arith))

-- "or the place after the last if the list is too short"
pub too_short : (rows zs : List ℕ) (z : ℕ) → sheet_of rows (rows ++ z ∷ zs) ≡ wrong_at (length rows)
unfolding sheet_of sheet_from
too_short rows zs z = let s : 0 + length rows ≡ length rows = omega arith in rw (append-nil rows, s) at (same-beginning 0 rows [] (z ∷ zs))

-- the first place too many
pub too_long : (visits ys : List ℕ) (y : ℕ) → sheet_of (visits ++ y ∷ ys) visits ≡ wrong_at (length visits)
unfolding sheet_of sheet_from
too_long visits ys y = let s : 0 + length visits ≡ length visits = omega arith in rw (append-nil visits, s) at (same-beginning 0 visits (y ∷ ys) [])

-- ---- the call

module _ (ws rows : List ℕ) where
  call-given : {s : Sheet} → sheet_call ws rows ≡ given s → (length ws ≤ rows_most) × (any_bad ws ≡ false) × (sheet_of rows (round_of ws) ≡ s)
  unfolding sheet_call
  call-given e =
      let checks = (ltb rows_most (length ws) gives too_many) ∷ (any_bad ws gives bad_weight) ∷ [] in
      let (passed, told) = checked-given checks (given (sheet_of rows (round_of ws))) e in
      (ltb-false rows_most (length ws) passed.0, passed.1.0, given_inj told)

  -- a sheet that is accepted is the round, so each row stands on it as often as its weight says and no other row does
  pub accepted : sheet_call ws rows ≡ given right → rows ≡ round_of ws
  accepted e = same-right rows (round_of ws) (call-given e).2

  pub accepted-occurs : sheet_call ws rows ≡ given right → (j : ℕ) → occurs j rows ≡ get_or ws j 0
  accepted-occurs e j = ap (occurs j) (accepted e) ∙ round-occurs ws j

  -- a place that is named is the first wrong one, and at most 262,080
  pub named-first : (n : ℕ) → sheet_call ws rows ≡ given (wrong_at n) → FirstWrong n rows (round_of ws)
  named-first n e = first-wrong rows (round_of ws) n (call-given e).2

  pub named_small : (n : ℕ) → sheet_call ws rows ≡ given (wrong_at n) → n ≤ 262080
  named_small n e =
      let (few, fine, told) = call-given e in
      omega (arith, wrong-within n rows (round_of ws) (named-first n e), round-length ws, visits-most ws few fine)

-- and the round is accepted
pub accepts : (ws : List ℕ) → length ws ≤ rows_most → any_bad ws ≡ false → sheet_call ws (round_of ws) ≡ given right
unfolding sheet_call
accepts ws few fine = rw (le-ltb rows_most (length ws) few, fine) (ap given (right-same (round_of ws)))
