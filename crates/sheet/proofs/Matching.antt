-- Holding a list against wanted rows goes part by part, and from the first place on gives what the sheet says.
use Prim.Native.Nat.{ℕ, suc, ◌≤◌, ◌<◌}
use mathlib.Core.Path.{◌≡◌, refl, ◌∙◌}
use mathlib.Core.Bool.{Bool, true, false, cond}
use mathlib.Core.List.{List, [], ◌∷◌, ◌++◌}
use native.Mathlib.Omega.{arith}
use lib.Dec.{eqb, ltb}
use lib.ListN.{length, get_or, drop, drop_of_length-le}
use lib.Seq.{drop-cons}
use borrow.Author.Tests.{ltb-true, ltb-false, lt-ltb, le-ltb, eq-eqb, ne_eqb}
use Rattle.std.specs.Prelude.{Result, Ok, Err}
use Rattle.sheet.specs.Sheet.{Sheet, right, wrong_at, sheet_from, sheet_of}
use Rattle.sheet.specs.Matching.{matched}

-- ---- part by part

module _ (rows : List ℕ) where
  -- what was found goes on behind it, and a wrong place stays the first
  abbrev continued : Result ℕ ℕ → List ℕ → Result ℕ ℕ
  continued (Ok q) ys = matched rows q ys
  continued (Err q) ys = Err q

  matched_append : (xs ys : List ℕ) (p : ℕ) → matched rows p (xs ++ ys) ≡ continued (matched rows p xs) ys
  unfolding matched
  matched_append [] ys p = refl
  matched_append (x ∷ xs) ys p = go (ltb p (length rows)) (eqb (get_or rows p 0) x) (matched_append xs ys (suc p))
    where
      go : (a b : Bool) → matched rows (suc p) (xs ++ ys) ≡ continued (matched rows (suc p) xs) ys
          → cond a (cond b (matched rows (suc p) (xs ++ ys)) (Err p)) (Err p)
          ≡ continued (cond a (cond b (matched rows (suc p) xs) (Err p)) (Err p)) ys
      go true true h = h
      go true false h = refl
      go false b h = refl

  pub found_append : (xs ys : List ℕ) (p q : ℕ) → Ok q ≡ matched rows p xs → matched rows p (xs ++ ys) ≡ matched rows q ys
  found_append xs ys p q e = matched_append xs ys p ∙ rw (← e) refl

  pub wrong_append : (xs ys : List ℕ) (p q : ℕ) → Err q ≡ matched rows p xs → matched rows p (xs ++ ys) ≡ Err q
  wrong_append xs ys p q e = matched_append xs ys p ∙ rw (← e) refl

-- ---- one place

module _ (rows line : List ℕ) (at i : ℕ) (more : i < length line) where
  -- the list has ended there, or another row stands there, or the one wanted
  pub place-ended : length rows ≤ at → matched rows at (drop i line) ≡ Err at
  unfolding matched
  place-ended l = rw (drop-cons line i 0 more, le-ltb at (length rows) l) refl

  pub place_other : at < length rows → (get_or rows at 0 ≡ get_or line i 0 → ⊥) → matched rows at (drop i line) ≡ Err at
  unfolding matched
  place_other l n = rw (drop-cons line i 0 more, lt-ltb at (length rows) l, ne_eqb (get_or rows at 0) (get_or line i 0) n) refl

  pub place_found : at < length rows → get_or rows at 0 ≡ get_or line i 0 → matched rows at (drop i line) ≡ matched rows (suc at) (drop (suc i) line)
  unfolding matched
  place_found l e = rw (drop-cons line i 0 more, lt-ltb at (length rows) l, eq-eqb (get_or rows at 0) (get_or line i 0) e) refl

pub places-end : (rows line : List ℕ) (at i : ℕ) → length line ≤ i → matched rows at (drop i line) ≡ Ok at
unfolding matched
places-end rows line at i l = rw (drop_of_length-le line {i = i} l) refl

-- ---- the whole list

-- what a match makes of the sheet: all wanted was found, and the list ends there or goes on
abbrev pub finish : ℕ → Result ℕ ℕ → Sheet
finish n (Ok q) = cond (eqb q n) right (wrong_at q)
finish n (Err q) = wrong_at q

module _ (rows : List ℕ) where
  -- the list goes Ok at p where nothing or something is wanted, or it has ended there
  too_long : (p : ℕ) → p < length rows → finish (length rows) (matched rows p []) ≡ sheet_from p (drop p rows) []
  unfolding matched sheet_from
  too_long p h = rw (drop-cons rows p 0 h, ne_eqb p (length rows) (λ q. omega arith)) refl

  goes_on : (v : ℕ) (vs : List ℕ) (p : ℕ) → p < length rows
      → finish (length rows) (matched rows (suc p) vs) ≡ sheet_from (suc p) (drop (suc p) rows) vs
      → finish (length rows) (matched rows p (v ∷ vs)) ≡ sheet_from p (drop p rows) (v ∷ vs)
  unfolding matched sheet_from
  goes_on v vs p h later = rw (drop-cons rows p 0 h, lt-ltb p (length rows) h) (go (eqb (get_or rows p 0) v) later)
    where
      go : (b : Bool) → finish (length rows) (matched rows (suc p) vs) ≡ sheet_from (suc p) (drop (suc p) rows) vs
          → finish (length rows) (cond b (matched rows (suc p) vs) (Err p)) ≡ cond b (sheet_from (suc p) (drop (suc p) rows) vs) (wrong_at p)
      go true e = e
      go false e = refl

  ended : (want : List ℕ) (p : ℕ) → p ≡ length rows → finish (length rows) (matched rows p want) ≡ sheet_from p (drop p rows) want
  unfolding matched sheet_from
  ended [] p e = rw (drop_of_length-le rows {i = p} (omega arith), eq-eqb p (length rows) e) refl
  ended (v ∷ vs) p e = rw (drop_of_length-le rows {i = p} (omega arith), le-ltb p (length rows) (omega arith)) refl

  from : (want : List ℕ) (p : ℕ) → p ≤ length rows → finish (length rows) (matched rows p want) ≡ sheet_from p (drop p rows) want
  from [] p l = go (ltb p (length rows)) refl
    where
      go : (b : Bool) → ltb p (length rows) ≡ b → finish (length rows) (matched rows p []) ≡ sheet_from p (drop p rows) []
      go true e = too_long p (ltb-true p (length rows) e)
      go false e = ended [] p (omega (arith, ltb-false p (length rows) e))
  from (v ∷ vs) p l = go (ltb p (length rows)) refl (from vs (suc p))
    where
      go : (b : Bool) → ltb p (length rows) ≡ b
          → (suc p ≤ length rows → finish (length rows) (matched rows (suc p) vs) ≡ sheet_from (suc p) (drop (suc p) rows) vs)
          → finish (length rows) (matched rows p (v ∷ vs)) ≡ sheet_from p (drop p rows) (v ∷ vs)
      go true e later = let h = ltb-true p (length rows) e in goes_on v vs p h (later h)
      go false e later = ended (v ∷ vs) p (omega (arith, ltb-false p (length rows) e))

  -- held against the whole of another list from its first place on, a list gives the sheet
  pub matched_sheet : (want : List ℕ) → finish (length rows) (matched rows 0 want) ≡ sheet_of rows want
  unfolding sheet_of
  matched_sheet want = from want 0 (omega arith)
