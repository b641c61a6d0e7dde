-- The line at a place: the bytes up to its end, and the lines of a text one after the other.
use mathlib.Core.Path.{◌≡◌, refl, sym, ap, ◌∙◌}
use mathlib.Core.Bool.{Bool, true, false}
use mathlib.Core.List.{List, [], ◌∷◌}
use Prim.Native.Nat.{ℕ, suc, zero-le, suc-le-suc, ◌+◌, ◌-◌, min, ◌≤◌, ◌<◌}
use native.Mathlib.Omega.{arith}
use lib.Dec.{eqb, leb, ltb}
use lib.ListN.{length, get_or, take, drop, drop_of_length-le, length-drop}
use lib.Seq.{drop-cons, drop-drop, take_all}
use borrow.Author.Tests.{ltb-false, leb-true, leb-false}
use Rattle.std.specs.Prelude.{Option, Some, None, position}
use Rattle.std.specs.List.{position_or_len}
use Rattle.std.proofs.lemmas.List.Recursion.{is_position_or_len}
use Rattle.text.specs.Lines.{line_of, after_line, onto, lines_of, line_at, line_end, line_after}

-- ---- By the byte at the front.

-- t where a line feed stands at the front, and f where another byte does
by_feed : {A : Type 0} (c : ℕ) → (eqb c 10 ≡ true → A) → (eqb c 10 ≡ false → A) → A
by_feed {A} c t f = go (eqb c 10) refl
  where
    go : (b : Bool) → eqb c 10 ≡ b → A
    go true e = t e
    go false e = f e

line_of_feed : (c : ℕ) (cs : List ℕ) → eqb c 10 ≡ true → line_of (c ∷ cs) ≡ []
unfolding line_of
line_of_feed c cs e = rw e

line_of-byte : (c : ℕ) (cs : List ℕ) → eqb c 10 ≡ false → line_of (c ∷ cs) ≡ c ∷ line_of cs
unfolding line_of
line_of-byte c cs e = rw e

after_line_feed : (c : ℕ) (cs : List ℕ) → eqb c 10 ≡ true → after_line (c ∷ cs) ≡ cs
unfolding after_line
after_line_feed c cs e = rw e

after_line-byte : (c : ℕ) (cs : List ℕ) → eqb c 10 ≡ false → after_line (c ∷ cs) ≡ after_line cs
unfolding after_line
after_line-byte c cs e = rw e

lines_of_feed : (c : ℕ) (cs : List ℕ) → eqb c 10 ≡ true → lines_of (c ∷ cs) ≡ [] ∷ lines_of cs
unfolding lines_of
lines_of_feed c cs e = rw e

lines_of-byte : (c : ℕ) (cs : List ℕ) → eqb c 10 ≡ false → lines_of (c ∷ cs) ≡ onto c (lines_of cs)
unfolding lines_of
lines_of-byte c cs e = rw e

-- ---- The first line and what follows it.

pub line_of-length : (l : List ℕ) → length (line_of l) ≤ length l
unfolding line_of
line_of-length [] = zero-le
line_of-length (c ∷ cs) = by_feed c (λ e. rw (line_of_feed c cs e) zero-le) (λ e. rw (line_of-byte c cs e) (suc-le-suc (line_of-length cs)))

pub take-line_of : (l : List ℕ) → take (length (line_of l)) l ≡ line_of l
unfolding line_of
take-line_of [] = refl
take-line_of (c ∷ cs) = by_feed c (λ e. rw (line_of_feed c cs e)) (λ e. rw (line_of-byte c cs e) (ap (λ (t : List ℕ). c ∷ t) (take-line_of cs)))

pub drop-line_of : (l : List ℕ) → drop (suc (length (line_of l))) l ≡ after_line l
unfolding line_of after_line
drop-line_of [] = refl
drop-line_of (c ∷ cs) = by_feed c (λ e. rw (line_of_feed c cs e, after_line_feed c cs e)) (λ e. rw (line_of-byte c cs e, after_line-byte c cs e) (drop-line_of cs))

-- the lines of a text that isn't empty: the first, and those of what follows it
pub lines_of-first : (c : ℕ) (cs : List ℕ) → lines_of (c ∷ cs) ≡ line_of (c ∷ cs) ∷ lines_of (after_line (c ∷ cs))
unfolding line_of after_line lines_of
lines_of-first c [] = by_feed c (λ e. rw e) (λ e. rw e)
lines_of-first c (d ∷ ds) = by_feed c
    (λ e. rw (lines_of_feed c (d ∷ ds) e, line_of_feed c (d ∷ ds) e, after_line_feed c (d ∷ ds) e))
    (λ e. lines_of-byte c (d ∷ ds) e
    ∙ ap (onto c) (lines_of-first d ds)
    ∙ ap (λ (l : List ℕ). (c ∷ line_of (d ∷ ds)) ∷ lines_of l) (sym (after_line-byte c (d ∷ ds) e))
    ∙ ap (λ (l : List ℕ). l ∷ lines_of (after_line (c ∷ d ∷ ds))) (sym (line_of-byte c (d ∷ ds) e)))

-- nothing stands past the end
drop_min : (k : ℕ) (s : List ℕ) → drop k s ≡ drop (min k (length s)) s
drop_min k s = go (leb k (length s)) refl
  where
    go : (b : Bool) → leb k (length s) ≡ b → drop k s ≡ drop (min k (length s)) s
    go true e =
        let h : k ≤ length s = leb-true k (length s) e in
        let same : k ≡ min k (length s) = omega arith in
        ap (λ (n : ℕ). drop n s) same
    go false e =
        let h : length s < k = leb-false k (length s) e in
        drop_of_length-le s {i = k} (omega arith) ∙ sym (drop_of_length-le s {i = min k (length s)} (omega arith))

-- ---- The line at a place.

module _ (s : List ℕ) (at : ℕ) where
  -- the bytes up to the end
  pub line-bytes : take (line_end s at - at) (drop at s) ≡ line_at s at
  line-bytes =
      let n : line_end s at - at ≡ length (line_at s at) = omega arith in
      ap (λ (k : ℕ). take k (drop at s)) n ∙ take-line_of (drop at s)

  -- past the line feed
  pub line-after : drop (line_end s at + 1) s ≡ after_line (drop at s)
  line-after =
      let n : line_end s at + 1 ≡ at + suc (length (line_at s at)) = omega arith in
      ap (λ (k : ℕ). drop k s) n ∙ sym (drop-drop (suc (length (line_at s at))) at s) ∙ drop-line_of (drop at s)

  -- the lines from a place on: the one there, and those past its line feed
  pub lines_at : at < length s → lines_of (drop at s) ≡ line_at s at ∷ lines_of (drop (line_end s at + 1) s)
  lines_at h =
      let here : drop at s ≡ get_or s at 0 ∷ drop (suc at) s = drop-cons s at 0 h in
      ap lines_of here
      ∙ lines_of-first (get_or s at 0) (drop (suc at) s)
      ∙ ap (λ (t : List ℕ). line_of t ∷ lines_of (after_line t)) (sym here)
      ∙ ap (λ (t : List ℕ). line_at s at ∷ lines_of t) (sym line-after)

  -- ---- From a line to the next.
  pub after-within : line_after s at ≤ length s
  after-within = omega arith

  pub after_on : at < length s → at < line_after s at
  after_on h = omega arith

  pub lines_after : at < length s → lines_of (drop at s) ≡ line_at s at ∷ lines_of (drop (line_after s at) s)
  lines_after h = lines_at h ∙ ap (λ (t : List ℕ). line_at s at ∷ lines_of t) (drop_min (line_end s at + 1) s)

-- ---- The end of the line, by the first line feed.

line-feed : (l : List ℕ) → length (line_of l) ≡ position_or_len (λ b. eqb b 10) l
unfolding line_of
line-feed = is_position_or_len (λ l. length (line_of l)) (λ b. eqb b 10) refl (λ c cs. by_feed c (λ e. rw (line_of_feed c cs e, e)) (λ e. rw (line_of-byte c cs e, e) (omega arith)))

module _ (s : List ℕ) (at : ℕ) where
  -- what is left of the text
  rest : position (λ b. eqb b 10) (take (length s - at) (drop at s)) ≡ position (λ b. eqb b 10) (drop at s)
  rest = ap (position (λ b. eqb b 10)) (take_all (length s - at) (drop at s) (omega (arith, length-drop at s)))

  pub end_feed : (n : ℕ) → Some n ≡ position (λ b. eqb b 10) (take (length s - at) (drop at s)) → at + n ≡ line_end s at
  end_feed n e = go (ltb (position_or_len (λ b. eqb b 10) (drop at s)) (length (drop at s))) refl
    where
      go : (t : Bool) → ltb (position_or_len (λ b. eqb b 10) (drop at s)) (length (drop at s)) ≡ t → at + n ≡ line_end s at
      go true h =
          let found : Some n ≡ Some (position_or_len (λ b. eqb b 10) (drop at s)) = e ∙ rest ∙ rw h in
          let same : n ≡ position_or_len (λ b. eqb b 10) (drop at s) = cc in
          omega (arith, same, line-feed (drop at s))
      go false h = let apart : ◌≡◌ {A = Option ℕ} (Some n) None = e ∙ rest ∙ rw h in cc

  pub end-past : at ≤ length s → None ≡ position (λ b. eqb b 10) (take (length s - at) (drop at s)) → length s ≡ line_end s at
  end-past l e = go (ltb (position_or_len (λ b. eqb b 10) (drop at s)) (length (drop at s))) refl
    where
      go : (t : Bool) → ltb (position_or_len (λ b. eqb b 10) (drop at s)) (length (drop at s)) ≡ t → length s ≡ line_end s at
      go true h = let apart : ◌≡◌ {A = Option ℕ} None (Some (position_or_len (λ b. eqb b 10) (drop at s))) = e ∙ rest ∙ rw h in cc
      go false h =
          let none : length (drop at s) ≤ position_or_len (λ b. eqb b 10) (drop at s) = ltb-false _ _ h in
          omega (arith, none, line-feed (drop at s), line_of-length (drop at s), length-drop at s)
