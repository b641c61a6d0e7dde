-- The commands read are exactly the lines of the four forms: each number is read where its decimal stands, and the line ends after the last.
use mathlib.Core.Path.{◌≡◌, refl, sym, ap, subst, ◌∙◌}
use mathlib.Core.Bool.{Bool, true, false, cond}
use mathlib.Core.List.{List, [], ◌∷◌, ◌++◌}
use mathlib.Core.Logic.{◌↔◌}
use mathlib.Core.Option.{Option, none, some}
use Prim.Native.Nat.{ℕ, ◌≤◌}
use native.Mathlib.Omega.{arith}
use lib.Dec.{eqb}
use borrow.Author.Tests.{eqb-true}
use Rattle.rules.specs.Calls.{Call, to_open, to_put, to_close, to_next, to_start, to_ask, to_fullest}
use Rattle.text.specs.Digits.{largest, digits, Front, number, nothing, is_digit, spaced_off}
use Rattle.text.specs.Commands.{spaced, shown, Decimals, Shows, by_front, with_number, at_end, open_of, put_of, close_of, command_of}
use Rattle.text.proofs.NumberLaws.{Stops, spaced-read, spaced-written}

-- ---- What is written is read.

-- after a number stands a space or the end
spaced_stops : (ns : List ℕ) → Stops (spaced ns)
unfolding is_digit
spaced_stops [] = tt
spaced_stops (n ∷ ns) = refl

with_number-shown : (f : ℕ → List ℕ → Option Call) (n : ℕ) (ns : List ℕ) → n ≤ largest → with_number f (spaced (n ∷ ns)) ≡ f n (spaced ns)
with_number-shown f n ns h = ap (by_front f) (spaced-read n (spaced ns) h (spaced_stops ns))

shown_read : (c : Call) (l : List ℕ) → shown c ≡ some l → Decimals c → command_of l ≡ some c
unfolding command_of
shown_read (to_open w) l e h =
    let is : l ≡ 79 ∷ spaced (w ∷ []) = cc in
    ap command_of is ∙ with_number-shown (λ w. at_end (to_open w)) w [] h
shown_read (to_put i t n r) l e h =
    let is : l ≡ 80 ∷ spaced (i ∷ t ∷ n ∷ r ∷ []) = cc in
    ap command_of is
    ∙ with_number-shown (λ i. with_number (λ t. with_number (λ n. with_number (λ r. at_end (to_put i t n r))))) i (t ∷ n ∷ r ∷ []) h.0
    ∙ with_number-shown (λ t. with_number (λ n. with_number (λ r. at_end (to_put i t n r)))) t (n ∷ r ∷ []) h.1
    ∙ with_number-shown (λ n. with_number (λ r. at_end (to_put i t n r))) n (r ∷ []) h.2
    ∙ with_number-shown (λ r. at_end (to_put i t n r)) r [] h.3
shown_read (to_close i t) l e h =
    let is : l ≡ 67 ∷ spaced (i ∷ t ∷ []) = cc in
    ap command_of is
    ∙ with_number-shown (λ i. with_number (λ t. at_end (to_close i t))) i (t ∷ []) h.0
    ∙ with_number-shown (λ t. at_end (to_close i t)) t [] h.1
shown_read to_next l e h = let is : l ≡ 78 ∷ [] = cc in ap command_of is
shown_read (to_start n) l e h = let z : ◌≡◌ {A = ℕ} 0 1 = cc in absurd (omega arith)
shown_read (to_ask i t) l e h = let z : ◌≡◌ {A = ℕ} 0 1 = cc in absurd (omega arith)
shown_read to_fullest l e h = let z : ◌≡◌ {A = ℕ} 0 1 = cc in absurd (omega arith)

-- ---- What is read is written.

never : {A : Type 0} {c : Call} → none ≡ some c → A
never e = let z : ◌≡◌ {A = ℕ} 0 1 = cc in absurd (omega arith)

-- a number was read, and f reads what follows it
after-number : {P : Type 0} (f : ℕ → List ℕ → Option Call) (l : List ℕ) (c : Call) → with_number f l ≡ some c
    → ((v : ℕ) (rest : List ℕ) → l ≡ 32 ∷ digits v ++ rest → v ≤ largest → f v rest ≡ some c → P) → P
after-number {P} f l c e then = go (spaced_off l) refl
  where
    go : (t : Front) → spaced_off l ≡ t → P
    go (number v rest) h = let r = spaced-written l v rest h in then v rest r.0 r.1 (ap (by_front f) (sym h) ∙ e)
    go nothing h = never (ap (by_front f) (sym h) ∙ e)

ended : (c d : Call) (l : List ℕ) → at_end c l ≡ some d → (l ≡ []) × (c ≡ d)
ended c d [] e = (refl, cc)
ended c d (x ∷ l) e = never e

spaced-more : (l rest ns : List ℕ) (v : ℕ) → l ≡ 32 ∷ digits v ++ rest → rest ≡ spaced ns → l ≡ spaced (v ∷ ns)
spaced-more l rest ns v p q = p ∙ ap (λ (x : List ℕ). 32 ∷ digits v ++ x) q

-- the line of d, where d is c
shows : (x : ℕ) (l ns : List ℕ) (c d : Call) → shown d ≡ some (x ∷ spaced ns) → Decimals d → l ≡ spaced ns → d ≡ c → Shows (x ∷ l) c
shows x l ns c d s w p q = record { line = ap shown (sym q) ∙ s ∙ ap (λ (t : List ℕ). some (x ∷ t)) (sym p); decimals = subst Decimals q w }

open_written : (l : List ℕ) (c : Call) → open_of l ≡ some c → Shows (79 ∷ l) c
open_written l c e = after-number (λ w. at_end (to_open w)) l c e (λ w a p h e.
    let z = ended (to_open w) c a e in
    shows 79 l (w ∷ []) c (to_open w) refl h (spaced-more l a [] w p z.0) z.1)

close_written : (l : List ℕ) (c : Call) → close_of l ≡ some c → Shows (67 ∷ l) c
close_written l c e = after-number (λ i. with_number (λ t. at_end (to_close i t))) l c e (λ i a p h e.
    after-number (λ t. at_end (to_close i t)) a c e (λ t b q g e.
    let z = ended (to_close i t) c b e in
    shows 67 l (i ∷ t ∷ []) c (to_close i t) refl (h, g) (spaced-more l a (t ∷ []) i p (spaced-more a b [] t q z.0)) z.1))

put_written : (l : List ℕ) (c : Call) → put_of l ≡ some c → Shows (80 ∷ l) c
put_written l c e = after-number (λ i. with_number (λ t. with_number (λ n. with_number (λ r. at_end (to_put i t n r))))) l c e (λ i la pa ha e.
    after-number (λ t. with_number (λ n. with_number (λ r. at_end (to_put i t n r)))) la c e (λ t lb pb hb e.
    after-number (λ n. with_number (λ r. at_end (to_put i t n r))) lb c e (λ n lc pc hc e.
    after-number (λ r. at_end (to_put i t n r)) lc c e (λ r ld pd hd e.
    let z = ended (to_put i t n r) c ld e in
    shows 80 l (i ∷ t ∷ n ∷ r ∷ []) c (to_put i t n r) refl (ha, hb, hc, hd)
    (spaced-more l la (t ∷ n ∷ r ∷ []) i pa (spaced-more la lb (n ∷ r ∷ []) t pb (spaced-more lb lc (r ∷ []) n pc (spaced-more lc ld [] r pd z.0)))) z.1))))

next-written : (l : List ℕ) (c : Call) → at_end to_next l ≡ some c → Shows (78 ∷ l) c
next-written l c e = let z = ended to_next c l e in shows 78 l [] c to_next refl tt z.0 z.1

-- one letter of the four
letter_written : (x y : ℕ) (l : List ℕ) (c : Call) (here other : Option Call) → (here ≡ some c → Shows (y ∷ l) c) → (other ≡ some c → Shows (x ∷ l) c)
    → cond (eqb x y) here other ≡ some c → Shows (x ∷ l) c
letter_written x y l c here other h o e = go (eqb x y) refl
  where
    go : (b : Bool) → eqb x y ≡ b → Shows (x ∷ l) c
    go true z = subst (λ (k : ℕ). Shows (k ∷ l) c) (sym (eqb-true x y z)) (h (ap (λ (b : Bool). cond b here other) (sym z) ∙ e))
    go false z = o (ap (λ (b : Bool). cond b here other) (sym z) ∙ e)

read-shown : (l : List ℕ) (c : Call) → command_of l ≡ some c → Shows l c
unfolding command_of
read-shown [] c e = never e
read-shown (x ∷ l) c e =
    letter_written x 79 l c _ _ (open_written l c)
    (letter_written x 80 l c _ _ (put_written l c)
    (letter_written x 67 l c _ _ (close_written l c) (letter_written x 78 l c _ _ (next-written l c) never))) e

-- ---- The theorem: a line is read as a call exactly where it is the line of that call, with each number in range.
pub command_exact : (l : List ℕ) (c : Call) → (command_of l ≡ some c) ↔ Shows l c
command_exact l c = (read-shown l c, λ (h : Shows l c). shown_read c l h.line h.decimals)

-- a line is the line of one call at most
pub one_command : (l : List ℕ) (c d : Call) → Shows l c → Shows l d → c ≡ d
one_command l c d h g =
    let a : command_of l ≡ some c = (command_exact l c).1 h in
    let b : command_of l ≡ some d = (command_exact l d).1 g in
    cc

-- "a line of any other form" is the line of no call
pub other_form : (l : List ℕ) → command_of l ≡ none → (c : Call) → Shows l c → ⊥
other_form l e c h = never (sym e ∙ (command_exact l c).1 h)
