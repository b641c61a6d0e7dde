-- The scan is one jump, in both editions: the terms between find nothing, and after a round's end, or where P turns, position 1 finds a row.
use Prim.Native.Nat.{ℕ, zero, suc, ◌+◌, ◌-◌, ◌*◌, ◌%◌, ◌^◌, ◌≤◌, ◌<◌}
use mathlib.Core.Path.{◌≡◌, refl, sym, ap, ap₂, ◌∙◌, subst}
use mathlib.Core.Bool.{Bool, true, false, cond, true≢false}
use mathlib.Core.List.{List, [], ◌∷◌}
use mathlib.Core.Logic.{◌⊎◌, inl, inr}
use mathlib.Core.Option.{Option, none}
use native.Mathlib.Decide.{dec_lt}
use native.Mathlib.Omega.{arith}
use lib.Pow.{pow_pos, pow-lt, pow_mono}
use borrow.Author.Tests.{eq-eqb}
use Rattle.std.specs.Prelude.{Option as CodeOption, Some, None}
use Rattle.bits.specs.Bit.{bit}
use Rattle.bits.specs.Order.{order}
use Rattle.lists.specs.Tests.{is_empty}
use Rattle.bits.proofs.BitLaws.{parity}
use Rattle.bits.proofs.OrderLaws.{order-zero}
use Rattle.spread.specs.Visits.{column_at}
use Rattle.spread.proofs.Visits.{even_next}
use Rattle.spread.specs.Jump.{jump, Found}
use Rattle.spread.proofs.JumpLaws.{jump-means}
use Rattle.rules.specs.State.{State, weights, held, round_over}
use Rattle.rules.specs.Next.{next_position, term_taken, round_ended, ending_round, terms_most, Chosen, start_first, scanning}
use Rattle.rules.specs.Jump.{union_of, landed, visiting, jumped, jumping}
use Rattle.rules.specs.Facts.{Sound}
use Rattle.lists.proofs.TestLaws.{empty-nil}
use Rattle.rules.proofs.Union.{order-union, union-column}
use Rattle.rules.proofs.Rows.{order_least, rows-order-least}
use Rattle.rules.proofs.RoundEnd.{Over, facts_over, not_over, ending_not, ending_over}
use Rattle.rules.proofs.Steps.{term-kept, ended-kept, ending_kept}
use Rattle.rules.proofs.Choosing.{rows_order, found_at, multiple-filled, next-plain, start-filled}

-- ---- the union of the weights says which columns have a row

abbrev pub union : State → ℕ
union s = union_of (weights s.channels) s.rows

found-empty : (s : State) (q : ℕ) → bit (column_at s.order q) (union s) ≡ 0 → found_at s q ≡ []
found-empty s q z = empty-nil (found_at s q) (union-column (weights s.channels) s.rows (column_at s.order q) ∙ rw z refl)

found-filled : (s : State) (q : ℕ) → bit (column_at s.order q) (union s) ≡ 1 → is_empty (found_at s q) ≡ false
found-filled s q z = union-column (weights s.channels) s.rows (column_at s.order q) ∙ rw z refl

-- ---- one term, and none to visit

first_any : (l : List ℕ) (n : ℕ) (s : State) (a b : Option Chosen) → is_empty l ≡ false → start_first l n s a ≡ start_first l n s b
first_any [] n s a b e = absurd (true≢false e)
first_any (i ∷ rest) n s a b e = refl

-- where there are slots to visit the fuel does not matter
listed-visiting : (f n : ℕ) (s : State) → is_empty s.scan.to_visit ≡ false → scanning f n s ≡ visiting n s
unfolding scanning
listed-visiting zero n s e = refl
listed-visiting (suc f) n s e = first_any s.scan.to_visit n s _ _ e

step-on : (f n : ℕ) (s : State) → s.scan.to_visit ≡ [] → scanning (suc f) n s ≡ scanning f (suc n) (ending_round (term_taken s))
unfolding scanning
step-on f n s t = ap (λ (l : List ℕ). start_first l n s (scanning f (suc n) (ending_round (term_taken s)))) t

-- a term that finds slots is at no round's end
filled-not_over : (s : State) → is_empty s.scan.to_visit ≡ false → round_over s ≡ false
filled-not_over s e = not_over s (λ o. true≢false (sym (ap is_empty o.none_remain) ∙ e))

next-visiting : (f n : ℕ) (s : State) → s.scan.to_visit ≡ [] → is_empty (term_taken s).scan.to_visit ≡ false
    → scanning (suc f) n s ≡ visiting (suc n) (term_taken s)
next-visiting f n s t e =
    step-on f n s t ∙ ap (scanning f (suc n)) (ending_not (term_taken s) (filled-not_over (term_taken s) e)) ∙ listed-visiting f (suc n) (term_taken s) e

-- ---- a row found before the round's end

jump-within : (f n t : ℕ) (s : State) → Sound s → s.scan.visit ≡ none → s.scan.to_visit ≡ [] → is_empty s.rows ≡ false
    → s.scan.position < t → t < 2 ^ s.order → t ≤ s.scan.position + f → is_empty (found_at s t) ≡ false
    → ((q : ℕ) → s.scan.position < q → q < t → found_at s q ≡ []) → scanning f n s ≡ visiting (n + (t - s.scan.position)) (landed s t)
jump-within zero n t s S v l e a b c h z = absurd (omega arith)
jump-within (suc f) n t s S v l e a b c h z =
    elim (dec_lt (suc s.scan.position) t) [
      | yes m ↦
          let p : next_position s.order s.scan.position ≡ suc s.scan.position = next-plain s.order s.scan.position (omega arith) in
          let none-there : (term_taken s).scan.to_visit ≡ [] = rw p (z (suc s.scan.position) (omega arith) m) in
          let inside : round_over (term_taken s) ≡ false = not_over (term_taken s) (λ o. let y : suc (suc s.scan.position) ≡ 2 ^ s.order = rw p at o.last in omega arith) in
          let T : Sound (term_taken s) = subst Sound (ending_not (term_taken s) inside) (ending_kept (term-kept S v e)) in
          let sum : suc n + (t - suc s.scan.position) ≡ n + (t - s.scan.position) = omega arith in
          step-on f n s l ∙ ap (scanning f (suc n)) (ending_not (term_taken s) inside)
          ∙ jump-within f (suc n) t (term_taken s) T v none-there e (rw p m) b (rw p (omega arith)) h (λ q x y. z q (let w : suc s.scan.position < q = rw p at x in omega arith) y)
          ∙ ap (λ (y : ℕ). visiting y (landed s t)) (ap (λ (y : ℕ). suc n + (t - y)) p ∙ sum)
      | no m ↦
          let p : next_position s.order s.scan.position ≡ suc s.scan.position = next-plain s.order s.scan.position (omega arith) in
          let q : suc s.scan.position ≡ t = omega arith in
          let there : term_taken s ≡ landed s t = ap (landed s) (p ∙ q) in
          let one : suc n ≡ n + (t - s.scan.position) = omega arith in
          next-visiting f n s l (subst (λ (r : State). is_empty r.scan.to_visit ≡ false) (sym there) h)
          ∙ ap₂ (λ (y : ℕ) (r : State). visiting y r) one there
    ]

-- ---- none, so the round ends and position 1 of the next has a row

-- m terms are left before the round's end
jump_through : (f n m : ℕ) (s : State) → Sound s → held s ≡ true → s.scan.visit ≡ none → s.scan.to_visit ≡ [] → is_empty s.rows ≡ false
    → s.scan.position + suc m ≡ 2 ^ s.order → suc m ≤ f → ((q : ℕ) → s.scan.position < q → q < 2 ^ s.order → found_at s q ≡ [])
    → scanning f n s ≡ visiting (n + suc m) (landed (round_ended s) 1)
jump_through zero n m s S g v l e p c z = absurd (omega arith)
jump_through (suc f) n zero s S g v l e p c z =
    absurd (true≢false (sym (facts_over s (record { held-there = g; rows = e; no_visit = v; none_remain = l; last = omega arith })) ∙ S.end-ok))
jump_through (suc f) n (suc zero) s S g v l e p c z = go f (omega arith)
  where
    on : next_position s.order s.scan.position ≡ suc s.scan.position
    on = next-plain s.order s.scan.position (omega arith)

    none-there : (term_taken s).scan.to_visit ≡ []
    none-there = rw on (z (suc s.scan.position) (omega arith) (omega arith))

    O : Over (term_taken s)
    O = record { held-there = g; rows = e; no_visit = v; none_remain = none-there; last = rw on (omega arith) }

    T : Sound (round_ended (term_taken s))
    T = ended-kept (term-kept S v e) O

    one : next_position (rows_order s) 0 ≡ 1
    one = let two : 2 ≤ 2 ^ rows_order s = pow_mono (rows-order-least S e) in next-plain (rows_order s) 0 (omega arith)

    go : (f : ℕ) → 1 ≤ f → scanning (suc f) n s ≡ visiting (n + 2) (landed (round_ended s) 1)
    go zero h = absurd (omega arith)
    go (suc f) h =
        step-on (suc f) n s l ∙ ap (scanning (suc f) (suc n)) (ending_over (term_taken s) (facts_over (term_taken s) O))
        ∙ next-visiting f (suc n) (round_ended (term_taken s)) none-there (start-filled T e refl refl)
        ∙ ap₂ (λ (y : ℕ) (q : ℕ). visiting y (landed (round_ended s) q)) (omega arith) one
jump_through (suc f) n (suc (suc m)) s S g v l e p c z =
    let on : next_position s.order s.scan.position ≡ suc s.scan.position = next-plain s.order s.scan.position (omega arith) in
    let none-there : (term_taken s).scan.to_visit ≡ [] = rw on (z (suc s.scan.position) (omega arith) (omega arith)) in
    let inside : round_over (term_taken s) ≡ false =
    not_over (term_taken s) (λ o. let y : suc (suc s.scan.position) ≡ 2 ^ s.order = rw on at o.last in omega arith)
    in
    let T : Sound (term_taken s) = subst Sound (ending_not (term_taken s) inside) (ending_kept (term-kept S v e)) in
    let sum : suc n + suc (suc m) ≡ n + suc (suc (suc m)) = omega arith in
    step-on f n s l ∙ ap (scanning f (suc n)) (ending_not (term_taken s) inside)
    ∙ jump_through f (suc n) (suc m) (term_taken s) T g v none-there e (rw on (omega arith)) (omega arith)
    (λ q x y. z q (let w : suc s.scan.position < q = rw on at x in omega arith) y)
    ∙ ap (λ (y : ℕ). visiting y (landed (round_ended s) 1)) sum

-- ---- the law: the terms taken one by one, through a round's end if need be, come to what the jump gives, with the same count of terms

module _ (s : State) (S : Sound s) (v : s.scan.visit ≡ none) (l : s.scan.to_visit ≡ []) (e : is_empty s.rows ≡ false) where
  pub union-order : order (union s) ≤ s.order
  union-order = rw (order-union (weights s.channels) s.rows) S.order-above

  pub union-some : 0 < union s
  union-some = go (union s) refl
    where
      go : (u : ℕ) → union s ≡ u → 0 < union s
      go zero q =
          let z : order (union s) ≡ 0 = ap order q ∙ order-zero in
          absurd (let m = rows-order-least S e in let o = order-union (weights s.channels) s.rows in omega arith)
      go (suc u) q = omega arith

  -- edition 2
  holding-jumps : held s ≡ true → (o : CodeOption ℕ) → Found s.order (union s) s.scan.position o → scanning (2 ^ s.order - 1) 0 s ≡ jumped o s
  holding-jumps g (Some t) (a, b, c, d) =
      jump-within (2 ^ s.order - 1) 0 t s S v l e a b (omega arith) (found-filled s t c) (λ q x y. found-empty s q (d q x y))
      ∙ ap (λ (y : ℕ). visiting y (landed s t)) (omega arith)
  holding-jumps g None d = go s.scan.position refl
    where
      go : (p : ℕ) → s.scan.position ≡ p → scanning (2 ^ s.order - 1) 0 s ≡ jumped None s
      go zero z =
          let m : 1 ≤ rows_order s = rows-order-least S e in
          let least : 1 ≤ s.order = order_least S e in
          let k : s.order - rows_order s < s.order = omega arith in
          let t = 1 * 2 ^ (s.order - rows_order s) in
          let empty : found_at s t ≡ [] = found-empty s t (d t (omega (arith, pow_pos (s.order - rows_order s))) (omega (arith, pow-lt k))) in
          absurd (true≢false (sym (ap is_empty empty) ∙ multiple-filled S e 1 refl))
      go (suc p) z =
          let h = S.position in
          jump_through (2 ^ s.order - 1) 0 (2 ^ s.order - 1 - s.scan.position) s S g v l e (omega arith) (omega arith)
          (λ q x y. found-empty s q (d q x y))
          ∙ ap (λ (y : ℕ). visiting y (landed (round_ended s) 1)) (omega arith)

  -- edition 1: the order is that of the rows, so each odd position finds a row, and none is found only at the last position, from which P turns to 1
  odd-filled : held s ≡ false → (q : ℕ) → q % 2 ≡ 1 → is_empty (found_at s q) ≡ false
  odd-filled g q o =
      let full : s.order ≡ rows_order s = S.order_is (rw g refl) in
      let z : s.order - rows_order s ≡ 0 = omega arith in
      let one : q * 2 ^ 0 ≡ q = omega arith in
      rw (z, one) at (multiple-filled S e q o)

  -- of two positions in turn one finds a row
  odd_of_two : held s ≡ false → suc s.scan.position < 2 ^ s.order
      → (is_empty (found_at s (suc s.scan.position)) ≡ false)
      ⊎ ((suc (suc s.scan.position) < 2 ^ s.order) × (is_empty (found_at s (suc (suc s.scan.position))) ≡ false))
  odd_of_two g h =
      elim (parity (suc s.scan.position)) [
        | inl z ↦ inr (even_next s.order (suc s.scan.position) (order_least S e) h z, odd-filled g (suc (suc s.scan.position)) (omega arith))
        | inr z ↦ inl (odd-filled g (suc s.scan.position) z)
      ]

  falling-jumps : held s ≡ false → (o : CodeOption ℕ) → Found s.order (union s) s.scan.position o → scanning 2 0 s ≡ jumped o s
  falling-jumps g (Some t) (a, b, c, d) =
      jump-within 2 0 t s S v l e a b (near (odd_of_two g (omega arith))) (found-filled s t c) (λ q x y. found-empty s q (d q x y))
      ∙ ap (λ (y : ℕ). visiting y (landed s t)) (omega arith)
    where
      no_later : (q : ℕ) → s.scan.position < q → is_empty (found_at s q) ≡ false → t ≤ q
      no_later q x f =
          elim (dec_lt q t) [
            | yes m ↦ absurd (true≢false (sym (ap is_empty (found-empty s q (d q x m))) ∙ f))
            | no m ↦ omega arith
          ]

      near : (is_empty (found_at s (suc s.scan.position)) ≡ false)
          ⊎ ((suc (suc s.scan.position) < 2 ^ s.order) × (is_empty (found_at s (suc (suc s.scan.position))) ≡ false)) → t ≤ s.scan.position + 2
      near (inl f) = let y = no_later (suc s.scan.position) (omega arith) f in omega arith
      near (inr (h, f)) = let y = no_later (suc (suc s.scan.position)) (omega arith) f in omega arith
  falling-jumps g None d =
      elim (dec_lt (suc s.scan.position) (2 ^ s.order)) [
        | yes h ↦ absurd (never (odd_of_two g h) h)
        | no h ↦
            let p : s.scan.position < 2 ^ s.order = S.position in
            let last : s.scan.position + 1 ≡ 2 ^ s.order = omega arith in
            let turn : next_position s.order s.scan.position ≡ 1 = rw (eq-eqb (s.scan.position + 1) (2 ^ s.order) last) refl in
            let there : term_taken s ≡ landed s 1 = ap (landed s) turn in
            let one : 1 ≡ 2 ^ s.order - s.scan.position = omega arith in
            next-visiting 1 0 s l (subst (λ (r : State). is_empty r.scan.to_visit ≡ false) (sym there) (odd-filled g 1 refl))
            ∙ ap₂ (λ (y : ℕ) (r : State). visiting y r) one (there ∙ ap (λ (k : ℕ). landed (ordered k) 1) (S.order_is (rw g refl)))
      ]
    where
      never : (is_empty (found_at s (suc s.scan.position)) ≡ false)
          ⊎ ((suc (suc s.scan.position) < 2 ^ s.order) × (is_empty (found_at s (suc (suc s.scan.position))) ≡ false))
          → suc s.scan.position < 2 ^ s.order → ⊥
      never (inl f) h = true≢false (sym (ap is_empty (found-empty s (suc s.scan.position) (d (suc s.scan.position) (omega arith) h))) ∙ f)
      never (inr (m, f)) h =
          true≢false (sym (ap is_empty (found-empty s (suc (suc s.scan.position)) (d (suc (suc s.scan.position)) (omega arith) m))) ∙ f)

      ordered : ℕ → State
      ordered k = record { edition = s.edition; channels = s.channels; rows = s.rows; order = k; scan = s.scan; parked = s.parked }

  pub scan-jumps : scanning (terms_most s) 0 s ≡ jumping s
  unfolding jumping
  scan-jumps = go (held s) refl (jump-means s.order (union s) s.scan.position union-some union-order)
    where
      go : (b : Bool) → held s ≡ b → Found s.order (union s) s.scan.position (jump s.order (union s) s.scan.position)
          → scanning (cond b (2 ^ s.order - 1) 2) 0 s ≡ jumped (jump s.order (union s) s.scan.position) s
      go true g m = holding-jumps g (jump s.order (union s) s.scan.position) m
      go false g m = falling-jumps g (jump s.order (union s) s.scan.position) m

-- so Next's choice, where no visit is open: the first slot still to visit, or the jump
pub choose_jumps : (s : State) → Sound s → s.scan.visit ≡ none → is_empty s.rows ≡ false
    → scanning (terms_most s) 0 s ≡ start_first s.scan.to_visit 0 s (jumping s)
choose_jumps s S v e = go s.scan.to_visit refl
  where
    go : (l : List ℕ) → s.scan.to_visit ≡ l → scanning (terms_most s) 0 s ≡ start_first l 0 s (jumping s)
    go [] q = scan-jumps s S v q e
    go (i ∷ rest) q = listed-visiting (terms_most s) 0 s (ap is_empty q) ∙ ap (λ (l : List ℕ). start_first l 0 s none) q
