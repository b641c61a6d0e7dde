-- A round's end, as facts; and what a step must be for none to be there.
use Prim.Native.Nat.{ℕ, suc, ◌^◌, ◌≤◌, ◌<◌, max}
use mathlib.Core.Path.{◌≡◌, refl, sym, ap, ◌∙◌}
use mathlib.Core.Bool.{Bool, true, false, not, cond, true≢false, false≢true}
use mathlib.Core.List.{List, [], ◌∷◌}
use mathlib.Core.Option.{Option, none, some}
use native.Mathlib.Omega.{arith}
use lib.Dec.{eqb}
use lib.Pow.{pow_mono}
use borrow.Author.Tests.{eqb-true, eqb-false, eq-eqb, not-true}
use Rattle.lists.specs.Tests.{is_empty}
use Rattle.rules.specs.State.{State, held, holds, is_none, round_over}
use Rattle.rules.specs.Next.{round_ended, ending_round}
use Rattle.rules.specs.Facts.{Stage, at_rest, midway, after_grant, EndOk}
use Rattle.rules.proofs.Cases.{none-some}
use Rattle.lists.proofs.TestLaws.{empty-nil}
use Rattle.lists.proofs.TestLaws.{and-true, Hold, all_hold, hold_all}

pub record Over (s : State) : Type 0 where
  pub held-there : held s ≡ true
  pub rows : is_empty s.rows ≡ false
  pub no_visit : s.scan.visit ≡ none
  pub none_remain : s.scan.to_visit ≡ []
  pub last : suc s.scan.position ≡ 2 ^ s.order

pub is-none : (o : Option ℕ) → is_none o ≡ true → o ≡ none
is-none none e = refl
is-none (some v) e = absurd (false≢true e)

abbrev tests : State → List Bool
tests s = holds s s.rows ∷ is_none s.scan.visit ∷ is_empty s.scan.to_visit ∷ eqb (suc s.scan.position) (2 ^ s.order) ∷ []

pub over_facts : (s : State) → round_over s ≡ true → Over s
unfolding round_over
over_facts s e =
    let h : Hold (tests s) = all_hold (tests s) e in
    let (g, r) = and-true (held s) (not (is_empty s.rows)) h.0 in
    record {
      held-there = g;
      rows = not-true (is_empty s.rows) r;
      no_visit = is-none s.scan.visit h.1.0;
      none_remain = empty-nil s.scan.to_visit h.1.1.0;
      last = eqb-true _ _ h.1.1.1.0;
    }

pub facts_over : (s : State) → Over s → round_over s ≡ true
unfolding round_over
facts_over s o =
    hold_all (tests s) (
      rw (o.held-there, o.rows) refl,
      (ap is_none o.no_visit, (ap is_empty o.none_remain, (eq-eqb _ _ o.last, tt))),
    )

pub not_over : (s : State) → (Over s → ⊥) → round_over s ≡ false
not_over s n = go (round_over s) refl
  where
    go : (b : Bool) → round_over s ≡ b → round_over s ≡ false
    go true e = absurd (n (over_facts s e))
    go false e = e

-- in an open visit there is none, nor in edition 1
pub visit-not_over : (s : State) (v : ℕ) → s.scan.visit ≡ some v → round_over s ≡ false
visit-not_over s v e = not_over s (λ o. none-some (sym o.no_visit ∙ e))

pub falling-not_over : (s : State) → held s ≡ false → round_over s ≡ false
falling-not_over s e = not_over s (λ o. true≢false (sym o.held-there ∙ e))

-- where there is none the state stays
pub ending_not : (s : State) → round_over s ≡ false → ending_round s ≡ s
ending_not s e = rw e refl

pub ending_over : (s : State) → round_over s ≡ true → ending_round s ≡ round_ended s
ending_over s e = rw e refl

-- a round's end alters the order and P alone
pub record SameButOrder (s s' : State) : Type 0 where
  pub edition : s'.edition ≡ s.edition
  pub channels : s'.channels ≡ s.channels
  pub rows : s'.rows ≡ s.rows
  pub column : s'.scan.column ≡ s.scan.column
  pub to_visit : s'.scan.to_visit ≡ s.scan.to_visit
  pub visit : s'.scan.visit ≡ s.scan.visit
  pub parked : s'.parked ≡ s.parked

pub ending_same : (s : State) → SameButOrder s (ending_round s)
ending_same s = go (round_over s)
  where
    go : (b : Bool) → SameButOrder s (cond b (round_ended s) s)
    go true = record { edition = refl; channels = refl; rows = refl; column = refl; to_visit = refl; visit = refl; parked = refl }
    go false = record { edition = refl; channels = refl; rows = refl; column = refl; to_visit = refl; visit = refl; parked = refl }

-- what a stage asks goes by the test alone
pub end_same : (b : Stage) (s s' : State) → round_over s' ≡ round_over s → EndOk b s → EndOk b s'
end_same at_rest s s' q e = q ∙ e
end_same midway s s' q e = tt
end_same after_grant s s' q e = tt

pub end-never : (b : Stage) (s : State) → round_over s ≡ false → EndOk b s
end-never at_rest s e = e
end-never midway s e = tt
end-never after_grant s e = tt

-- a state at rest is at no round's end in a larger order either: P is not the last position, or there are no rows and P is 0
pub inside-risen : (s : State) (k : ℕ) → round_over s ≡ false → s.scan.position < 2 ^ s.order → (is_empty s.rows ≡ true → s.order ≡ 0) → 1 ≤ k
    → held s ≡ true → s.scan.visit ≡ none → s.scan.to_visit ≡ [] → suc s.scan.position ≡ 2 ^ max s.order k → ⊥
inside-risen s k z l empty one g v t last = by_rows (is_empty s.rows) refl (eqb (suc s.scan.position) (2 ^ s.order)) refl
  where
    by_rows : (b : Bool) → is_empty s.rows ≡ b → (c : Bool) → eqb (suc s.scan.position) (2 ^ s.order) ≡ c → ⊥
    by_rows true e c q =
        let o : s.order ≡ 0 = empty e in
        let p : s.scan.position < 1 = rw o at l in
        let m : 1 ≤ max s.order k = omega arith in
        let two : 2 ≤ 2 ^ max s.order k = pow_mono m in
        omega arith
    by_rows false e true q = true≢false (sym (facts_over s (record { held-there = g; rows = e; no_visit = v; none_remain = t; last = eqb-true _ _ q })) ∙ z)
    by_rows false e false q = apart (eqb-false _ _ q)
      where
        apart : (suc s.scan.position ≡ 2 ^ s.order → ⊥) → ⊥
        apart d =
            let m : s.order ≤ max s.order k = omega arith in
            let p : 2 ^ s.order ≤ 2 ^ max s.order k = pow_mono m in
            omega arith
