-- The position stands in the table, so the term is the rules'.
use Prim.Native.Nat.{ℕ, ◌+◌, ◌-◌, ◌^◌, ◌≤◌}
use mathlib.Core.Path.{◌≡◌, refl}
use native.Mathlib.Omega.{arith}
use lib.Pow.{pow_mono}
use Rattle.spread.specs.Visits.{column_at}
use Rattle.spread.specs.Sequence.{term}
use Rattle.spread.proofs.Rule.{term-le}
use Rattle.terms.specs.Table.{table_order}
use Rattle.rules.proofs.Steps.{next-position}
use Rattle.rules.specs.Next.{next_position}
use Rattle.plain.specs.declared.scan.Place.{Place}
use Rattle.plain.specs.Places.{next_term}
use Rattle.plain.proofs.scan.term_taken.Goals as goal

taken_is : (x : Place) {p t : ℕ} → p ≡ next_position x.order x.position → t ≡ term p
    → ◌≡◌ {A = Place} (record { order = x.order; position = p; column = x.order - t; terms = x.terms + 1 }) (next_term x)
unfolding column_at
taken_is x e f = rw (f, e) refl

pub term_in-term-requires : goal.term_in-term-requires
term_in-term-requires c =
    let x = c.args.place in
    let R = c.requires.1 in
    let (low, high) = next-position x.order x.position R.least R.position in
    let most : 2 ^ x.order ≤ 2 ^ table_order = pow_mono R.most in
    rw (c.from-2.ensures, c.next_position-position.ensures, c.from.ensures) (c.requires.0, low, omega (arith, high))

pub overflow_sub-result : goal.overflow_sub-result
overflow_sub-result c =
    let x = c.args.place in
    let R = c.requires.1 in
    let (low, high) = next-position x.order x.position R.least R.position in
    rw (c.term_in-term.ensures, c.from-2.ensures, c.next_position-position.ensures, c.from.ensures) (omega (arith, term-le x.order (next_position x.order x.position) (omega arith) high))

pub returns : goal.returns
returns c = taken_is c.args.place (rw c.from.ensures at c.next_position-position.ensures) (rw c.from-2.ensures at c.term_in-term.ensures)
