-- Each turn is a term of the rules' scan, and the column that stops the loop has a row.
use mathlib.Core.Path.{sym, ap, ◌∙◌, subst}
use native.Mathlib.Omega.{arith}
use Rattle.rules.specs.State.{weights}
use Rattle.memory.specs.Reading.{row_count_at, state_of}
use Rattle.memory.proofs.SearchLaws.{rows-length}
use Rattle.visits.proofs.ChoiceInNumbers.{rows_of}
use Rattle.plain.specs.declared.scan.Place.{Place}
use Rattle.plain.proofs.MatrixLaws.{column-none, column-some}
use Rattle.plain.proofs.ScanLaws.{Before, After, begins-before, before-round, term-after, after-ends, round-before, round-terms, after_finds}
use Rattle.plain.proofs.scan.column_found.Goals as goal

pub term_taken-place-requires : goal.term_taken-place-requires
term_taken-place-requires c = let P = c.requires in (P.2, before-round P.0.memory P.0.filled (begins-before P.0))

pub loop-ended-init : goal.loop-ended-init
loop-ended-init c =
    let P = c.requires in
    subst (After _) (sym c.term_taken-place.ensures) (term-after P.0.memory P.0.filled (begins-before P.0))

pub has_row-requires : goal.has_row-requires
has_row-requires c = (omega (arith, c.loop-ended.invariant.low, c.from.ensures), omega (arith, (rows_of c.requires.0.memory).few, c.row_count-count.ensures.0))

pub round_ended-ended-requires : goal.round_ended-ended-requires
round_ended-ended-requires c = let P = c.requires in (after-ends P.0.memory P.0.filled c.loop-ended.invariant, P.1)

pub term_taken-place-requires-in-loop-ended : goal.term_taken-place-requires-in-loop-ended
term_taken-place-requires-in-loop-ended c =
    let turned : Before c.args.state.now c.round_ended-ended.result = let P = c.requires in
    let b = c.args.state.now in
    let l = c.loop-ended in
    let empty = (rw c.from.ensures at c.has_row.ensures).1 (c.loop-ended-test.true) in
    let none-there =
    column-none (weights (state_of b).channels) (state_of b).rows _ (row_count_at b) l.place.column (rows-length b) P.1 l.invariant.low
    (λ i h. empty i (omega (arith, c.row_count-count.ensures.0)))
    in
    subst (Before b) (sym c.round_ended-ended.ensures) (round-before P.0.memory P.0.filled l.invariant none-there) in
    let P = c.requires in (P.2, before-round P.0.memory P.0.filled turned)

pub loop-ended-smaller : goal.loop-ended-smaller
loop-ended-smaller c =
    let turned : Before c.args.state.now c.round_ended-ended.result = let P = c.requires in
    let b = c.args.state.now in
    let l = c.loop-ended in
    let empty = (rw c.from.ensures at c.has_row.ensures).1 (c.loop-ended-test.true) in
    let none-there =
    column-none (weights (state_of b).channels) (state_of b).rows _ (row_count_at b) l.place.column (rows-length b) P.1 l.invariant.low
    (λ i h. empty i (omega (arith, c.row_count-count.ensures.0)))
    in
    subst (Before b) (sym c.round_ended-ended.ensures) (round-before P.0.memory P.0.filled l.invariant none-there) in
    let P = c.requires in
    let x = c.loop-ended.place in
    let taken = ap (λ (y : Place). y.terms) c.term_taken-place-in-loop-ended.ensures in
    let ended = ap (λ (y : Place). y.terms) c.round_ended-ended.ensures ∙ round-terms (state_of c.args.state.now) x in
    omega (arith, taken, ended, (term-after P.0.memory P.0.filled turned).count)

pub loop-ended-preserved : goal.loop-ended-preserved
loop-ended-preserved c =
    let turned : Before c.args.state.now c.round_ended-ended.result = let P = c.requires in
    let b = c.args.state.now in
    let l = c.loop-ended in
    let empty = (rw c.from.ensures at c.has_row.ensures).1 (c.loop-ended-test.true) in
    let none-there =
    column-none (weights (state_of b).channels) (state_of b).rows _ (row_count_at b) l.place.column (rows-length b) P.1 l.invariant.low
    (λ i h. empty i (omega (arith, c.row_count-count.ensures.0)))
    in
    subst (Before b) (sym c.round_ended-ended.ensures) (round-before P.0.memory P.0.filled l.invariant none-there) in
    let P = c.requires in
    subst (After _) (sym c.term_taken-place-in-loop-ended.ensures) (term-after P.0.memory P.0.filled turned)

pub returns : goal.returns
returns c =
    let P = c.requires in
    let b = c.args.state.now in
    let x = c.loop-ended.place in
    let (i, l, d) = (rw c.from.ensures at c.has_row.ensures).0 (c.loop-ended-test.false) in
    after_finds P.0.memory P.0.filled c.loop-ended.invariant
    (column-some (weights (state_of b).channels) (state_of b).rows _ (row_count_at b) x.column (rows-length b) P.1 c.loop-ended.invariant.low i (omega (arith, c.row_count-count.ensures.0)) d)
