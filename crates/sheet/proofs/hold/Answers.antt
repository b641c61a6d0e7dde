-- Where the list has room for the line, the line is held whole. Else the part of it that the list has room for is, and the place behind the list is wrong.
use Prim.Native.Nat.{◌-◌}
use mathlib.Core.Path.{◌≡◌, sym, ◌∙◌}
use native.Mathlib.Omega.{arith}
use lib.ListN.{length, take, drop}
use Rattle.std.proofs.lemmas.List.{take-append-drop, length-take-le}
use Rattle.std.proofs.lemmas.Result.{err_from_is_err_and}
use borrow.Author.Tests.{eqb-true}
use Rattle.sheet.proofs.Matching.{found_append, wrong_append, place-ended, places-end}
use Rattle.sheet.proofs.hold.Goals as goal

pub returns-then-is_empty-clause-found : goal.returns-then-is_empty-clause-found
returns-then-is_empty-clause-found c = sym (places-end c.args.rows.now c.args.line.now c.args.start 0 (omega (arith, eqb-true _ _ (sym c.is_empty.ensures ∙ c.if-is_empty.true))))

pub returns-in_err-hold_whole-clause-found : goal.returns-in_err-hold_whole-clause-found
returns-in_err-hold_whole-clause-found c =
    let rows = c.args.rows.now in
    let line = c.args.line.now in
    let room = length rows - c.args.start in
    let p = err_from_is_err_and c.from_residual.result c.from_residual.ensures.1 in
    rw (p.1, p.2) (sym (rw (take-append-drop room line) at (wrong_append rows (take room line) (drop room line) c.args.start _ c.in_err-hold_whole.ensures.found)))

pub returns-then-rows-start-clause-found : goal.returns-then-rows-start-clause-found
returns-then-rows-start-clause-found c =
    let rows = c.args.rows.now in
    let line = c.args.line.now in
    let room = length rows - c.args.start in
    let behind : c.in_ok-hold_whole.field-0 ≡ length rows = omega (arith, c.in_ok-hold_whole.ensures.behind, length-take-le room line (omega arith)) in
    let held = rw (take-append-drop room line, behind) at (found_append rows (take room line) (drop room line) c.args.start _ c.in_ok-hold_whole.ensures.found) in
    sym (held ∙ place-ended rows line (length rows) room (omega arith) (omega arith))
