-- Each turn slides the next line down, so that the lines passed are closed.
use mathlib.Core.Path.{◌≡◌, sym}
use native.Mathlib.Omega.{arith}
use Rattle.rules.specs.Numbers.{cells}
use Rattle.memory.specs.Fields.{lowered}
use Rattle.memory.proofs.RecordEdits.{edited-turn, edited-none}
use Rattle.memory.proofs.records.close_lines.Goals as goal

pub loop-j-init : goal.loop-j-init
loop-j-init c =
    let a = c.args in
    sym (edited-none (lowered a.last a.place) a.field cells a.state.now)

pub loop-j-preserved : goal.loop-j-preserved
loop-j-preserved c =
    let a = c.args in
    let l = c.loop-j in
    edited-turn (lowered a.last a.place) a.field cells l.j a.state.now l.state _ l.invariant c.slide_down.ensures

pub returns : goal.returns
returns c =
    let l = c.loop-j in
    let e : l.j ≡ c.args.width = omega (arith, c.loop-j-test.false, l.auto.j-end) in
    rw e at l.invariant
