-- Each turn slides the next line up, so that the lines passed are opened.
use mathlib.Core.Path.{◌≡◌, sym}
use native.Mathlib.Omega.{arith}
use Rattle.rules.specs.Numbers.{cells}
use Rattle.memory.specs.Fields.{raised}
use Rattle.memory.proofs.RecordEdits.{edited-turn, edited-none}
use Rattle.memory.proofs.records.open_lines.Goals as goal

pub loop-j-init : goal.loop-j-init
loop-j-init c =
    let a = c.args in
    sym (edited-none (raised a.last a.place) a.field cells a.state.now)

pub loop-j-preserved : goal.loop-j-preserved
loop-j-preserved c =
    let a = c.args in
    let l = c.loop-j in
    edited-turn (raised a.last a.place) a.field cells l.j a.state.now l.state _ l.invariant c.slide_up.ensures

pub returns : goal.returns
returns c =
    let l = c.loop-j in
    let e : l.j ≡ c.args.width = omega (arith, c.loop-j-test.false, l.auto.j-end) in
    rw e at l.invariant
