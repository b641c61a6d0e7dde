-- At each turn the numbers read, and those still to read from the place on, are all of them.
use Rattle.std.proofs.Common.{sym, ◌∙◌, ap, take_all, Some, arith}
use Rattle.std.proofs.Math.ListN.{length-set}
use Rattle.text.proofs.PlaceLaws.{told}
use Rattle.text.proofs.ReadNumbers.{numbers-more, numbers-missing, numbers-end, numbers-long}
use Rattle.text.proofs.command.numbers.Goals as goal

pub returns-in_err-value : goal.returns-in_err-value
returns-in_err-value g c =
    let s = c.args.s.now in
    let l = c.loop-number in
    c.from_residual.ensures ∙ sym (l.invariant.2 ∙ numbers-missing s g.row.N l.number-index l.at _ (omega arith) c.in_err-value.ensures)

pub loop-number-preserved : goal.loop-number-preserved
loop-number-preserved g c =
    let s = c.args.s.now in
    let l = c.loop-number in
    let r = c.in_ok-value in (
      (told s l.at r.value r.next r.ensures).place,
      length-set l.number-items l.number-index r.value ∙ l.invariant.1,
      l.invariant.2 ∙ numbers-more s g.row.N l.number-index l.at l.number-items r.value r.next (omega arith) (omega arith) r.ensures,
    )

pub returns-then-at-s : goal.returns-then-at-s
returns-then-at-s g c =
    let s = c.args.s.now in
    let l = c.loop-number in
    sym (l.invariant.2 ∙ numbers-long s g.row.N l.number-index l.at _ (omega arith) c.if-at-s.true)

pub returns : goal.returns
returns g c =
    let s = c.args.s.now in
    let l = c.loop-number in
    sym (l.invariant.2 ∙ numbers-end s g.row.N l.number-index l.at _ (omega arith) (omega arith) ∙ ap Some (take_all l.number-index l.number-items (omega arith)))
