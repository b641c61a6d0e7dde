-- Each way out is what the rules looked at so far give.
use Rattle.std.proofs.Common.{◌≡◌, ◌+◌, ◌-◌, sym, ◌∙◌, arith, le-leb}
use Rattle.std.proofs.lemmas.Bool.{lt-leb}
use mathlib.Core.Bool.{and-true as and-with-true}
use Rattle.rules.specs.Numbers.{slots}
use Rattle.memory.specs.Names as the
use Rattle.memory.specs.Layout.{place}
use Rattle.soundness.specs.Check.{clear, counted_rule, rows_rule}
use Rattle.soundness.proofs.NotesRead.{part-clear}
use Rattle.soundness.proofs.rows.Goals as goal

pub returns-else-n-le-SLOTS : goal.returns-else-n-le-SLOTS
unfolding rows_rule
returns-else-n-le-SLOTS c = rw (lt-leb c.args.n slots c.if-n-le-SLOTS.false)

pub returns-else-below : goal.returns-else-below
unfolding rows_rule
returns-else-below c = rw (le-leb c.args.n slots c.if-n-le-SLOTS.true, sym c.below.ensures, c.if-below.false)

pub returns-else-at_most : goal.returns-else-at_most
unfolding rows_rule
returns-else-at_most c =
    let b = c.args.state.now in
    let n = c.args.n in
    let rest : c.at_most.result ≡ clear b (place the.rows + n) (slots - n) = part-clear b (place the.rows + n) (slots - n) (omega arith) (omega arith) c.at_most.ensures in
    rw (le-leb n slots c.if-n-le-SLOTS.true, sym c.below.ensures ∙ c.if-below.true, sym rest, c.if-at_most.false)

pub counted-requires : goal.counted-requires
counted-requires c = (c.if-n-le-SLOTS.true, sym c.below.ensures ∙ c.if-below.true)

pub returns-then-at_most : goal.returns-then-at_most
unfolding rows_rule
returns-then-at_most c =
    let b = c.args.state.now in
    let n = c.args.n in
    let rest : c.at_most.result ≡ clear b (place the.rows + n) (slots - n) = part-clear b (place the.rows + n) (slots - n) (omega arith) (omega arith) c.at_most.ensures in
    rw (
      le-leb n slots c.if-n-le-SLOTS.true,
      sym c.below.ensures ∙ c.if-below.true,
      sym rest ∙ c.if-at_most.true,
      c.counted.ensures,
      and-with-true (counted_rule b n),
    )
