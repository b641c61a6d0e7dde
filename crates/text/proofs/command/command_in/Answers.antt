-- A letter and the numbers of its form are its command, and any other line is none.
use Rattle.std.proofs.Common.{ap, ◌∙◌, arith}
use Rattle.std.specs.Bool.{then_some}
use Rattle.text.specs.declared.command.Command.TheVariants.{Next}
use Rattle.text.specs.Commands.{call_of}
use Rattle.text.proofs.ReadNumbers.{open-asked, put-asked, close-asked, next-asked, other-asked, empty-asked}
use Rattle.text.proofs.command.command_in.Goals as goal

pub returns-in_err-letter : goal.returns-in_err-letter
returns-in_err-letter c = ap call_of c.from_residual.ensures ∙ empty-asked c.args.line.now c.in_err-letter.ensures.cases

pub returns-in_err-weight-in-79 : goal.returns-in_err-weight-in-79
returns-in_err-weight-in-79 c = ap call_of c.from_residual-in_err-weight-in-79.ensures ∙ open-asked c.in_ok-letter.ensures.cases.0 c.in-79.is c.in_err-weight-in-79.ensures

pub returns-in_err-slot-in-80 : goal.returns-in_err-slot-in-80
returns-in_err-slot-in-80 c = ap call_of c.from_residual-in_err-slot-in-80.ensures ∙ put-asked c.in_ok-letter.ensures.cases.0 c.in-80.is c.in_err-slot-in-80.ensures

pub returns-in_err-slot-in-67 : goal.returns-in_err-slot-in-67
returns-in_err-slot-in-67 c = ap call_of c.from_residual-in_err-slot-in-67.ensures ∙ close-asked c.in_ok-letter.ensures.cases.0 c.in-67.is c.in_err-slot-in-67.ensures

pub returns-in_ok-weight-in-79 : goal.returns-in_ok-weight-in-79
returns-in_ok-weight-in-79 c = open-asked c.in_ok-letter.ensures.cases.0 c.in-79.is c.in_ok-weight-in-79.ensures

pub returns-in_ok-slot-in-80 : goal.returns-in_ok-slot-in-80
returns-in_ok-slot-in-80 c = put-asked c.in_ok-letter.ensures.cases.0 c.in-80.is c.in_ok-slot-in-80.ensures

pub returns-in_ok-slot-in-67 : goal.returns-in_ok-slot-in-67
returns-in_ok-slot-in-67 c = close-asked c.in_ok-letter.ensures.cases.0 c.in-67.is c.in_ok-slot-in-67.ensures

pub returns-in-78 : goal.returns-in-78
returns-in-78 c = ap call_of (c.then_some.ensures ∙ ap (λ b. then_some b Next) c.is_empty.ensures) ∙ next-asked c.in_ok-letter.ensures.cases.0 c.in-78.is

pub returns-in_default : goal.returns-in_default
returns-in_default c = other-asked c.in_ok-letter.ensures.cases.0 (omega arith) (omega arith) (omega arith) (omega arith)
