-- The bytes from the place to the end of its line are the line; past its line feed, if it has one, the next begins.
use Rattle.std.proofs.Common.{ap, ◌∙◌, ◌-◌, take, drop, arith}
use Rattle.text.specs.Commands.{command_of}
use Rattle.text.proofs.LineLaws.{line-bytes}
use Rattle.text.proofs.command.line_from.Goals as goal

pub returns : goal.returns
returns c =
    let s = c.args.text.now in
    let at = c.args.at in
    let end = c.line_end-end.ensures.value in
    record {
      asks = c.command_in.ensures ∙ ap (λ n. command_of (take (n - at) (drop at s))) end ∙ ap command_of (line-bytes s at);
      leads = omega (arith, end);
    }
