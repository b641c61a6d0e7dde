-- The line of totals behind the slots says of each slot passed whether it is right.
use Rattle.std.proofs.Common.{sym, ◌∙◌}
use Rattle.soundness.proofs.CheckTurns.{all_same}
use Rattle.soundness.proofs.SumLaws.{between-law, slots_end}
use Rattle.soundness.proofs.sums.many_ok.Goals as goal

pub returns : goal.returns
returns c =
    let short = sym c.stride.ensures.0 ∙ c.if-not-stride.false in
    let line = c.ends_of-n.ensures in
    let between = c.between_ok.ensures ∙ all_same _ _ _ (between-law _ _ c.requires short _ _ line.0 line.2) in
    rw short (slots_end _ _ c.requires _ _ _ line.0 line.1 between c.idle_ok.ensures)
