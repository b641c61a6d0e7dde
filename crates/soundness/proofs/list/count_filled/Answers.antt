-- A slot in which some byte waits is one whose key is at least that of the last slot with one byte.
use Rattle.std.proofs.Common.{◌≡◌, rules, ◌∙◌, not, eqb}
use Rattle.memory.specs.Reading.{bytes_at}
use Rattle.soundness.proofs.ListLaws.{filled-key}
use Rattle.soundness.proofs.list.count_filled.Goals as goal

pub returns : goal.returns
returns c =
    c.count.ensures (bytes_at c.args.state.now) 64
    (λ s l r p. let test : r ≡ not (eqb (bytes_at c.args.state.now s) 0) = search rules in test ∙ filled-key (bytes_at c.args.state.now) s l)
