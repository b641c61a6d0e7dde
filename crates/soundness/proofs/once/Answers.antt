-- The line lent holds how often each slot is found in the rows.
use Rattle.std.proofs.Common.{◌≡◌, ℕ, rules, ap, ◌∙◌, get_or}
use Rattle.memory.specs.Reading.{waiting_at}
use Rattle.soundness.specs.Check.{once_rule, counted_rule}
use Rattle.soundness.proofs.once.Goals as goal

pub returns : goal.returns
unfolding counted_rule
returns c =
    let b = c.args.state.now in
    c.every.ensures _
    (λ s l r p.
    let test : r ≡ once_rule (get_or c.args.seen.now s 0) (waiting_at b s) = search rules in
    test ∙ ap (λ (seen : ℕ). once_rule seen (waiting_at b s)) (c.requires s l))
