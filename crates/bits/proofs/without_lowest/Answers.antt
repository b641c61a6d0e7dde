-- One less turns the lowest slot and all below it over: only the slots above stay in both.
use Rattle.bits.proofs.LowestLaws.{lowest-out}
use Rattle.bits.proofs.without_lowest.Goals as goal

pub returns : goal.returns
returns c = lowest-out c.args.mask c.requires
