-- Each number is read off the places that the channel is read off.
use Rattle.memory.proofs.heads.load_head.Goals as goal

pub returns : goal.returns
returns c = cc
