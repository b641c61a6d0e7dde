-- Each number read is the one that the scan point has there.
use Rattle.memory.proofs.point.load_scan.Goals as goal

pub returns : goal.returns
returns c = cc
