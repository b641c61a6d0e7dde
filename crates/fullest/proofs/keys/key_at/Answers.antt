-- The bytes waiting are the two bytes read.
use native.Mathlib.Omega.{arith}
use Rattle.fullest.proofs.BytesRead.{bytes_read}
use Rattle.fullest.proofs.keys.key_at.Goals as goal

pub returns : goal.returns
returns c = omega (arith, c.key_of.ensures, bytes_read c.args.state.now c.args.slot)
