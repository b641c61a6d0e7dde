-- The bytes waiting are the two bytes read.
use native.Mathlib.Omega.{arith}
use Rattle.fullest.proofs.BytesRead.{bytes_read}
use Rattle.fullest.proofs.noting.bytes_of.Goals as goal

-- src/noting.rt:25:1
pub returns : goal.returns
returns c = omega (arith, c.two.ensures, bytes_read c.args.state.now c.args.slot)
