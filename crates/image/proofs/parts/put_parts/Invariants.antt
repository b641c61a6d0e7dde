-- At each turn the parts passed are laid.
use Rattle.std.proofs.Common.{take}
use Rattle.octets.specs.Wrote.{Wrote}
use Rattle.image.specs.Parts.{laid}
use Rattle.image.proofs.parts.put_parts.Given as goal

abbrev pub invariant-loop-part : goal.invariant-loop-part
invariant-loop-part l = Wrote l.fn.w (laid (take l.part-index l.parts)) l.w
