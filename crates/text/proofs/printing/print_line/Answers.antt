-- At most seven numbers of 32 bits find room.
use Rattle.std.proofs.Common.{arith}
use Rattle.text.proofs.PrintingLaws.{answer-short}
use Rattle.text.proofs.printing.print_line.Goals as goal

pub put_line-requires : goal.put_line-requires
put_line-requires c =
    omega (arith, answer-short c.args.letter c.args.ns.now c.type_inv.ns c.requires.1, c.requires.0)

pub returns : goal.returns
returns c = record { wrote = c.put_line.ensures; short = answer-short c.args.letter c.args.ns.now c.type_inv.ns c.requires.1 }
