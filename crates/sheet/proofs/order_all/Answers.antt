-- The order of the union is that of all.
use mathlib.Core.Path.{◌≡◌, ap}
use native.Mathlib.Omega.{arith}
use borrow.Author.Rules.{rules}
use Rattle.std.specs.Int.Bits.{bit_or}
use Rattle.std.specs.List.{fold}
use Rattle.bits.specs.Order.{order}
use Rattle.bits.proofs.OrderLaws.{order-zero}
use Rattle.sheet.proofs.WeightLaws.{order-union}
use Rattle.sheet.proofs.order_all.Goals as goal

pub returns : goal.returns
returns c =
    let union : c.fold.result ≡ fold bit_or 0 c.args.weights.now = search rules in
    omega (arith, c.order_of.ensures, ap order union, order-union 0 c.args.weights.now, order-zero)
