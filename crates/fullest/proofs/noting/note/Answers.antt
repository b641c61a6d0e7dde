-- The bytes are written, and moving one entry makes the list right again. (The memory as an array has the bytes of the memory.)
use mathlib.Core.Path.{◌≡◌, ◌∙◌}
use native.Mathlib.Omega.{arith}
use lib.Seq.{take_all}
use Rattle.octets.specs.Number.{Bytes}
use Rattle.fullest.proofs.NotingLaws.{few-now, movable-now, noted-now, base_kept}
use Rattle.fullest.proofs.noting.note.Goals as goal

pub move_one-requires : goal.move_one-requires
move_one-requires c =
    let b₁ = c.write.new.b in
    let N = c.requires.0 in
    let fits : Bytes b₁ = λ i. grind arith in
    let front = rw c.unwrap.ensures at c.first_chunk.ensures.cases in
    let whole : c.unwrap.result.now ≡ b₁ = front.same ∙ take_all 4102 b₁ (omega (arith, c.write.auto.b, c.requires.0.right.size)) in
    let few = few-now N.bytes c.args.state.now b₁ c.args.slot c.args.bytes N.right fits c.requires.1 c.ranges.bytes.fits c.write.ensures c.from-n.ensures in
    let movable = movable-now N.bytes c.args.state.now b₁ c.args.slot c.args.bytes N.right fits c.requires.1 c.ranges.bytes.fits c.write.ensures c.from-n.ensures in
    (few, c.requires.1, rw whole movable)

pub returns : goal.returns
returns c =
    let b₁ = c.write.new.b in
    let b₂ = c.store.new.state in
    let i = c.args.slot in
    let fits : Bytes b₁ = λ i. (c.slice_known-2-1.given i).fits in
    let fits-now : Bytes b₂ = λ i. (c.type_inv.state i).fits in
    let front = rw c.unwrap.ensures at c.first_chunk.ensures.cases in
    let whole : c.unwrap.result.now ≡ b₁ = front.same ∙ take_all 4102 b₁ (omega (arith, c.write.auto.b, c.requires.0.right.size)) in
    let list = rw whole at c.move_one.ensures.1 in (
      λ f N. noted-now f c.args.state.now b₁ i c.args.bytes N fits c.requires.1 c.ranges.bytes.fits c.write.ensures c.from-n.ensures b₂ _ c.store.ensures fits-now list,
      base_kept c.requires.0.bytes c.args.state.now b₁ i c.args.bytes c.requires.0.right fits c.requires.1 c.ranges.bytes.fits c.write.ensures c.from-n.ensures b₂ _ c.store.ensures fits-now list,
    )
