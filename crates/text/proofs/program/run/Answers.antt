-- A longer input prints the message. Any other is answered from what Start leaves, which is the fresh memory, since the memory's length is right.
use mathlib.Core.Path.{◌≡◌, refl, sym, ap, ◌∙◌}
use mathlib.Core.List.{List}
use Prim.Native.Nat.{ℕ, ◌≤◌, ◌<◌}
use native.Mathlib.Omega.{arith}
use lib.ListN.{length, take}
use Rattle.std.proofs.Common.{rules}
use lib.Seq.{length-take-le}
use Rattle.text.specs.Answers.{most, too_long}
use Rattle.text.proofs.OutputLaws.{written_stands, start-fresh, lift-long, lift-short}
use Rattle.text.proofs.program.run.Goals as goal

pub returns-then-n-gt-MOST : goal.returns-then-n-gt-MOST
returns-then-n-gt-MOST c =
    let a = c.args in
    let W = c.bytes.ensures in
    let read : length (take a.n a.input.now) ≡ a.n = length-take-le a.n a.input.now c.requires.1 in
    let long : most < length (take a.n a.input.now) = omega (arith, c.if-n-gt-MOST.true) in
    let S = written_stands too_long a.out.now (omega (arith, c.requires.2)) W.written.place W.written.buffer in
    rw (lift-long (take a.n a.input.now) long) (search (rules, S, W.same_reference))

pub slice_bounds-answer_all-end-2 : goal.slice_bounds-answer_all-end-2
slice_bounds-answer_all-end-2 c =
    sym (length-take-le c.args.n c.args.input.now c.requires.1)

pub answer_all-requires : goal.answer_all-requires
answer_all-requires c =
    omega (arith, length-take-le c.args.n c.args.input.now c.requires.1, c.if-n-gt-MOST.false, c.requires.2)

pub returns : goal.returns
returns c =
    let a = c.args in
    let text : List ℕ = take a.n a.input.now in
    let short : length text ≤ most = omega (arith, length-take-le a.n a.input.now c.requires.1, c.if-n-gt-MOST.false) in
    let fresh = ap (λ x. x.bytes) (rw c.from.ensures at c.start.ensures) ∙ start-fresh _ refl in
    rw (lift-short text short) (rw fresh at c.answer_all.ensures)
