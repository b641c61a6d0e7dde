-- The bytes from k on stand, and what is left of the number gives the one before them.
use Rattle.std.proofs.Common.{ℕ, ◌+◌, ◌-◌, ◌/◌, ◌%◌, ◌≡◌, refl, sym, ap, arith, length-set, ◌∙◌}
use Rattle.image.proofs.PartLaws.{length-high_first}
use Rattle.image.proofs.LaidLaws.{number-turn, number-rest, number-none, number-whole}
use Rattle.image.proofs.parts.put_number.Goals as goal

pub loop-k-init : goal.loop-k-init
loop-k-init c =
    let a = c.args in
    let w = a.w.now in
    let e : a.width - a.width ≡ 0 = omega arith in
    (refl, refl, refl, rw e (omega arith), sym (number-none w.out.now w.at a.width a.number))

pub loop-k-preserved : goal.loop-k-preserved
loop-k-preserved c =
    let a = c.args in
    let w = a.w.now in
    let l = c.loop-k in
    let pos = c.loop-k-test.true in
    let (at, size, name, rest, stand) = l.invariant in (
      at,
      length-set l.w.out.now (l.w.at + (l.k - 1)) (l.rest % 256) ∙ size,
      name,
      ap (λ (n : ℕ). n / 256) rest ∙ number-rest w.out.now w.at a.width a.number l.k pos l.auto.k,
      rw (stand, rest, at) (number-turn w.out.now w.at a.width a.number l.k pos l.auto.k c.requires),
    )

pub returns : goal.returns
returns c =
    let a = c.args in
    let w = a.w.now in
    let l = c.loop-k in
    let zero : l.k ≡ 0 = omega (arith, c.loop-k-test.false) in
    let (at, size, name, rest, stand) = l.invariant in
    record {
      written = record {
        place = rw (at, length-high_first a.width a.number) refl;
        buffer = stand ∙ rw zero (number-whole w.out.now w.at a.width a.number);
      };
      room = omega (arith, at, c.requires);
      same_length = size;
      same_reference = name;
    }
