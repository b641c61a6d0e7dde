-- The numbers passed are taken.
use Rattle.std.proofs.Common.{ℕ, ◌<◌, List, length, get_or, take, drop, refl, ap, ◌∙◌, arith, length-set, take_all, drop-drop}
use Rattle.image.specs.Parts.{as_number, span}
use Rattle.reader.proofs.TakingLaws.{taken_none, taken-turn, taken-all, span_more}
use Rattle.reader.proofs.taking.take_parts.Goals as goal

pub loop-i-init : goal.loop-i-init
loop-i-init c = let a = c.args in (refl, refl, taken_none a.widths.now a.image.now a.numbers.now)

pub take_number-number-requires : goal.take_number-number-requires
take_number-number-requires c = c.requires.1 c.loop-i.i

pub loop-i-preserved : goal.loop-i-preserved
loop-i-preserved c =
    let a = c.args in
    let ws = a.widths.now in
    let b = a.image.now in
    let l = c.loop-i in
    let inside : l.i < length ws = omega arith in
    let taken = c.take_number-number.ensures in (
      simp length-set (omega arith),
      rw (span_more l.i ws inside) (taken.1 ∙ ap (drop (get_or ws l.i 0)) l.invariant.1 ∙ drop-drop (get_or ws l.i 0) (span (take l.i ws)) b),
      rw l.invariant.2 (taken-turn l.i ws b a.numbers.now c.take_number-number.result.0 c.requires.0 inside
          (taken.0 ∙ ap (as_number (get_or ws l.i 0)) l.invariant.1)),
    )

pub returns : goal.returns
returns c =
    let a = c.args in
    let l = c.loop-i in
    let all = take_all l.i a.widths.now (omega arith) in (
      l.invariant.2 ∙ taken-all l.i a.widths.now a.image.now a.numbers.now c.requires.0 (omega arith),
      l.invariant.1 ∙ ap (λ (ws : List ℕ). drop (span ws) a.image.now) all,
    )
