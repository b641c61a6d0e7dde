-- One field more is written behind those before i.
use Rattle.std.proofs.Common.{◌≡◌, ◌+◌, ◌*◌, ◌<◌, ◌≤◌, length, refl, ap, ◌∙◌, arith}
use Rattle.std.proofs.lemmas.Slice.{take-put_mid}
use Rattle.driver.specs.Words.{words}
use Rattle.driver.proofs.WordsLaws.{words-next}
use Rattle.driver.proofs.fields.give.Goals as goal

pub loop-i-init : goal.loop-i-init
unfolding words
loop-i-init c = refl

pub loop-i-preserved : goal.loop-i-preserved
loop-i-preserved c =
    let l = c.loop-i in
    let four : length c.copy_from_slice.new.self ≡ 4 = ap length c.copy_from_slice.ensures.after ∙ ap length c.to_le_bytes.ensures in
    let end : 4 * (l.i + 1) ≡ 4 * l.i + length c.copy_from_slice.new.self = omega arith in
    let room : 4 * l.i ≤ length l.answer = omega arith in
    let here : l.i < length c.args.fields.now = omega arith in
    rw (take-put_mid (4 * l.i) _ l.answer c.copy_from_slice.new.self _ end room, l.invariant, words-next c.args.fields.now l.i here, c.copy_from_slice.ensures.after, c.to_le_bytes.ensures) (grind arith)
