-- A sound memory stands for a sound state: without rows it is 8, else the slot chosen sends, and the order is worked out again.
use Rattle.std.proofs.Common.{sym, ap, ◌∙◌}
use Rattle.memory.specs.Memory.{replied_base}
use Rattle.uplink.proofs.SentState.{no_rows, chooses, chose}
use Rattle.uplink.proofs.next.next_in.Goals as goal

pub returns-then-row_count-eq0 : goal.returns-then-row_count-eq0
returns-then-row_count-eq0 g c =
    let b = c.args.state.now in
    ap (replied_base b) (sym (no_rows b c.requires.1 (sym c.row_count.ensures.0 ∙ c.if-row_count-eq0.true)))

pub choose-chosen-requires : goal.choose-chosen-requires
choose-chosen-requires g c = chooses _ c.requires.0 c.row_count.ensures.0 c.if-row_count-eq0.false c.load_scan-scan.ensures

pub send-sent-requires : goal.send-sent-requires
send-sent-requires g c =
    (chose _ c.requires.0 c.row_count.ensures.0 c.if-row_count-eq0.false c.choose-chosen.ensures, c.requires.1)
