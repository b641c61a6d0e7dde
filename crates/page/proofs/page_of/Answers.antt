-- The memory is sound, not parked, and has rows, so the choice is the rules'; the page in its numbers is theirs, and there is room for it.
use Rattle.std.proofs.Common.{rules, arith}
use lib.ListN.{length-append}
use Rattle.rules.specs.State.{weights}
use Rattle.memory.specs.Reading.{state_of}
use Rattle.memory.proofs.OneMemory.{base-sound}
use Rattle.octets.proofs.WroteLaws.{then_wrote}
use Rattle.visits.specs.Choice.{Chooses}
use Rattle.visits.proofs.ChoiceInNumbers.{rows_of}
use Rattle.uplink.proofs.SentState.{scan-loaded}
use Rattle.text.proofs.OutputLaws.{written_stands}
use Rattle.page.specs.Page.{row_lines}
use Rattle.page.specs.InNumbers.{line_in, head_in, page_in}
use Rattle.page.proofs.ChosenPage.{taken, page_same, page_fits}
use Rattle.page.proofs.page_of.Goals as goal

pub choose-chosen-requires : goal.choose-chosen-requires
choose-chosen-requires c =
    let m = base-sound c.args.state.now c.requires.0.0 in
    record { memory = m; filled = c.requires.1; scan-is = scan-loaded m c.load_scan-scan.ensures }

pub put_head-requires : goal.put_head-requires
put_head-requires c =
    let m = base-sound c.args.state.now c.requires.0.0 in
    let C : Chooses c.args.state.now c.load_scan-scan.result = record { memory = m; filled = c.requires.1; scan-is = scan-loaded m c.load_scan-scan.ensures } in
    let e = c.choose-chosen.ensures in
    let s = state_of c.args.state.now in
    let x = c.choose-chosen.result in
    (taken C e, omega (arith, page_fits C e, length-append (head_in c.load_scan-scan.result x) (row_lines (line_in (weights s.channels) x) s.rows), c.requires.2))

pub fill-requires : goal.fill-requires
fill-requires c = rows_of (base-sound c.args.state.now c.requires.0.0)

pub put_rows-requires : goal.put_rows-requires
put_rows-requires c =
    let m = base-sound c.args.state.now c.requires.0.0 in
    let C : Chooses c.args.state.now c.load_scan-scan.result = record { memory = m; filled = c.requires.1; scan-is = scan-loaded m c.load_scan-scan.ensures } in
    let e = c.choose-chosen.ensures in
    let s = state_of c.args.state.now in
    let x = c.choose-chosen.result in
    let W = c.put_head.ensures in (
      rows_of m,
      c.fill.ensures,
      (taken C e).order-low,
      omega (arith, page_fits C e, length-append (head_in c.load_scan-scan.result x) (row_lines (line_in (weights s.channels) x) s.rows), W.written.place, W.same_length, c.requires.2),
    )

pub returns : goal.returns
returns c =
    let m = base-sound c.args.state.now c.requires.0.0 in
    let C : Chooses c.args.state.now c.load_scan-scan.result = record { memory = m; filled = c.requires.1; scan-is = scan-loaded m c.load_scan-scan.ensures } in
    let e = c.choose-chosen.ensures in
    let s = state_of c.args.state.now in
    let W = then_wrote c.put_head.ensures c.put_rows.ensures in
    let S = written_stands (page_in (weights s.channels) s.rows c.load_scan-scan.result c.choose-chosen.result) c.args.out.now (omega (arith, page_fits C e, c.requires.2)) W.written.place W.written.buffer in
    let T = rw (page_same C e c.requires.0.1) at S in
    search (rules, T, W.same_reference)
