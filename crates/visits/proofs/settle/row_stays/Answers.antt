-- The numbers stored are the channel's, and the visit kept is the rules'.
use Prim.Native.Nat.{◌<◌}
use mathlib.Core.Path.{◌≡◌, sym, ap, ◌∙◌}
use mathlib.Core.List.{List, ◌∷◌}
use native.Mathlib.Nat.{le_refl}
use native.Mathlib.Omega.{arith}
use lib.ListN.{length, get_or}
use Rattle.rules.specs.State.{Record, cost, at, with_channel}
use Rattle.rules.specs.Next.{row_stays}
use Rattle.memory.specs.declared.records.Cell.{Cell}
use Rattle.memory.specs.Records.{cell_of}
use Rattle.memory.proofs.RunLaws.{no_record}
use Rattle.memory.proofs.Fitting.{fits-channel, fewer}
use Rattle.visits.proofs.SettledState.{oldest-within, oldest-is, stays-point}
use Rattle.visits.proofs.settle.row_stays.Goals as goal

pub load_record-next-requires : goal.load_record-next-requires
load_record-next-requires c =
    let (z, waits, here) = c.requires in
    rw here (oldest-within z.fits z.memory _ z.slot_lt (rw z.left at waits))

pub store_head-requires : goal.store_head-requires
store_head-requires c =
    let (z, waits, here) = c.requires in
    z.slot_lt

pub returns : goal.returns
returns c =
    let i = c.args.chosen.slot in
    let here = c.requires.2 in
    λ z h rest w.
    let queue : (at z.state.channels i).waiting ≡ h ∷ rest = sym z.left ∙ w in
    let some-here : 0 < length (at z.state.channels i).waiting = rw queue (omega arith) in
    let oldest = oldest-is z.fits z.memory i z.slot_lt some-here ∙ ap (λ (rs : List Record). get_or rs 0 no_record) queue in
    let cell : c.load_record-next.result ≡ cell_of h = c.load_record-next.ensures ∙ ap cell_of (rw here oldest) in
    let paid : c.cost_of-cost.result ≡ cost h
    = c.cost_of-cost.ensures h.reference ∙ ap (λ (x : Cell). cost (record { length = x.length; reference = h.reference })) cell in
    let stored = c.store_head.ensures z.state z.channel z.fits z.memory z.head-is z.left in
    c.store_scan.ensures (with_channel z.state i z.channel) (row_stays z.state i h z.channel).scan
    (fits-channel z.fits i z.channel z.slot_lt z.channel-fits (fewer z.fits i z.channel z.slot_lt (rw z.left (le_refl _)))) stored
    (stays-point z.state i h z.channel z.scan-is z.head-is paid c.visit_left-visit.ensures)
