-- What still waits decides the way, and either way is that of the rules.
use Prim.Native.Nat.{◌<◌}
use mathlib.Core.Path.{◌≡◌, sym, ap, ◌∙◌}
use mathlib.Core.List.{List, []}
use native.Mathlib.Omega.{arith}
use lib.ListN.{length}
use Rattle.rules.specs.State.{Record}
use Rattle.memory.specs.Layout.{bytes_of}
use Rattle.visits.specs.Settle.{unordered}
use Rattle.visits.proofs.SettledState.{settling_waiting, length_none, length_some}
use Rattle.visits.proofs.settle.visit_settled.Goals as goal

pub waiting_of-requires : goal.waiting_of-requires
waiting_of-requires c =
    let z = c.requires.0 in
    z.slot_lt

pub row_left-requires : goal.row_left-requires
row_left-requires c =
    let z = c.requires.0 in
    (z, length_none z.channel.waiting (sym (settling_waiting z) ∙ sym c.waiting_of.ensures.0 ∙ c.if-waiting_of-eq0.true))

pub returns-then-waiting_of-eq0 : goal.returns-then-waiting_of-eq0
returns-then-waiting_of-eq0 c =
    let i = c.args.chosen.slot in
    λ z.
    let none : z.channel.waiting ≡ [] = length_none z.channel.waiting (sym (settling_waiting z) ∙ sym c.waiting_of.ensures.0 ∙ c.if-waiting_of-eq0.true) in
    c.row_left.ensures z none ∙ ap (λ (rs : List Record). bytes_of (unordered rs z.state i z.channel)) (sym none)

pub row_stays-requires : goal.row_stays-requires
row_stays-requires c =
    let (z, here) = c.requires in
    let some_left : length z.channel.waiting ≡ 0 → ⊥ = λ e. c.if-waiting_of-eq0.false (c.waiting_of.ensures.0 ∙ settling_waiting z ∙ e) in
    let n : 0 < length z.channel.waiting = omega arith in
    (z, n, here)

pub returns-else-waiting_of-eq0 : goal.returns-else-waiting_of-eq0
returns-else-waiting_of-eq0 c =
    let i = c.args.chosen.slot in
    λ z.
    let (h, more, e) = length_some z.channel.waiting (λ e. c.if-waiting_of-eq0.false (c.waiting_of.ensures.0 ∙ settling_waiting z ∙ e)) in
    c.row_stays.ensures z h more e ∙ ap (λ (rs : List Record). bytes_of (unordered rs z.state i z.channel)) (sym e)
