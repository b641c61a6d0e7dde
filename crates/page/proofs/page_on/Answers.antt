-- Without rows Next is refused, and there is no page.
use mathlib.Core.Path.{◌≡◌, refl, sym, ◌∙◌}
use mathlib.Core.Bool.{true, false, ◌||◌}
use mathlib.Core.List.{List, []}
use Prim.Native.Nat.{ℕ}
use Rattle.lists.specs.Tests.{is_empty}
use Rattle.memory.specs.Reading.{row_count_at, state_of}
use Rattle.memory.proofs.SearchLaws.{rows-length}
use Rattle.visits.proofs.SettledState.{length_none}
use Rattle.uplink.proofs.SentState.{some-rows}
use Rattle.page.specs.Page.{page_of}
use Rattle.page.proofs.PutLaws.{stands-none}
use Rattle.page.proofs.page_on.Goals as goal

rowless-none : (b : List ℕ) → (state_of b).parked ≡ false → row_count_at b ≡ 0 → page_of (state_of b) ≡ []
unfolding page_of
rowless-none b u e =
    let none : (state_of b).rows ≡ [] = length_none (state_of b).rows (rows-length b ∙ e) in
    let refuses : ((state_of b).parked || is_empty (state_of b).rows) ≡ true = rw (u, none) refl in
    rw refuses

pub returns-then-row_count-eq0 : goal.returns-then-row_count-eq0
returns-then-row_count-eq0 c =
    stands-none (rowless-none c.args.state.now c.requires.0.1 (sym c.row_count.ensures.0 ∙ c.if-row_count-eq0.true))

pub page_of-requires : goal.page_of-requires
page_of-requires c =
    (c.requires.0, some-rows _ (λ e. c.if-row_count-eq0.false (c.row_count.ensures.0 ∙ e)), c.requires.1)

pub returns : goal.returns
returns c = c.page_of.ensures
