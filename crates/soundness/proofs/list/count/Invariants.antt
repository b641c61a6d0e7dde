-- Each turn adds one slot.
use Rattle.std.proofs.Common.{◌≡◌, ℕ, ◌<◌, ◌≤◌, Bool, leb}
use Rattle.rules.specs.Numbers.{slots}
use Rattle.fullest.specs.Keys.{key, above}
use Rattle.soundness.proofs.list.count.Given as goal

abbrev pub invariant-loop-s : goal.invariant-loop-s
invariant-loop-s g l =
    (l.n ≤ l.s)
    × ((f : ℕ → ℕ) (limit : ℕ) → ((s : ℕ) → s < slots → (r : Bool) → goal.F-post g l.fn.test s r → r ≡ leb limit (key f s)) → l.n ≡ above f limit l.s)
