-- Each turn adds one test to those before it.
use Rattle.std.proofs.Common.{◌≡◌, ℕ, ◌<◌, Bool}
use Rattle.soundness.specs.Check.{all_below}
use Rattle.soundness.proofs.lines.every.Given as goal

abbrev pub invariant-loop-k : goal.invariant-loop-k
invariant-loop-k g l =
    (f : ℕ → Bool) → ((k : ℕ) → k < l.fn.n → (r : Bool) → goal.F-post g l.fn.test k r → r ≡ f k) → l.ok ≡ all_below l.k f
