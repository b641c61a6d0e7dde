-- The sum over the slots' numbers waiting is the use of the shared cells.
use Prim.Native.Nat.{ℕ, zero, suc, ◌+◌, ◌-◌}
use mathlib.Core.Path.{◌≡◌, refl, sym, ap, ◌∙◌}
use mathlib.Core.List.{List, [], ◌∷◌}
use native.Mathlib.Numerals.{add-one}
use native.Mathlib.Omega.{arith}
use lib.ListN.{length}
use Rattle.lists.specs.Tabs.{tab}
use Rattle.lists.proofs.TabLaws.{length-tab, tab-last}
use Rattle.rules.specs.Numbers.{slots, kept}
use Rattle.rules.specs.State.{shared_use}
use Rattle.rules.proofs.Pool.{shared_append}
use Rattle.memory.specs.Reading.{waiting_at, first_at, record_at, channel_at, state_of}
use Rattle.memory.specs.Search.{used_at}

-- what a turn of the loop adds
pub used_turn : (b : List ℕ) (k n x : ℕ) → n ≡ used_at b k → x ≡ waiting_at b k - kept → n + x ≡ used_at b (k + 1)
unfolding used_at
used_turn b k n x e g = rw (add-one, e, g)

module _ (b : List ℕ) where
  used-first : (n : ℕ) → used_at b n ≡ shared_use (tab n (channel_at b))
  unfolding used_at shared_use tab channel_at
  used-first zero = refl
  used-first (suc n) =
      let here : length (tab (waiting_at b n) (λ k. record_at b (first_at b n + k))) ≡ waiting_at b n = length-tab (waiting_at b n) (λ k. record_at b (first_at b n + k)) in
      let before = used-first n in
      let more = shared_append (tab n (channel_at b)) (channel_at b n ∷ []) in
      omega arith ∙ sym (ap shared_use (tab-last n (channel_at b)))

  pub used-read : used_at b slots ≡ shared_use (state_of b).channels
  unfolding state_of
  used-read = used-first slots
