-- Document 01's starred checks, 1 to 11, as one claim about the rules. "Cases 5 and 6 .. use 1,014 for 1,024; in case 9, 1,014 is taken and 1,015 refused." (02 §1) They are
-- edition 1's, "today's rule" (02 §3).
use Rattle.std.specs.Prelude.{ℕ, zero, suc, ◌≡◌, List, [], ◌∷◌, ◌++◌}
use Rattle.answers.specs.Answer.{number, refused, given}
use Rattle.spread.specs.Starred.{StarredSequence}
use Rattle.rules.specs.Numbers.{falling}
use Rattle.rules.specs.State.{State, fresh}
use Rattle.rules.specs.Next.{Sent, next_call}
use Rattle.rules.specs.Calls.{open_call, put_call, Call, to_open, to_put, run}

-- so many records of a length for a ticket of a slot
unfoldable pub fill : ℕ → ℕ → ℕ → ℕ → List Call
fill i t n zero = []
fill i t n (suc k) = to_put i t n k ∷ fill i t n k

-- one field of each of n sends
unfoldable pub each_send : (Sent → ℕ) → ℕ → State → List ℕ
each_send f zero s = []
each_send f (suc n) s = elim (next_call s) [ refused r ↦ [] | given d ↦ f d.fields ∷ each_send f n d.state ]

-- weights 1, 4, 8, 3 in slots 0 to 3, joined so, 16 records of 1,014 each; and one channel of a weight, after these calls
abbrev pub four : State
four =
    run (fresh falling)
    (to_open 1 ∷ to_open 4 ∷ to_open 8 ∷ to_open 3 ∷ fill 0 1 1014 16 ++ fill 1 1 1014 16 ++ fill 2 1 1014 16 ++ fill 3 1 1014 16)

abbrev pub lone : ℕ → List Call → State
lone w puts = run (fresh falling) (to_open w ∷ puts)

pub record Starred : Type 0 where
  -- 1* to 4* and 11*, of Term and Lead
  pub sequence : StarredSequence
  -- "5* Weights 1, 4, 8, 3 in slots 0 to 3, joined so, 16 records of 1,014 each: the first 16 sends are from slots .." (document 000, section 1)
  pub five : each_send (λ a. a.slot) 16 four ≡ 2 ∷ 1 ∷ 2 ∷ 3 ∷ 2 ∷ 1 ∷ 2 ∷ 0 ∷ 3 ∷ 2 ∷ 1 ∷ 2 ∷ 3 ∷ 2 ∷ 1 ∷ 2 ∷ []
  -- "6* One channel of weight 9 with three records of 1,014: terms taken are 1, 2, 2."
  pub six : each_send (λ a. a.terms) 3 (lone 9 (fill 0 1 1014 3)) ≡ 1 ∷ 2 ∷ 2 ∷ []
  -- "7* Three records of 300: one visit, start marks 1, 0, 0."
  pub seven : each_send (λ a. a.started) 3 (lone 9 (fill 0 1 300 3)) ≡ 1 ∷ 0 ∷ 0 ∷ []
  -- "8* Weight 4,095 opens, 4,096 gives 6, 0 gives 6."
  pub eight : (number (open_call 4095 (fresh falling)) ≡ 0) × (number (open_call 4096 (fresh falling)) ≡ 6) × (number (open_call 0 (fresh falling)) ≡ 6)
  -- "9* Length 1,014 is taken, 1,015 gives 4."
  pub nine : (number (put_call 0 1 1014 7 (lone 1 [])) ≡ 0) × (number (put_call 0 1 1015 7 (lone 1 [])) ≡ 4)
  -- "10* The 17th waiting record gives 5.": "Case 10 becomes the 65th record of one channel." (02 §4)
  pub ten : (number (put_call 0 1 1 7 (lone 1 (fill 0 1 1 63))) ≡ 0) × (number (put_call 0 1 1 7 (lone 1 (fill 0 1 1 64))) ≡ 5)
