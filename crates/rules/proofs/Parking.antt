-- The mark is the first check of every call but Start: an accepted call was made on a state that isn't parked, and there the mark is as if it weren't.
use Prim.Native.Nat.{ℕ}
use mathlib.Core.Path.{◌≡◌, refl}
use mathlib.Core.Bool.{true, false}
use mathlib.Core.List.{[], ◌∷◌}
use Rattle.answers.specs.Answer.{parked, refused, given, ◌gives◌}
use Rattle.answers.proofs.Answers.{checked-passed, checked-given}
use Rattle.rules.specs.State.{State}
use Rattle.rules.specs.Reply.{Done, Reply, unparked}
use Rattle.rules.specs.Next.{next_call}
use Rattle.rules.specs.Calls.{open_call, put_call, close_call, ask_call, fullest_call}

pub unparked-given : {A : Type 0} (s : State) {r : Reply A} {d : Done A} → unparked s r ≡ given d → (s.parked ≡ false) × (r ≡ given d)
unparked-given s {r} e = let (p, q) = checked-given ((s.parked gives parked) ∷ []) r e in (p.0, q)

pub unparked-is : {A : Type 0} (s : State) (r : Reply A) → s.parked ≡ false → unparked s r ≡ r
unparked-is s r e = checked-passed ((s.parked gives parked) ∷ []) r (e, tt)

pub parked-refused : {A : Type 0} (s : State) (r : Reply A) → s.parked ≡ true → unparked s r ≡ refused parked
parked-refused s r e = rw e refl

-- ---- "14 parked, after 10 in every other call", call by call

module _ (s : State) (e : s.parked ≡ true) where
  pub parked_open : (w : ℕ) → open_call w s ≡ refused parked
  unfolding open_call
  parked_open w = parked-refused s _ e

  pub parked-put : (i t n r : ℕ) → put_call i t n r s ≡ refused parked
  unfolding put_call
  parked-put i t n r = parked-refused s _ e

  pub parked_close : (i t : ℕ) → close_call i t s ≡ refused parked
  unfolding close_call
  parked_close i t = parked-refused s _ e

  pub parked-next : next_call s ≡ refused parked
  unfolding next_call
  parked-next = parked-refused s _ e

  pub parked_ask : (i t : ℕ) → ask_call i t s ≡ refused parked
  unfolding ask_call
  parked_ask i t = parked-refused s _ e

  pub parked-fullest : fullest_call s ≡ refused parked
  unfolding fullest_call
  parked-fullest = parked-refused s _ e
