-- Whole rounds of edition 2, worked out: one that starts and ends between calls, with weights 2 and 1, one in which the order rises, and one that starts and ends
-- inside a single call. All that the promises ask for is met, and the numbers are theirs.
use Prim.Native.Nat.{ℕ, zero, suc, ◌+◌, ◌≤◌, ◌<◌}
use mathlib.Core.Path.{◌≡◌, refl, sym, subst}
use mathlib.Core.Bool.{Bool, true, false, not, ◌&&◌, ◌||◌, false≢true}
use mathlib.Core.List.{List, [], ◌∷◌, ◌++◌}
use mathlib.Core.Logic.{◌⊎◌, inl, inr}
use native.Mathlib.Omega.{arith}
use lib.Dec.{eqb}
use borrow.Author.Tests.{eqb-true, not-true}
use Rattle.lists.specs.Tests.{is_empty}
use Rattle.lists.proofs.TestLaws.{and-true}
use Rattle.bits.specs.Bit.{bit}
use Rattle.bits.specs.Order.{order, order_in}
use Rattle.bits.specs.Trailing.{trailing, trailing_in}
use Rattle.spread.specs.Sequence.{term}
use Rattle.spread.specs.Visits.{column_at}
use Rattle.rules.specs.Numbers.{holding, longest}
use Rattle.rules.specs.State.{cost, State, fresh, at, order_of, column_of, round_over, shared_use}
use Rattle.rules.specs.Calls.{lowest, open_call, put_call, Call, to_open, to_put, to_next, reply, step, run}
use Rattle.rules.specs.Next.{scanning, next_call}
use Rattle.rules.specs.Facts.{Sound}
use Rattle.rules.proofs.Kept.{reached-sound}
use Rattle.promises.specs.Moments.{Moment, a_term, an_end, a_visit, a_send, a_call, moved, moved_by, scan_moments, moments_of, moments_along, sent_at, visits_at, moments_total}
use Rattle.promises.specs.Rounds.{Starts, Waits, MomentsBefore, Steady, MomentsWithin, MomentsRound, visits_of, cost_of, total}
use Rattle.promises.specs.NobodyWaits.{HeldRound}
use Rattle.promises.proofs.Reached.{no_visit_open, either_end, at_an_end, starts_or_not}
use Rattle.promises.proofs.OneRound.{joined, three}
use Rattle.promises.proofs.Promises.{part-visited, visits-answered, nobody-waits-answered}

-- ---- what the promises ask for, as tests on states that are worked out

abbrev pub is_start : {s : State} → Starts s ⊎ (Starts s → ⊥) → Bool
is_start (inl B) = true
is_start (inr n) = false

pub starts-there : (s : State) → is_start (starts_or_not s) ≡ true → Starts s
starts-there s e = go (starts_or_not s) e
  where
    go : (d : Starts s ⊎ (Starts s → ⊥)) → is_start d ≡ true → Starts s
    go (inl B) q = B
    go (inr n) q = absurd (false≢true q)

abbrev pub is_zero : ℕ → Bool
is_zero zero = true
is_zero (suc n) = false

-- no start after a send
unfoldable pub inside : ℕ → State → List Moment → Bool
inside n s [] = true
inside n s (m ∷ ms) = let later = inside (n + sent_at s m) (moved s m) ms in (is_zero n || not (is_start (starts_or_not s))) && later

pub within-there : (n : ℕ) (s : State) (ms : List Moment) → inside n s ms ≡ true → MomentsWithin n s ms
unfolding inside MomentsWithin
within-there n s [] e = tt
within-there n s (m ∷ ms) e =
    let (a, b) = and-true (is_zero n || not (is_start (starts_or_not s))) (inside (n + sent_at s m) (moved s m) ms) e in
    (go n (starts_or_not s) a, within-there (n + sent_at s m) (moved s m) ms b)
  where
    go : (n : ℕ) (d : Starts s ⊎ (Starts s → ⊥)) → is_zero n || not (is_start d) ≡ true → 0 < n → Starts s → ⊥
    go zero d q l B = omega arith
    go (suc n) (inl x) q l B = false≢true q
    go (suc n) (inr f) q l B = f B

-- a record waiting, and the order
unfoldable waits_before : ℕ → ℕ → State → List Moment → Bool
waits_before k i s [] = true
waits_before k i s (m ∷ ms) =
    let later = waits_before k i (moved s m) ms in
    (eqb s.order k && not (is_empty (at s.channels i).waiting)) && later

before-there : (k i : ℕ) (s : State) (ms : List Moment) → waits_before k i s ms ≡ true → MomentsBefore (Waits k i) s ms
unfolding waits_before MomentsBefore
before-there k i s [] e = tt
before-there k i s (m ∷ ms) e =
    let (a, b) = and-true (eqb s.order k && not (is_empty (at s.channels i).waiting)) (waits_before k i (moved s m) ms) e in
    let (o, w) = and-true (eqb s.order k) (not (is_empty (at s.channels i).waiting)) a in
    (record { order_is = eqb-true s.order k o; waits = not-true (is_empty (at s.channels i).waiting) w }, before-there k i (moved s m) ms b)

-- ---- a round between calls: its end is the last of its moments

unfoldable pub two_held : State
two_held = run (fresh holding) joined

abbrev pub held_round : List Moment
held_round = a_term ∷ a_visit ∷ a_send ∷ a_term ∷ a_visit ∷ a_send ∷ a_term ∷ a_visit ∷ a_send ∷ an_end ∷ []

ten_moments : moments_along two_held three ≡ held_round
unfolding joined two_held three cost bit order order_in trailing trailing_in term column_at fresh order_of column_of round_over lowest open_call put_call scanning next_call reply step run moved moved_by scan_moments moments_of moments_along shared_use
ten_moments = refl

pub held-round : MomentsRound two_held held_round
unfolding joined two_held cost bit order order_in trailing trailing_in term column_at fresh order_of column_of round_over lowest open_call put_call reply step run moved moved_by moments_total no_visit_open either_end at_an_end starts_or_not inside shared_use
held-round =
    record {
      starts = starts-there two_held refl;
      within = within-there 0 two_held held_round refl;
      sent = omega arith;
      ends = starts-there (moved_by two_held held_round) refl;
    }

pub held-order : two_held.order ≡ 2
unfolding joined two_held order order_in fresh order_of lowest open_call put_call reply step run shared_use
held-order = refl

pub first-waits : Steady 2 0 two_held held_round
unfolding joined two_held cost bit order order_in trailing trailing_in term column_at fresh order_of column_of round_over lowest open_call put_call reply step run moved moved_by waits_before shared_use
first-waits = record { before = before-there 2 0 two_held held_round refl; last = record { order_is = λ g. refl; waits = refl } }

pub second-waits : Steady 2 1 two_held held_round
unfolding joined two_held cost bit order order_in trailing trailing_in term column_at fresh order_of column_of round_over lowest open_call put_call reply step run moved moved_by waits_before shared_use
second-waits = record { before = before-there 2 1 two_held held_round refl; last = record { order_is = λ g. refl; waits = refl } }

two-sound : Sound two_held
unfolding joined two_held
two-sound = reached-sound holding (omega arith, omega arith) joined (tt, (tt, (omega arith, (omega arith, (omega arith, (omega arith, (omega arith, tt)))))))

-- the promise of each, by its theorem, and the numbers
promised : (i : ℕ) → Steady 2 i two_held held_round → total (visits_of i) two_held three ≡ (at two_held.channels i).weight
unfolding three
promised i st =
    visits-answered two_held three two-sound (tt, (tt, (tt, tt))) i (subst (MomentsRound two_held) (sym ten_moments) held-round)
    (subst (λ (k : ℕ). Steady k i two_held (moments_along two_held three)) (sym held-order) (subst (Steady 2 i two_held) (sym ten_moments) st))

both : (total (visits_of 0) two_held three ≡ (at two_held.channels 0).weight) × (total (visits_of 1) two_held three ≡ (at two_held.channels 1).weight)
both = (promised 0 first-waits, promised 1 second-waits)

numbers : (total (visits_of 0) two_held three ≡ 2) × (total (visits_of 1) two_held three ≡ 1) × (total (cost_of 0) two_held three ≡ 2048) × (total (cost_of 1) two_held three ≡ 1024)
unfolding joined two_held three cost bit order order_in trailing trailing_in term column_at fresh order_of column_of round_over lowest open_call put_call scanning next_call reply step run total shared_use
numbers = (refl, refl, refl, refl)

-- ---- a round in which the order rises: after its first send a channel of weight 4 joins. P stays at 1, so order 3 goes on at position 2, and slot 1, which
-- order 2 would have found there, is visited at position 4

unfoldable pub heavier : List Call
heavier =
    to_next ∷ to_open 4 ∷ to_put 2 1 longest 6 ∷ to_put 2 1 longest 7 ∷ to_put 2 1 longest 8
    ∷ to_next ∷ to_next ∷ to_next ∷ to_next ∷ to_next ∷ to_next ∷ []

abbrev up_to_rise : List Moment
up_to_rise = a_term ∷ a_visit ∷ a_send ∷ a_call (to_open 4) ∷ a_call (to_put 2 1 longest 6) ∷ []

abbrev pub risen_round : List Moment
risen_round =
    up_to_rise ++ a_call (to_put 2 1 longest 7) ∷ a_call (to_put 2 1 longest 8)
    ∷ a_term ∷ a_visit ∷ a_send ∷ a_term ∷ a_visit ∷ a_send ∷ a_term ∷ a_visit ∷ a_send
    ∷ a_term ∷ a_visit ∷ a_send ∷ a_term ∷ a_visit ∷ a_send ∷ a_term ∷ a_visit ∷ a_send ∷ an_end ∷ []

risen_moments : moments_along two_held heavier ≡ risen_round
unfolding joined two_held heavier cost bit order order_in trailing trailing_in term column_at fresh order_of column_of round_over lowest open_call put_call scanning next_call reply step run moved moved_by scan_moments moments_of moments_along shared_use
risen_moments = refl

risen : ((moved_by two_held up_to_rise).order ≡ 3) × ((moved_by two_held up_to_rise).scan.position ≡ 1)
unfolding joined two_held cost bit order order_in trailing trailing_in term column_at fresh order_of column_of round_over lowest open_call put_call reply step run moved moved_by shared_use
risen = (refl, refl)

pub risen-round : HeldRound 1 two_held risen_round
unfolding joined two_held cost bit order order_in trailing trailing_in term column_at fresh order_of column_of round_over lowest open_call put_call reply step run moved moved_by moments_total no_visit_open either_end at_an_end starts_or_not inside shared_use
risen-round =
    record {
      held-there = refl;
      waits = refl;
      round = record {
        starts = starts-there two_held refl;
        within = within-there 0 two_held risen_round refl;
        sent = omega arith;
        ends = starts-there (moved_by two_held risen_round) refl;
      };
    }

risen-promised : 1 ≤ total (visits_of 1) two_held heavier
unfolding heavier
risen-promised =
    nobody-waits-answered two_held heavier two-sound
    (tt, (tt, (omega arith, (omega arith, (omega arith, (tt, (tt, (tt, (tt, (tt, (tt, tt))))))))))) 1 refl
    (subst (HeldRound 1 two_held) (sym risen_moments) risen-round)

risen-numbers : (total (visits_of 0) two_held heavier ≡ 3) × (total (visits_of 1) two_held heavier ≡ 1) × (total (visits_of 2) two_held heavier ≡ 3)
unfolding joined two_held heavier cost bit order order_in trailing trailing_in term column_at fresh order_of column_of round_over lowest open_call put_call scanning next_call reply step run total shared_use
risen-numbers = (refl, refl, refl)

-- ---- a round inside one call: weights 8 and 1, slot 0 gone with its one record. The call takes seven terms that find no row, ends that round, and its next
-- term, visit and send are the whole next one

abbrev lighter : List Call
lighter =
    to_open 8 ∷ to_open 1 ∷ to_put 0 1 longest 1 ∷ to_put 1 1 longest 2 ∷ to_put 1 1 longest 3 ∷ to_put 1 1 longest 4 ∷ to_next ∷ to_next ∷ []

unfoldable pub light : State
light = run (fresh holding) lighter

abbrev pub old_end : List Moment
old_end = a_term ∷ a_term ∷ a_term ∷ a_term ∷ a_term ∷ a_term ∷ a_term ∷ an_end ∷ []

abbrev pub small_round : List Moment
small_round = a_term ∷ a_visit ∷ a_send ∷ an_end ∷ []

one-call : moments_along light (to_next ∷ []) ≡ old_end ++ (small_round ++ [])
unfolding light cost bit order order_in trailing trailing_in term column_at fresh order_of column_of round_over lowest open_call put_call scanning next_call reply step run moved moved_by scan_moments moments_of moments_along shared_use
one-call = refl

pub inside-round : MomentsRound (moved_by light old_end) small_round
unfolding light cost bit order order_in trailing trailing_in term column_at fresh order_of column_of round_over lowest open_call put_call scanning next_call reply step run moved moved_by moments_total no_visit_open either_end at_an_end starts_or_not inside shared_use
inside-round =
    record {
      starts = starts-there (moved_by light old_end) refl;
      within = within-there 0 (moved_by light old_end) small_round refl;
      sent = omega arith;
      ends = starts-there (moved_by (moved_by light old_end) small_round) refl;
    }

inside-order : (moved_by light old_end).order ≡ 1
unfolding light cost bit order order_in trailing trailing_in term column_at fresh order_of column_of round_over lowest open_call put_call scanning next_call reply step run moved moved_by shared_use
inside-order = refl

pub inside-waits : Steady 1 1 (moved_by light old_end) small_round
unfolding light cost bit order order_in trailing trailing_in term column_at fresh order_of column_of round_over lowest open_call put_call scanning next_call reply step run moved moved_by waits_before shared_use
inside-waits = record { before = before-there 1 1 (moved_by light old_end) small_round refl; last = record { order_is = λ g. refl; waits = refl } }

light-sound : Sound light
unfolding light
light-sound = reached-sound holding (omega arith, omega arith) lighter (tt, (tt, (omega arith, (omega arith, (omega arith, (omega arith, (tt, (tt, tt))))))))

-- slot 1 is visited once in it, by the theorem
inside-visited : moments_total (visits_at 1) (moved_by light old_end) small_round ≡ (at (moved_by light old_end).channels 1).weight
inside-visited =
    part-visited light (to_next ∷ []) light-sound (tt, tt) old_end small_round [] one-call 1 inside-round
    (subst (λ (k : ℕ). Steady k 1 (moved_by light old_end) small_round) (sym inside-order) inside-waits)
