-- Every call but Start keeps the mark, and a parked state stays as it is under each of them: 14 is the only answer. Start takes it as it takes any.
use Prim.Native.Nat.{ℕ}
use mathlib.Core.Path.{◌≡◌, refl, sym, ap, ◌∙◌}
use mathlib.Core.List.{List, [], ◌∷◌}
use mathlib.Core.Bool.{Bool, true, false, true≢false}
use Rattle.answers.specs.Answer.{parked, refused}
use Rattle.spread.specs.Limits.{outside}
use Rattle.rules.specs.Numbers.{falling, holding}
use Rattle.rules.specs.State.{State, fresh, round_over, with_mark}
use Rattle.rules.specs.Reply.{after, under}
use Rattle.rules.specs.Next.{next_call}
use Rattle.rules.specs.Calls.{open_call, put_call, close_call, ask_call, fullest_call, Call, to_open, to_put, to_close, to_next, to_start, to_ask, to_fullest, open_fields, put_fields, close_fields, next_fields, ask_fields, fullest_fields, start_call, start_fields, reply, step, run, of_start, AllInRange}
use Rattle.rules.specs.Facts.{Stage, SoundTo, Sound}
use Rattle.rules.proofs.Cases.{by_answer, by-start, after-under}
use Rattle.rules.proofs.Parking.{parked_open, parked-put, parked_close, parked-next, parked_ask, parked-fullest}
use Rattle.rules.proofs.Accepted.{start-taken}
use Rattle.rules.proofs.Kept.{step_kept}
use Rattle.rules.proofs.RoundEnd.{end_same}
use Rattle.rules.proofs.Frames.{open_leaves, put-leaves, close_leaves, ask_leaves, fullest-leaves}
use Rattle.rules.proofs.NextFrame.{next-leaves}

-- with the mark set or not, a sound state is sound
pub mark-kept : {b : Stage} {s : State} (m : Bool) → SoundTo b s → SoundTo b (with_mark s m)
unfolding round_over
mark-kept {b} {s} m S =
    record {
      edition-is = S.edition-is;
      size = S.size;
      slot = S.slot;
      order-above = S.order-above;
      order_is = S.order_is;
      order_below = S.order_below;
      position = S.position;
      part = S.part;
      no_column = S.no_column;
      end-ok = end_same b s (with_mark s m) refl S.end-ok;
      pool = S.pool;
    }

-- and with its own mark it is itself
pub mark-same : (s : State) {m : Bool} → s.parked ≡ m → with_mark s m ≡ s
mark-same s e = ap (with_mark s) (sym e)

-- "the state is parked and takes only start and the reader": Start looks at the edition alone
pub start_any : (n : ℕ) (s : State) → outside falling holding n ≡ false → step s (to_start n) ≡ fresh n
unfolding step reply start_call
start_any n s e = rw e refl

-- a call other than Start
abbrev pub Other : Call → Type 0
Other c = of_start false (λ e. true) c ≡ false

-- "14 parked, after 10 in every other call"
pub parked-reply : (c : Call) (s : State) → Other c → s.parked ≡ true → reply c s ≡ refused parked
unfolding reply
parked-reply (to_open w) s o e = ap (under open_fields) (parked_open s e w)
parked-reply (to_put i t n r) s o e = ap (under put_fields) (parked-put s e i t n r)
parked-reply (to_close i t) s o e = ap (under close_fields) (parked_close s e i t)
parked-reply to_next s o e = ap (under next_fields) (parked-next s e)
parked-reply (to_start n) s o e = absurd (true≢false o)
parked-reply (to_ask i t) s o e = ap (under ask_fields) (parked_ask s e i t)
parked-reply to_fullest s o e = ap (under fullest_fields) (parked-fullest s e)

pub parked-stays : (c : Call) (s : State) → Other c → s.parked ≡ true → step s c ≡ s
unfolding step
parked-stays c s o e = ap (after s) (parked-reply c s o e)

pub parked-kept : (c : Call) {s : State} → Other c → Sound s → (step s c).parked ≡ s.parked
unfolding step reply
parked-kept (to_open w) {s} o S =
    ap (λ (r : State). r.parked) (after-under open_fields s (open_call w s))
    ∙ by_answer (λ r. r.parked ≡ s.parked) s (open_call w s) refl (λ d e. (open_leaves S e).around.parked)
parked-kept (to_put i t n r) {s} o S =
    ap (λ (q : State). q.parked) (after-under put_fields s (put_call i t n r s))
    ∙ by_answer (λ q. q.parked ≡ s.parked) s (put_call i t n r s) refl (λ d e. (put-leaves S e).parked)
parked-kept (to_close i t) {s} o S =
    ap (λ (r : State). r.parked) (after-under close_fields s (close_call i t s))
    ∙ by_answer (λ r. r.parked ≡ s.parked) s (close_call i t s) refl (λ d e. (close_leaves S e).around.parked)
parked-kept to_next {s} o S =
    ap (λ (r : State). r.parked) (after-under next_fields s (next_call s))
    ∙ by_answer (λ r. r.parked ≡ s.parked) s (next_call s) refl (λ d e. (next-leaves S e).parked)
parked-kept (to_start n) o S = absurd (true≢false o)
parked-kept (to_ask i t) {s} o S =
    ap (λ (r : State). r.parked) (after-under ask_fields s (ask_call i t s) ∙ ask_leaves i t s)
parked-kept to_fullest {s} o S =
    ap (λ (r : State). r.parked) (after-under fullest_fields s (fullest_call s) ∙ fullest-leaves s)

-- so no call of these parks a state
start-unparked : (n : ℕ) (s : State) → s.parked ≡ false → (step s (to_start n)).parked ≡ false
unfolding step reply fresh
start-unparked n s e =
    ap (λ (r : State). r.parked) (after-under start_fields s (start_call n s))
    ∙ by_answer (λ r. r.parked ≡ false) s (start_call n s) e (λ d q. ap (λ (r : State). r.parked) (start-taken n s q).1)

pub unparked-kept : (c : Call) {s : State} → Sound s → s.parked ≡ false → (step s c).parked ≡ false
unparked-kept c {s} S e = by-start (λ d. (step s d).parked ≡ false) (λ n. start-unparked n s e) (λ d o. parked-kept d o S ∙ e) c

pub run-unparked : (cs : List Call) {s : State} → AllInRange cs → Sound s → s.parked ≡ false → (run s cs).parked ≡ false
unfolding run
run-unparked [] f S e = e
run-unparked (c ∷ cs) f S e = run-unparked cs f.1 (step_kept c f.0 S) (unparked-kept c S e)
