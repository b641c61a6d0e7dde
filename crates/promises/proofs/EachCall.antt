-- What a call is to a round: Next, or a call that sends nothing, leaves the edition, the scan point, and the weight and deficit of each slot that waits, alone,
-- and lowers no order, or a Start that is taken. Of the files on rounds this is the one that goes by which call it is.
use Prim.Native.Nat.{ℕ, max, ◌≤◌}
use mathlib.Core.Path.{◌≡◌, refl, sym, ◌∙◌, ap}
use mathlib.Core.Bool.{true, false, true≢false, false≢true, not}
use mathlib.Core.List.{List, [], ◌∷◌, ◌++◌}
use native.Mathlib.Nat.{le_refl}
use native.Mathlib.Omega.{arith}
use Rattle.lists.specs.Slots.{occurs}
use Rattle.lists.specs.Tests.{is_empty}
use Rattle.lists.proofs.SlotsLaws.{if_eq}
use Rattle.answers.specs.Answer.{Refusal, refused, given}
use Rattle.spread.proofs.Limits.{not-outside}
use Rattle.rules.specs.Numbers.{falling, holding}
use Rattle.rules.specs.State.{Record, State, fresh, at}
use Rattle.rules.specs.Reply.{Done, after}
use Rattle.rules.specs.Next.{Sent, next_call}
use Rattle.rules.specs.Calls.{open_call, Taken, put_by, put_call, close_call, ask_call, fullest_call, start_call, Call, to_open, to_put, to_close, to_next, to_start, to_ask, to_fullest, open_fields, put_fields, close_fields, next_fields, start_fields, ask_fields, fullest_fields, reply, step}
use Rattle.rules.specs.Facts.{Edition, Sound}
use Rattle.rules.proofs.Cases.{by_answer, after-under, only_next}
use Rattle.rules.proofs.Accepted.{start-taken}
use Rattle.rules.proofs.Choosing.{rows_order}
use Rattle.rules.proofs.Frames.{OpenLeaves, open_leaves, PutLeaves, put-leaves, CloseLeaves, close_leaves, ask_leaves, fullest-leaves}
use Rattle.promises.specs.Histories.{restarts}
use Rattle.promises.specs.Moments.{is_next}
use Rattle.promises.specs.Rounds.{Waiting, counted}
use Rattle.promises.proofs.Waiting.{waits-row}

-- ---- Next

pub is-next : (c : Call) → is_next c ≡ true → c ≡ to_next
is-next (to_open w) e = absurd (false≢true e)
is-next (to_put i t n r) e = absurd (false≢true e)
is-next (to_close i t) e = absurd (false≢true e)
is-next to_next e = refl
is-next (to_start x) e = absurd (false≢true e)
is-next (to_ask i t) e = absurd (false≢true e)
is-next to_fullest e = absurd (false≢true e)

pub step-next : (s : State) → step s to_next ≡ after s (next_call s)
unfolding step reply
step-next s = after-under next_fields s (next_call s)

pub counted-given : (f : Sent → ℕ) (s : State) {d : Done Sent} → next_call s ≡ given d → counted f s to_next ≡ f d.fields
unfolding reply
counted-given f s e = rw e refl

pub counted-refused : (f : Sent → ℕ) (s : State) {n : Refusal} → next_call s ≡ refused n → counted f s to_next ≡ 0
unfolding reply
counted-refused f s e = rw e refl

-- ---- any other call

pub counted-other : (f : Sent → ℕ) (s : State) (c : Call) → is_next c ≡ false → counted f s c ≡ 0
counted-other f s c e = only_next 0 f c s e

-- what a round looks at of slot i, which waits, is the same
pub record Alone (i : ℕ) (s s' : State) : Type 0 where
  pub weight : (at s'.channels i).weight ≡ (at s.channels i).weight
  pub deficit : (at s'.channels i).deficit ≡ (at s.channels i).deficit
  pub waits : Waiting i s'

pub data OtherCall (s : State) (c : Call) (s' : State) : Type 0 where
  quiet : s'.edition ≡ s.edition → s'.scan ≡ s.scan → s.order ≤ s'.order → ((i : ℕ) → Waiting i s → Alone i s s') → OtherCall s c s'
  afresh : (e : ℕ) → Edition e → restarts c ≡ true → s' ≡ fresh e → OtherCall s c s'

added : (rs : List Record) (r : Record) → is_empty (rs ++ r ∷ []) ≡ false
added [] r = refl
added (h ∷ rs) r = refl

alone-same : {i : ℕ} {s s' : State} → Waiting i s → at s'.channels i ≡ at s.channels i → Alone i s s'
alone-same h e = record { weight = rw e refl; deficit = rw e refl; waits = rw e h }

still : {s s' : State} {c : Call} → s' ≡ s → OtherCall s c s'
still {s} e = rw e (quiet refl refl (le_refl _) (λ i h. alone-same h refl))

module _ {s : State} (S : Sound s) where
  -- Open takes a slot that is no row
  open_other : (w : ℕ) → OtherCall s (to_open w) (after s (open_call w s))
  open_other w =
      by_answer (OtherCall s (to_open w)) s (open_call w s) (still refl)
      (λ d e.
      let L : OpenLeaves w s d = open_leaves S e in
      quiet L.around.edition L.around.scan (omega (arith, L.around.order))
      (λ i h.
      let m : occurs i s.rows ≡ 1 = waits-row S i h in
      alone-same h (L.others i (λ q. let z : occurs i s.rows ≡ 0 = rw q L.no_row in omega arith))))

  -- Put and Close leave the weight and the deficit of a slot that waits
  put_other : (j t n r : ℕ) → OtherCall s (to_put j t n r) (after s (put_call j t n r s))
  put_other j t n r =
      by_answer (OtherCall s (to_put j t n r)) s (put_call j t n r s) (still refl)
      (λ d e.
      let L : PutLeaves j t n r s d = put-leaves S e in
      quiet L.edition L.scan L.risen
      (λ i h.
      if_eq i j
      (λ q.
      let more = added (at s.channels j).waiting (record { length = n; reference = r }) in
      rw q (record { weight = rw L.own refl; deficit = rw L.own refl; waits = rw L.own more }))
      (λ m. alone-same h (L.others i m))))

  close_other : (j t : ℕ) → OtherCall s (to_close j t) (after s (close_call j t s))
  close_other j t =
      by_answer (OtherCall s (to_close j t)) s (close_call j t s) (still refl)
      (λ d e.
      let L : CloseLeaves j t s d = close_leaves S e in
      quiet L.around.edition L.around.scan (omega (arith, L.around.order))
      (λ i h.
      if_eq i j
      (λ q. let g = (L.drains (rw (sym q) h)).1 in rw q (record { weight = rw g refl; deficit = rw g refl; waits = rw (g, ← q) h }))
      (λ m. alone-same h (L.others i m))))

  start-other : (e : ℕ) → OtherCall s (to_start e) (after s (start_call e s))
  start-other e =
      by_answer (OtherCall s (to_start e)) s (start_call e s) (still refl)
      (λ d q. let T = start-taken e s q in afresh e T.0 (ap not (not-outside falling holding e T.0.0 T.0.1)) T.1)

  pub other-call : (c : Call) → is_next c ≡ false → OtherCall s c (step s c)
  unfolding step reply
  other-call (to_open w) n = rw (after-under open_fields s (open_call w s)) (open_other w)
  other-call (to_put j t k r) n = rw (after-under put_fields s (put_call j t k r s)) (put_other j t k r)
  other-call (to_close j t) n = rw (after-under close_fields s (close_call j t s)) (close_other j t)
  other-call to_next n = absurd (true≢false n)
  other-call (to_start e) n = rw (after-under start_fields s (start_call e s)) (start-other e)
  other-call (to_ask j t) n = still (after-under ask_fields s (ask_call j t s) ∙ ask_leaves j t s)
  other-call to_fullest n = still (after-under fullest_fields s (fullest_call s) ∙ fullest-leaves s)

-- ---- the rows and the order: they stay, or a slot joins and the order is at least the rows', or a Start leaves no row

pub data OrderLeft (s s' : State) : Type 0 where
  staying : s'.rows ≡ s.rows → s'.order ≡ s.order → OrderLeft s s'
  joined : (j : ℕ) → s'.rows ≡ s.rows ++ j ∷ [] → s'.order ≡ max s.order (rows_order s') → OrderLeft s s'
  no_rows : (e : ℕ) → s' ≡ fresh e → OrderLeft s s'

unmoved : {s s' : State} → s' ≡ s → OrderLeft s s'
unmoved e = rw e (staying refl refl)

module _ {s : State} (S : Sound s) where
  open_order : (w : ℕ) → OrderLeft s (after s (open_call w s))
  open_order w =
      by_answer (OrderLeft s) s (open_call w s) (unmoved refl)
      (λ d e. let L : OpenLeaves w s d = open_leaves S e in staying L.around.rows L.around.order)

  put_order : (j t n r : ℕ) → OrderLeft s (after s (put_call j t n r s))
  put_order j t n r =
      by_answer (OrderLeft s) s (put_call j t n r s) (unmoved refl)
      (λ d e. let L : PutLeaves j t n r s d = put-leaves S e in go d (at s.channels j).waiting L.taken.state)
    where
      go : (d : Done Taken) (rs : List Record) → d.state ≡ put_by rs s j (record { length = n; reference = r }) (at s.channels j) → OrderLeft s d.state
      go d [] g = joined j (rw g refl) (rw g refl)
      go d (h ∷ rest) g = staying (rw g refl) (rw g refl)

  close_order : (j t : ℕ) → OrderLeft s (after s (close_call j t s))
  close_order j t =
      by_answer (OrderLeft s) s (close_call j t s) (unmoved refl)
      (λ d e. let L : CloseLeaves j t s d = close_leaves S e in staying L.around.rows L.around.order)

  start-order : (e : ℕ) → OrderLeft s (after s (start_call e s))
  start-order e = by_answer (OrderLeft s) s (start_call e s) (unmoved refl) (λ d q. no_rows e (start-taken e s q).1)

  pub other-order : (c : Call) → is_next c ≡ false → OrderLeft s (step s c)
  unfolding step reply
  other-order (to_open w) n = rw (after-under open_fields s (open_call w s)) (open_order w)
  other-order (to_put j t k r) n = rw (after-under put_fields s (put_call j t k r s)) (put_order j t k r)
  other-order (to_close j t) n = rw (after-under close_fields s (close_call j t s)) (close_order j t)
  other-order to_next n = absurd (true≢false n)
  other-order (to_start e) n = rw (after-under start_fields s (start_call e s)) (start-order e)
  other-order (to_ask j t) n = unmoved (after-under ask_fields s (ask_call j t s) ∙ ask_leaves j t s)
  other-order to_fullest n = unmoved (after-under fullest_fields s (fullest_call s) ∙ fullest-leaves s)
