-- How full the channels are after each call: Open, Close and Ask leave every channel's bytes as they were, Put adds a record's length to one, Next takes one away.
use Prim.Native.Nat.{ℕ, ◌+◌, ◌*◌, ◌≤◌}
use mathlib.Core.Path.{◌≡◌, refl, ap, ◌∙◌}
use mathlib.Core.Bool.{true}
use mathlib.Core.List.{List, [], ◌∷◌, ◌++◌}
use native.Mathlib.Omega.{arith}
use lib.ListN.{length}
use Rattle.lists.proofs.SlotsLaws.{if_eq}
use Rattle.lists.proofs.TestLaws.{and-true}
use Rattle.answers.specs.Answer.{given}
use Rattle.rules.specs.Numbers.{longest, room}
use Rattle.rules.specs.State.{Record, Kind, free, opened, closing, Channel, State, at, is_free}
use Rattle.rules.specs.Fullest.{lengths_of, bytes_in}
use Rattle.rules.specs.Reply.{Done}
use Rattle.rules.specs.Calls.{Opened, open_call, Taken, put_call, Closed, close_call}
use Rattle.rules.specs.Next.{Sent, next_call}
use Rattle.rules.specs.Facts.{KindOk, RecordsOk, Stage, SoundTo, Sound}
use Rattle.rules.proofs.Frames.{Others, open_leaves, put-leaves, close_leaves}
use Rattle.rules.proofs.NextFrame.{next-leaves, lasting-waiting, funded}

-- ---- the bytes of a list of records

pub lengths_append : (xs ys : List Record) → lengths_of (xs ++ ys) ≡ lengths_of xs + lengths_of ys
unfolding lengths_of
lengths_append [] ys = omega arith
lengths_append (r ∷ xs) ys = omega (arith, lengths_append xs ys)

lengths-most : (rs : List Record) → RecordsOk rs → lengths_of rs ≤ longest * length rs
unfolding lengths_of
lengths-most [] h = omega arith
lengths-most (r ∷ rs) h = omega (arith, h.1, lengths-most rs h.3)

-- "64 x 1,014": two bytes hold it
pub bytes_most : {b : Stage} {s : State} → SoundTo b s → (j : ℕ) → bytes_in s.channels j ≤ longest * room
bytes_most {b} {s} S j = omega (arith, lengths-most (at s.channels j).waiting (S.slot j).records, (S.slot j).few)

-- ---- each call

-- the bytes of every slot, or of every slot but i, are the same
abbrev pub AsFull : State → State → Type 0
AsFull s s' = (j : ℕ) → bytes_in s'.channels j ≡ bytes_in s.channels j

abbrev pub OthersAsFull : ℕ → State → State → Type 0
OthersAsFull i s s' = (j : ℕ) → (j ≡ i → ⊥) → bytes_in s'.channels j ≡ bytes_in s.channels j

others-full : (i : ℕ) (s s' : State) → Others i s s' → OthersAsFull i s s'
others-full i s s' o j n = ap (λ (c : Channel). lengths_of c.waiting) (o j n)

free-empty : (k : Kind) (c : Channel) → is_free k ≡ true → KindOk k c → c.waiting ≡ []
free-empty free c e h = h.3
free-empty opened c e h = absurd (let z : ◌≡◌ {A = ℕ} 0 1 = cc in omega arith)
free-empty closing c e h = absurd (let z : ◌≡◌ {A = ℕ} 0 1 = cc in omega arith)

module _ {s : State} (S : Sound s) where
  pub open_full : (w : ℕ) {d : Done Opened} → open_call w s ≡ given d → AsFull s d.state
  open_full w {d} e j =
      let L = open_leaves {w = w} S e in
      let i = d.fields.slot in
      let c = at s.channels i in
      let none : c.waiting ≡ [] = free-empty c.kind c (and-true (is_free c.kind) _ L.could).0 (S.slot i).kind_ok in
      if_eq j i (λ q. rw (q, L.own, none) refl) (others-full i s d.state L.others j)

  pub close_full : (i t : ℕ) {d : Done Closed} → close_call i t s ≡ given d → AsFull s d.state
  close_full i t {d} e j =
      let L = close_leaves {i = i} {t = t} S e in
      if_eq j i (λ q. rw q (ap lengths_of L.waiting)) (others-full i s d.state L.others j)

  pub record PutFills (i n : ℕ) (d : Done Taken) : Type 0 where
    pub own : bytes_in d.state.channels i ≡ bytes_in s.channels i + n
    pub others : OthersAsFull i s d.state

  pub put_fills : (i t n r : ℕ) {d : Done Taken} → put_call i t n r s ≡ given d → PutFills i n d
  unfolding lengths_of
  put_fills i t n r {d} e =
      let L = put-leaves {i = i} {t = t} {n = n} {r = r} S e in
      let h : Record = record { length = n; reference = r } in
      record {
        own = ap (λ (c : Channel). lengths_of c.waiting) L.own ∙ lengths_append (at s.channels i).waiting (h ∷ []) ∙ omega arith;
        others = others-full i s d.state L.others;
      }

  pub record NextEmpties (d : Done Sent) : Type 0 where
    pub own : bytes_in s.channels d.fields.slot ≡ d.fields.length + bytes_in d.state.channels d.fields.slot
    pub others : OthersAsFull d.fields.slot s d.state

  pub next_empties : {d : Done Sent} → next_call s ≡ given d → NextEmpties d
  unfolding lengths_of
  next_empties {d} e =
      let L = next-leaves S e in
      let i = d.fields.slot in
      let left : (at d.state.channels i).waiting ≡ L.sends.rest
      = ap (λ (c : Channel). c.waiting) L.own ∙ lasting-waiting L.sends.head L.sends.rest (funded s d.fields) in
      record {
        own = rw (L.length, left) (ap lengths_of L.waits);
        others = others-full i s d.state L.others;
      }
