-- The notes after Put and after Next: right for the state that the call leaves.
use Rattle.std.proofs.Common.{◌≡◌, ℕ, suc, ◌+◌, ◌-◌, ◌<◌, Bool, true, false, leb, List, ◌++◌, length, Result, Ok, Err, sym, refl, ap, ◌∙◌, arith, take-append-drop, eq-eqb, ne_eqb, leb-false, leb-true}
use Rattle.lists.proofs.SlotsLaws.{if_eq}
use Rattle.answers.specs.Answer.{Refusal, refused, given}
use Rattle.answers.proofs.Answers.{given_inj, refused-given}
use Rattle.rules.specs.Numbers.{slots, references}
use Rattle.rules.specs.State.{Channel, State, blank, at}
use Rattle.rules.specs.Fullest.{bytes_in}
use Rattle.rules.specs.Reply.{Reply, Done}
use Rattle.rules.specs.Calls.{Taken, put_call}
use Rattle.rules.specs.Next.{Sent, next_call}
use Rattle.rules.specs.Facts.{Sound}
use Rattle.rules.proofs.Frames.{put-leaves}
use Rattle.rules.proofs.Kept.{put-kept, next-kept}
use Rattle.rules.proofs.NextFrame.{next-leaves}
use Rattle.rules.proofs.Rows.{outside-blank}
use Rattle.rules.proofs.Filling.{bytes_most, OthersAsFull, put_fills, next_empties}
use Rattle.memory.specs.Layout.{bytes_of, memory_of, base_length}
use Rattle.memory.specs.Memory.{base, noted, Left, replied, replied_base}
use Rattle.memory.specs.Reading.{bytes_at, state_of}
use Rattle.memory.proofs.NoteLaws.{bytes_read}
use Rattle.memory.proofs.Fitting.{length-bytes}
use Rattle.memory.proofs.SoundFits.{sound-fits}
use Rattle.memory.proofs.OneMemory.{memory-sound, base-stands, noted-is}
use Rattle.fullest.specs.Noted.{NotedBy, now_in}
use Rattle.soundness.proofs.MemoryNoted.{noted-behind, base-behind, memory-noted-by}
use Rattle.uplink.specs.Told.{put_told, next_told, leaving}
use Rattle.uplink.specs.Holds.{TakesCalls}
use Rattle.uplink.specs.PutSteps.{TakenFits, TakenNoted}
use Rattle.uplink.specs.NextSteps.{SentFits, SentNoted}
use Rattle.answers.specs.declared.Refusal.{Refusal as Refusing}
use Rattle.uplink.specs.declared.Taken.{Taken as Answered}
use Rattle.uplink.specs.declared.Sent.{Sent as Gone}

-- ---- what the steps on the base leave, of one call

module _ {A : Type 0} (b : List ℕ) (T : TakesCalls b) (f : State → Reply A) {β : List ℕ} {a : A}
    (left : leaving (given a) β ≡ replied_base (base b) (f (state_of (base b)))) where
  abbrev s : State
  s = state_of b

  S : Sound s
  S = (memory-sound b T.0).state

  -- the state left, and its base
  pub record Leaves : Type 0 where
    pub after : State
    pub says : f s ≡ given (record { fields = a; state = after })
    pub bytes : β ≡ bytes_of after

  pub leaves : Leaves
  leaves = go (f s) refl (left ∙ ap (λ (x : State). replied_base (base b) (f x)) (base-stands b T.0))
    where
      go : (r : Reply A) → f s ≡ r → leaving (given a) β ≡ replied_base (base b) r → Leaves
      go (refused n) q e = absurd (refused-given (sym (ap (λ (l : Left A). l.answer) e)))
      go (given d) q e =
          let same : a ≡ d.fields = given_inj (ap (λ (l : Left A). l.answer) e) in
          record { after = d.state; says = q ∙ rw (← same) refl; bytes = ap (λ (l : Left A). l.bytes) e }

  module _ (kept : (d : Done A) → f s ≡ given d → Sound d.state) where
    long : length β ≡ base_length
    long = ap length leaves.bytes ∙ length-bytes (sound-fits (kept _ leaves.says))

    -- the notes are still those of the state before
    pub noted-before : NotedBy (bytes_in s.channels) (β ++ noted b)
    noted-before = rw (noted-is b T.0) (noted-behind S β long)

    pub bytes-before : (i : ℕ) → i < slots → bytes_at (β ++ noted b) i ≡ bytes_in s.channels i
    bytes-before i l = bytes_read (bytes_in s.channels) (λ j m. noted-before.small j) (β ++ noted b) noted-before.notes i l

    -- and with slot i's bytes as they are now, those of the state left
    pub noted-after : (i v : ℕ) (b' : List ℕ) → NotedBy (now_in (bytes_in s.channels) i v) b' → base b' ≡ base (β ++ noted b)
        → bytes_in leaves.after.channels i ≡ v → OthersAsFull i s leaves.after → leaving (given a) b' ≡ replied b (f s)
    noted-after i v b' notes same own others =
        let is : b' ≡ memory_of leaves.after
        = memory-noted-by (now_in (bytes_in s.channels) i v) leaves.after b' (same ∙ base-behind β (noted b) long ∙ leaves.bytes) notes
        (λ j l.
        if_eq j i
        (λ e. rw (e, eq-eqb i i refl) (sym own))
        (λ d. rw (ne_eqb j i d) (sym (others j d)))) in
        rw (is, leaves.says) refl

-- a refusal leaves base and notes
refused-whole : {A : Type 0} (b : List ℕ) → TakesCalls b → (f : State → Reply A) {β : List ℕ} {n : Refusal} → leaving (refused n) β ≡ replied_base (base b) (f (state_of (base b)))
    → leaving (refused n) (β ++ noted b) ≡ replied b (f (state_of b))
refused-whole {A} b T f {β} {n} left = go (f (state_of b)) (left ∙ ap (λ (x : State). replied_base (base b) (f x)) (base-stands b T.0))
  where
    go : (r : Reply A) → leaving (refused n) β ≡ replied_base (base b) r → leaving (refused n) (β ++ noted b) ≡ replied b r
    go (refused m) e =
        let same : β ++ noted b ≡ b = ap (λ (l : Left A). l.bytes ++ noted b) e ∙ take-append-drop base_length b in
        rw (ap (λ (l : Left A). l.answer) e, same) refl
    go (given d) e = absurd (refused-given (ap (λ (l : Left A). l.answer) e))

-- ---- Put

module _ (b : List ℕ) (T : TakesCalls b) (i t n q : ℕ) (fits : q < references) where
  Sb : Sound (state_of b)
  Sb = (memory-sound b T.0).state

  put-sound : (d : Done Taken) → put_call i t n q (state_of b) ≡ given d → Sound d.state
  put-sound d e = rw e at (put-kept i t n q (state_of b) fits Sb)

  pub taken-fits : (r : Result Answered Refusing) (β : List ℕ) → leaving (put_told r) β ≡ replied_base (base b) (put_call i t n q (state_of (base b))) → TakenFits (β ++ noted b) i n r
  taken-fits (Ok a) β left =
      let L = leaves b T (put_call i t n q) left in
      let F = put_fills Sb i t n q L.says in
      let P = put-leaves {i = i} {t = t} {n = n} {r = q} Sb L.says in
      let low : i < slots = P.taken.present.0 in
      let before = noted-before b T (put_call i t n q) left put-sound in
      let full = bytes-before b T (put_call i t n q) left put-sound i low in
      (record { bytes = bytes_in (state_of b).channels; right = before }, low, omega (arith, full, F.own, bytes_most (put-sound _ L.says) i))
  taken-fits (Err x) β left = tt

  pub put-noted-left : (r : Result Answered Refusing) (β b' : List ℕ) → leaving (put_told r) β ≡ replied_base (base b) (put_call i t n q (state_of (base b))) → TakenNoted i n r (β ++ noted b) b'
      → leaving (put_told r) b' ≡ replied b (put_call i t n q (state_of b))
  put-noted-left (Ok a) β b' left (notes, same) =
      let L = leaves b T (put_call i t n q) left in
      let F = put_fills Sb i t n q L.says in
      let before = noted-before b T (put_call i t n q) left put-sound in
      noted-after b T (put_call i t n q) left put-sound i (bytes_in (state_of b).channels i + n) b' (notes (bytes_in (state_of b).channels) before) same F.own F.others
  put-noted-left (Err x) β b' left same = rw same (refused-whole b T (put_call i t n q) left)

-- ---- Next

-- the slot that sends is in visit
sent-slot : {s : State} {d : Done Sent} → Sound s → next_call s ≡ given d → d.fields.slot < slots
sent-slot {s} {d} S e = go (leb slots d.fields.slot) refl
  where
    go : (t : Bool) → leb slots d.fields.slot ≡ t → d.fields.slot < slots
    go true q =
        let L = next-leaves S e in
        let none : at s.channels d.fields.slot ≡ blank = outside-blank S d.fields.slot (leb-true slots d.fields.slot q) in
        let few : length (at s.channels d.fields.slot).waiting ≡ 0 = ap (λ (c : Channel). length c.waiting) none in
        let some : length (at s.channels d.fields.slot).waiting ≡ suc (length L.sends.rest) = ap length L.waits in
        absurd (omega arith)
    go false q = leb-false slots d.fields.slot q

module _ (b : List ℕ) (T : TakesCalls b) where
  Sn : Sound (state_of b)
  Sn = (memory-sound b T.0).state

  next-sound : (d : Done Sent) → next_call (state_of b) ≡ given d → Sound d.state
  next-sound d e = rw e at (next-kept (state_of b) Sn)

  pub sent-fits : (r : Result Gone Refusing) (β : List ℕ) → leaving (next_told r) β ≡ replied_base (base b) (next_call (state_of (base b))) → SentFits (β ++ noted b) r
  sent-fits (Ok a) β left =
      let L = leaves b T next_call left in
      let F = next_empties Sn L.says in
      let low : a.slot < slots = sent-slot Sn L.says in
      let before = noted-before b T next_call left next-sound in
      let full = bytes-before b T next_call left next-sound a.slot low in
      (record { bytes = bytes_in (state_of b).channels; right = before }, low, omega (arith, full, F.own))
  sent-fits (Err x) β left = tt

  pub next-noted-left : (r : Result Gone Refusing) (β b' : List ℕ) → leaving (next_told r) β ≡ replied_base (base b) (next_call (state_of (base b))) → SentNoted r (β ++ noted b) b'
      → leaving (next_told r) b' ≡ replied b (next_call (state_of b))
  next-noted-left (Ok a) β b' left (notes, same) =
      let L = leaves b T next_call left in
      let F = next_empties Sn L.says in
      let before = noted-before b T next_call left next-sound in
      noted-after b T next_call left next-sound a.slot (bytes_in (state_of b).channels a.slot - a.length) b' (notes (bytes_in (state_of b).channels) before) same (omega (arith, F.own)) F.others
  next-noted-left (Err x) β b' left same = rw same (refused-whole b T next_call left)
