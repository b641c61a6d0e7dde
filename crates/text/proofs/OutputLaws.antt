-- The output of a text: what its first lines print, and then what the rest does. A line prints at most half of `widest` for each of its bytes, the last
-- one half of it more.
use mathlib.Core.Path.{◌≡◌, refl, sym, ap, ◌∙◌}
use mathlib.Core.Bool.{Bool, true, false}
use mathlib.Core.List.{List, [], ◌∷◌, ◌++◌, append_assoc, append-nil}
use Prim.Native.Nat.{ℕ, zero-le, ◌+◌, ◌*◌, ◌≤◌, ◌<◌}
use native.Mathlib.Omega.{arith}
use lib.ListN.{length, take, drop, drop_of_length-le}
use lib.Dec.{leb}
use lib.Seq.{length-take-le, take_all}
use borrow.Author.Tests.{lt-ltb, le-ltb, leb-true, leb-false}
use Rattle.rules.specs.Numbers.{falling}
use Rattle.memory.specs.Layout.{memory_length}
use Rattle.memory.specs.Memory.{fresh_memory, start_on}
use Rattle.memory.proofs.OnLaws.{start_on-fresh}
use Rattle.text.specs.Lines.{lines_of, line_at, line_after}
use Rattle.text.specs.Commands.{command_of}
use Rattle.octets.specs.Writing.{written}
use Rattle.octets.specs.declared.writer.Writer.{Writer}
use Rattle.text.specs.Answers.{line_answer, output, most, too_long, lift, widest, half_widest, Prints, PrintsBy, room_for, Stands}
use Rattle.text.proofs.LineLaws.{lines_after, after-within}
use Rattle.octets.proofs.WritingLaws.{take-written, length-written}

-- no line
output-none : (b s : List ℕ) (at : ℕ) → length s ≤ at → output b (lines_of (drop at s)) ≡ []
unfolding output lines_of
output-none b s at h = rw (drop_of_length-le s h)

-- the line at a place, and the rest
output-at : (b s : List ℕ) (at : ℕ) → at < length s → output b (lines_of (drop at s)) ≡ (line_answer b (line_at s at)).line ++ output (line_answer b (line_at s at)).bytes (lines_of (drop (line_after s at) s))
unfolding output
output-at b s at h = rw (lines_after s at h)

-- ---- The lines of a text answered one after the other.

-- an empty line prints two bytes and takes one of the text; any other takes two, or is the last
few_bytes : (b s : List ℕ) (at : ℕ) {place place' at' : ℕ} {out out' : List ℕ} → at < length s → place ≤ half_widest * at → Prints out place (line_answer b (line_at s at)).line place' out' → at' ≡ line_after s at → (place' ≤ room_for at') × (at' < length s → place' ≤ half_widest * at')
unfolding command_of
few_bytes b s at {place} {place'} {at'} {out} {out'} more few p e = go (line_at s at) refl
  where
    go : (l : List ℕ) → line_at s at ≡ l → (place' ≤ room_for at') × (at' < length s → place' ≤ half_widest * at')
    go [] none =
        let two : place' ≡ place + 2 = p.place ∙ ap (λ (l : List ℕ). place + length (line_answer b l).line) none in
        let end : length (line_at s at) ≡ 0 = ap length none in
        (omega arith, λ h. omega arith)
    go (c ∷ cs) some =
        let end : length (line_at s at) ≡ length (c ∷ cs) = ap length some in
        (omega (arith, p.place, p.short), λ h. omega (arith, p.place, p.short))

-- what a writer printed stands in its lent bytes
pub prints-by : {w v : Writer} {line : List ℕ} → PrintsBy w line v → Prints w.out.now w.at line v.at v.out.now
prints-by P = record { place = P.wrote.written.place; text = P.wrote.written.buffer; short = P.short }

-- the lines of s up to `at` are answered, the memory was b and is `left`, and their output is the first `place` bytes of `out`
pub record Going (b s : List ℕ) (at place : ℕ) (left out : List ℕ) : Type 0 where
  pub printed : output b (lines_of s) ≡ take place out ++ output left (lines_of (drop at s))
  pub within : at ≤ length s
  pub room : place ≤ room_for at
  -- the last line alone may have no line feed
  pub before_last : at < length s → place ≤ half_widest * at

module _ (b s : List ℕ) where
  pub begins : (out : List ℕ) → Going b s 0 0 b out
  begins out = record { printed = refl; within = zero-le; room = zero-le; before_last = λ h. zero-le }

  module _ (at place : ℕ) (left out : List ℕ) (going : Going b s at place left out) where
    -- one line more
    pub goes : (at' place' : ℕ) (left' out' : List ℕ) → at < length s → place + widest ≤ length out → at' ≡ line_after s at → left' ≡ (line_answer left (line_at s at)).bytes → Prints out place (line_answer left (line_at s at)).line place' out' → Going b s at' place' left' out'
    goes at' place' left' out' more wide e f p =
        let said : List ℕ = (line_answer left (line_at s at)).line in
        let fits : place + length said ≤ length out = omega (arith, p.short) in
        let rest : List ℕ = output left' (lines_of (drop at' s)) in
        let now : take place' out' ≡ take place out ++ said = ap (λ (n : ℕ). take n out') p.place ∙ ap (take (place + length said)) p.text ∙ take-written out place said fits in
        let few = few_bytes left s at more (going.before_last more) p e in
        record {
          printed =
              going.printed
              ∙ ap (λ (o : List ℕ). take place out ++ o) (rw (e, f) (output-at left s at more))
              ∙ sym (append_assoc (take place out) said rest)
              ∙ ap (λ (o : List ℕ). o ++ rest) (sym now);
          within = omega (arith, after-within s at);
          room = few.0;
          before_last = few.1;
        }

    -- no text is left
    pub ends : length s ≤ at → room_for (length s) ≤ length out → Stands (output b (lines_of s)) place out
    ends h wide =
        let room : place ≤ length out = omega (arith, going.room, going.within) in
        record {
          whole = sym (going.printed ∙ ap (λ (o : List ℕ). take place out ++ o) (output-none left s at h) ∙ append-nil (take place out));
          room = room;
          counted = sym (length-take-le place out room);
        }

-- ---- The program's output.

-- a text written at the start stands there
pub written_stands : (text before : List ℕ) {r : ℕ} {after : List ℕ} → length text ≤ length before → r ≡ 0 + length text → after ≡ written before 0 text → Stands text r after
written_stands text before {r} {after} h p e =
    let room : r ≤ length after = omega (arith, ap length e ∙ length-written before 0 text (omega arith)) in
    record {
      whole = ap (λ (n : ℕ). take n after) p ∙ ap (take (0 + length text)) e ∙ take-written before 0 text (omega arith);
      room = room;
      counted = sym (length-take-le r after room);
    }

-- "Start writes the fresh state"
pub start-fresh : (b : List ℕ) → length b ≡ memory_length → (start_on falling b).bytes ≡ fresh_memory falling
start-fresh b h = rw (start_on-fresh falling b h (omega arith, omega arith))

-- "Empty input prints nothing."
lift-empty : lift [] ≡ []
unfolding lift output lines_of
lift-empty = refl

-- "Input above 65,536 bytes prints only `? input`."
pub lift-long : (s : List ℕ) → most < length s → lift s ≡ too_long
unfolding lift
lift-long s h = rw (lt-ltb most (length s) h)

-- a program that reads one byte more than is answered has read enough
pub lift-read : (s : List ℕ) → lift (take (most + 1) s) ≡ lift s
lift-read s = go (leb (length s) (most + 1)) refl
  where
    go : (b : Bool) → leb (length s) (most + 1) ≡ b → lift (take (most + 1) s) ≡ lift s
    go true e = ap lift (take_all (most + 1) s (leb-true (length s) (most + 1) e))
    go false e =
        let long : most + 1 < length s = leb-false (length s) (most + 1) e in
        let read : length (take (most + 1) s) ≡ most + 1 = length-take-le (most + 1) s (omega arith) in
        lift-long (take (most + 1) s) (omega arith) ∙ sym (lift-long s (omega arith))

pub lift-short : (s : List ℕ) → length s ≤ most → lift s ≡ output (fresh_memory falling) (lines_of s)
unfolding lift
lift-short s h = rw (le-ltb most (length s) h)
