-- What is written with a writer, one writing after another, is written together.
--
-- A function that writes three parts answers `then_wrote c.a.ensures (then_wrote c.b.ensures c.d.ensures)`, where its promise lists them in this order and
-- bracketed to the right, and `wrote_as` where it says the same bytes in another way. One that was lent the bytes, and gives the place behind the last,
-- answers `let W = then_wrote .. in search (rules, W.written, W.same_reference)`; with one writing it needs no answer. The place of the next writing and its
-- room are `W.written.place`, `W.room` and `W.same_length`. A loop keeps `Wrote l.fn.w (what is written so far) l.w`: at its start by `nothing_wrote`.
use mathlib.Core.Path.{◌≡◌, refl, ◌∙◌, subst}
use mathlib.Core.List.{List, [], ◌++◌}
use Prim.Native.Nat.{ℕ, ◌≤◌}
use native.Mathlib.Omega.{arith}
use lib.ListN.{length}
use Rattle.octets.specs.Wrote.{Wrote}
use Rattle.octets.specs.declared.writer.Writer.{Writer}
use Rattle.octets.proofs.WritingLaws.{nothing_written, then-written}

-- no byte
pub nothing_wrote : (w : Writer) → w.at ≤ length w.out.now → Wrote w [] w
nothing_wrote w h = record { written = nothing_written w.out.now w.at; room = h; same_length = refl; same_reference = refl }

-- one writing after another
pub then_wrote : {w v u : Writer} {a b : List ℕ} → Wrote w a v → Wrote v b u → Wrote w (a ++ b) u
then_wrote W V =
    record {
      written = then-written W.written (omega (arith, W.written.place, W.same_length, V.written.place, V.room)) V.written;
      room = omega (arith, W.same_length, V.room);
      same_length = V.same_length ∙ W.same_length;
      same_reference = V.same_reference ∙ W.same_reference;
    }

-- the same bytes, said otherwise
pub wrote_as : {w v : Writer} {a b : List ℕ} → a ≡ b → Wrote w a v → Wrote w b v
wrote_as {w} {v} e W = subst (λ (l : List ℕ). Wrote w l v) e W
