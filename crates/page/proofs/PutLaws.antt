-- What is written piece by piece is written as a whole: some of it is passed, and a rest is left.
use mathlib.Core.Path.{◌≡◌, refl, ap, ◌∙◌}
use mathlib.Core.List.{List, [], ◌∷◌, ◌++◌, append_assoc, append-nil}
use Prim.Native.Nat.{ℕ, zero-le, ◌+◌, ◌-◌, ◌≤◌}
use native.Mathlib.Omega.{arith}
use lib.ListN.{length, length-append, length-replicate}
use Rattle.std.proofs.lemmas.Grind.{replicate_next}
use Rattle.octets.specs.Wrote.{Wrote}
use Rattle.octets.specs.declared.writer.Writer.{Writer}
use Rattle.octets.proofs.WroteLaws.{nothing_wrote, then_wrote}
use Rattle.text.specs.Answers.{Stands}
use Rattle.page.specs.Puts.{gap}

-- of the whole, written from the place of w on, what is before that of v is written, and the rest is left
pub record Going (w : Writer) (whole rest : List ℕ) (v : Writer) : Type 0 where
  pub passed : List ℕ
  pub wrote : Wrote w passed v
  pub joined : passed ++ rest ≡ whole

pub begins : (w : Writer) (whole : List ℕ) → w.at ≤ length w.out.now → Going w whole whole w
begins w whole h = record { passed = []; wrote = nothing_wrote w h; joined = refl }

module _ {w : Writer} {whole : List ℕ} where
  -- there is room for the next piece
  pub room_next : (b rest : List ℕ) {v : Writer} → Going w whole (b ++ rest) v → w.at + length whole ≤ length w.out.now → v.at + length b ≤ length v.out.now
  room_next b rest g h =
      omega (arith, g.wrote.written.place, g.wrote.same_length, ap length g.joined, length-append g.passed (b ++ rest), length-append b rest)

  -- one piece more
  pub goes : (b rest : List ℕ) {v u : Writer} → Going w whole (b ++ rest) v → Wrote v b u → Going w whole rest u
  goes b rest g W = record { passed = g.passed ++ b; wrote = then_wrote g.wrote W; joined = append_assoc g.passed b rest ∙ g.joined }

  pub ended : {v : Writer} → Going w whole [] v → Wrote w whole v
  ended g = rw (← g.joined, append-nil g.passed) g.wrote

-- ---- spaces

pub gap_length : (w n : ℕ) → length (gap w n) ≡ w - n
gap_length w n = length-replicate (w - n) 32

-- one more
pub gap-next : (i n : ℕ) → n ≤ i → gap i n ++ 32 ∷ [] ≡ gap (i + 1) n
gap-next i n h = let e : i + 1 - n ≡ (i - n) + 1 = omega arith in rw (e, replicate_next {X = ℕ} (i - n) 32)

-- all
pub gap_all : (i w n : ℕ) → w ≤ i → i - n ≤ w - n → gap i n ≡ gap w n
gap_all i w n h l = let e : i - n ≡ w - n = omega arith in rw e

-- none
pub gap-none : (w n : ℕ) → w ≤ n → [] ≡ gap w n
gap-none w n h = let e : w - n ≡ 0 = omega arith in rw e

-- ---- no page

pub stands-none : {a o : List ℕ} → a ≡ [] → Stands a 0 o
stands-none e = rw e (record { whole = refl; room = zero-le; counted = refl })
