-- What edition 2 asks of a memory's numbers is what the rules ask of its state.
use Prim.Native.Nat.{ℕ, suc}
use mathlib.Core.Path.{◌≡◌, refl, sym, ap, ◌∙◌}
use mathlib.Core.Bool.{Bool, not, ◌&&◌}
use mathlib.Core.List.{List, [], ◌∷◌}
use mathlib.Core.Option.{Option, none, some}
use native.Mathlib.Omega.{arith}
use lib.Dec.{eqb}
use lib.ListN.{length}
use borrow.Author.Tests.{eq-eqb, ne_eqb}
use Rattle.bits.specs.Mask.{mask_of}
use Rattle.lists.specs.Tests.{is_empty}
use Rattle.rules.specs.Numbers.{holding}
use Rattle.rules.specs.State.{State, holds, is_none, round_over, visit_number}
use Rattle.rules.specs.Facts.{Stage, SoundTo}
use Rattle.memory.specs.Names as the
use Rattle.memory.specs.Layout.{bytes_of}
use Rattle.memory.specs.Reading.{byte_in, state_of}
use Rattle.memory.specs.Fits.{Fits}
use Rattle.memory.specs.Point.{holds_at, over_at}
use Rattle.memory.specs.SoundMemory.{SoundBaseTo}
use Rattle.memory.proofs.Fitting.{length-bytes}
use Rattle.memory.proofs.SoundFits.{sound-fits}
use Rattle.memory.proofs.Lanes.{row-count-is, order_is, position-is, mask_is, visit-is, edition-is}
use Rattle.memory.proofs.Masks.{mask-empty, mask-cons}
use Rattle.memory.proofs.RoundTrip.{state_of-bytes}
use Rattle.memory.proofs.SearchLaws.{rows-length}

-- ---- that there is none of something, by its number

none_rows : (xs : List ℕ) → eqb (length xs) 0 ≡ is_empty xs
none_rows [] = refl
none_rows (x ∷ xs) = ne_eqb (suc (length xs)) 0 (λ (e : suc (length xs) ≡ 0). omega arith)

none-visit : (o : Option ℕ) → eqb (visit_number o) 0 ≡ is_none o
none-visit none = refl
none-visit (some v) = ne_eqb (suc v) 0 (λ (e : suc v ≡ 0). omega arith)

none-listed : (xs : List ℕ) → eqb (mask_of xs) 0 ≡ is_empty xs
none-listed [] = eq-eqb (mask_of []) 0 mask-empty
none-listed (x ∷ xs) = ne_eqb (mask_of (x ∷ xs)) 0 (mask-cons x xs)

-- ---- so, of any bytes and of a state's

pub holds_read : (b : List ℕ) → holds_at b ≡ holds (state_of b) (state_of b).rows
unfolding holds_at state_of
holds_read b =
    ap (λ (n : ℕ). eqb (byte_in the.edition b 0) holding && not (eqb n 0)) (sym (rows-length b))
    ∙ ap (λ (t : Bool). eqb (byte_in the.edition b 0) holding && not t) (none_rows (state_of b).rows)

module _ {s : State} (F : Fits s) where
  pub holds-is : holds_at (bytes_of s) ≡ holds s s.rows
  unfolding holds_at
  holds-is = rw (edition-is F, row-count-is F, none_rows s.rows)

  pub over_is : over_at (bytes_of s) ≡ round_over s
  unfolding over_at round_over
  over_is = rw (holds-is, visit-is F, none-visit s.scan.visit, mask_is F, none-listed s.scan.to_visit, position-is F, order_is F)

-- the memory of a state that is sound as far as its stage asks is such a memory
pub stands : {t : Stage} {s : State} → SoundTo t s → SoundBaseTo t (bytes_of s)
stands {t} {s} S =
    let F = sound-fits S in
    record { size = length-bytes F; state = rw (state_of-bytes F) S; bytes = ap bytes_of (state_of-bytes F) }
