-- How long an image is.
use Prim.Native.Nat.{ℕ, ◌+◌, ◌*◌, ◌≤◌}
use mathlib.Core.Path.{◌≡◌, ap}
use mathlib.Core.List.{List, [], ◌∷◌}
use native.Mathlib.Omega.{arith}
use native.Mathlib.Nat.{add-mul}
use lib.ListN.{length, length-append}
use Rattle.rules.specs.State.{Channel, State}
use Rattle.memory.specs.Layout.{run_of}
use Rattle.memory.specs.Fits.{Fits}
use Rattle.memory.proofs.Fitting.{rows_few, run-few}
use Rattle.image.specs.Parts.{laid}
use Rattle.image.specs.Image.{slot_parts, record_bytes, records_bytes, fixed, entry, entries, head_parts, lists, image_of, image_length, longest_image}
use Rattle.image.proofs.PartLaws.{length-laid}
use Rattle.image.proofs.RoundTrip.{length-records}

pub length-entry : (v : ℕ) (c : Channel) → length (entry v c) ≡ fixed v + record_bytes * length c.waiting
unfolding entry
length-entry v c =
    omega (arith, length-append (laid (slot_parts v c)) (records_bytes c.waiting), length-laid (slot_parts v c), length-records c.waiting)

pub length-entries : (v : ℕ) (cs : List Channel) → length (entries v cs) ≡ length cs * fixed v + record_bytes * length (run_of cs)
unfolding entries run_of
length-entries v [] = omega arith
length-entries v (c ∷ cs) =
    omega (
      arith,
      length-append (entry v c) (entries v cs),
      length-entry v c,
      length-entries v cs,
      length-append c.waiting (run_of cs),
      add-mul 1 (length cs) (fixed v),
    )

module _ (v : ℕ) {s : State} (F : Fits s) where
  pub length-image : length (image_of v s) ≡ image_length v (length s.rows) (length (run_of s.channels))
  unfolding image_of lists
  length-image =
      omega (
        arith,
        length-append (laid (head_parts v s)) (lists v s),
        length-laid (head_parts v s),
        length-append s.rows (entries v s.channels),
        length-entries v s.channels,
        ap (λ (n : ℕ). n * fixed v) F.size,
      )

  -- no image is longer
  pub image-most : length (image_of v s) ≤ longest_image v
  image-most = omega (arith, length-image, rows_few F, run-few F)
