-- The list of marks is the rules' list, so its first row is theirs, and where no row has a mark the first term is to be taken.
use Prim.Native.Nat.{ℕ}
use mathlib.Core.Path.{◌≡◌, refl, sym, ap, ◌∙◌, subst}
use mathlib.Core.List.{List, []}
use mathlib.Core.Option.{Option, some, map}
use Rattle.bits.proofs.MaskLaws.{keep_mask}
use Rattle.rules.specs.Next.{choose_by, terms_most}
use Rattle.memory.specs.declared.point.Scan.{Scan}
use Rattle.memory.specs.Reading.{in_mask, state_of}
use Rattle.memory.proofs.SoundFits.{sound-fits}
use Rattle.visits.specs.Choice.{chosen_of, in_chosen, Chooses}
use Rattle.visits.specs.declared.choose.Chosen.{Chosen}
use Rattle.visits.proofs.ChoiceInNumbers.{no_visit_open}
use Rattle.plain.specs.Places.{Begins, Starts}
use Rattle.plain.specs.declared.scan.Place.{Place}
use Rattle.plain.proofs.ScanLaws.{scan-starts}

-- the code holds the numbers p of the scan point, and k of the order; no visit is open, and l is the list that it has read
module _ {b : List ℕ} {p : Scan} (C : Chooses b p) {k : ℕ} (o : k ≡ (state_of b).order) (closed : p.visit ≡ 0) {l : List ℕ} (e : l ≡ in_mask p.mask (state_of b).rows) where
  abbrev here : Place
  here = record { order = k; position = p.position; column = p.column; terms = 0 }

  list_is : l ≡ (state_of b).scan.to_visit
  list_is = let F = sound-fits C.memory.state in e ∙ rw C.scan-is (keep_mask F.part F.once)

  -- a row has a mark: no term is taken
  pub first-chosen : {y : Chosen} → Starts here l y → some y ≡ map in_chosen (chosen_of (state_of b))
  first-chosen {y} w =
      scan-starts (state_of b) here o (ap (λ (x : Scan). x.position) C.scan-is) (ap (λ (x : Scan). x.column) C.scan-is) (terms_most (state_of b))
      (subst (λ (xs : List ℕ). Starts here xs y) list_is w)
      ∙ ap (λ (v : Option ℕ). map in_chosen (choose_by v (state_of b))) (sym (no_visit_open C o closed))

  -- none has: terms are taken
  pub none-begins : l ≡ [] → Begins b here
  none-begins none =
      record {
        memory = C.memory;
        filled = C.filled;
        closed = no_visit_open C o closed;
        empty = sym list_is ∙ none;
        order_is = o;
        position-is = ap (λ (x : Scan). x.position) C.scan-is;
        no_term = refl;
      }
