-- The notes of a memory: their lanes read what was laid there, and notes whose lanes read so are those.
use Prim.Native.Nat.{ℕ, zero, suc, ◌+◌, ◌*◌, ◌<◌}
use mathlib.Core.Path.{◌≡◌, refl, sym, ap, ◌∙◌}
use mathlib.Core.List.{List, [], ◌∷◌}
use native.Mathlib.Omega.{arith}
use lib.ListN.{length, get_or, drop, length-drop}
use Rattle.lists.proofs.TabLaws.{get_d_tab, tab-is}
use Rattle.octets.specs.Number.{upward, num, Bytes}
use Rattle.octets.proofs.NumberLaws.{num-same, num-one}
use Rattle.rules.specs.Numbers.{slots, listed}
use Rattle.rules.specs.Fullest.{fullest_by}
use Rattle.rules.proofs.Ranked.{fullest-few, fullest-low}
use Rattle.memory.specs.Fields.{Fit, all_fit, ◌beside◌}
use Rattle.memory.specs.Names as the
use Rattle.memory.specs.Layout.{notes, place_in, noted_of, notes_by, base_length, notes_length, memory_length, note_place}
use Rattle.memory.specs.Reading.{bytes_at, listed_at, list_at}
use Rattle.memory.specs.Memory.{noted}
use Rattle.memory.proofs.FieldFits.{fitting, fitting-tab, fitting-one}
use Rattle.memory.proofs.FieldLaws.{lay-length, lay-read, lay-read-one}
use Rattle.memory.proofs.BytesOfState.{all_held, ◌then◌, held-only}

-- what stands behind the first m bytes
get_d_drop : (m : ℕ) (b : List ℕ) (i : ℕ) → get_or (drop m b) i 0 ≡ get_or b (m + i) 0
get_d_drop zero b i = let e : i ≡ 0 + i = omega arith in ap (λ (n : ℕ). get_or b n 0) e
get_d_drop (suc m) [] i = refl
get_d_drop (suc m) (x ∷ b) i = let e : suc (m + i) ≡ suc m + i = omega arith in get_d_drop m b i ∙ ap (λ (n : ℕ). get_or (x ∷ b) n 0) e

-- place p of the notes is place q of the memory
pub note_there : (b : List ℕ) (p q : ℕ) → base_length + p ≡ q → get_or (noted b) p 0 ≡ get_or b q 0
note_there b p q e = get_d_drop base_length b p ∙ ap (λ (n : ℕ). get_or b n 0) e

note_number : (b : List ℕ) (p q n w : ℕ) → base_length + p ≡ q → num (upward p n) w (noted b) ≡ num (upward q n) w b
note_number b p q n w e =
    num-same (upward p n) (upward q n) w (noted b) b (λ j l. note_there b (p + n * j) (q + n * j) (omega arith))

pub length-noted : (b : List ℕ) → length b ≡ memory_length → length (noted b) ≡ notes_length
length-noted b e = omega (arith, length-drop base_length b)

bytes-noted-at : (b : List ℕ) (i : ℕ) → bytes_at b i ≡ num (upward (0 + i) slots) 2 (noted b)
unfolding bytes_at
bytes-noted-at b i = sym (note_number b (0 + i) (note_place the.bytes + i) slots 2 (omega arith))

module _ (f : ℕ → ℕ) (small : (i : ℕ) → i < slots → f i < 65536) where
  fit_notes : Fit (noted_of f)
  fit_notes =
      fitting-tab slots 2 f small
      beside fitting-one 1 (length (fullest_by f)) (omega (arith, fullest-few f))
      beside fitting listed 1 (fullest_by f) (fullest-few f) (λ i. omega (arith, fullest-low f i))
      beside all_fit

  pub length-notes : length (notes_by f) ≡ notes_length
  unfolding notes_by
  length-notes = lay-length (noted_of f) fit_notes

  -- ---- what the lanes read

  module _ (b : List ℕ) (is : noted b ≡ notes_by f) where
    pub bytes_read : (i : ℕ) → i < slots → bytes_at b i ≡ f i
    unfolding notes_by
    bytes_read i l = bytes-noted-at b i ∙ ap (num (upward (0 + i) slots) 2) is ∙ lay-read (noted_of f) 0 i fit_notes l ∙ get_d_tab slots f i 0 l

    pub listed-read : listed_at b ≡ length (fullest_by f)
    unfolding notes_by
    listed-read = sym (note_there b (place_in notes the.listed_count) (note_place the.listed_count) refl) ∙ ap (λ (x : List ℕ). get_or x (place_in notes the.listed_count) 0) is ∙ lay-read-one (noted_of f) 1 0 fit_notes refl (omega arith)

    pub place_read : (k : ℕ) → k < listed → get_or b (note_place the.fullest + k) 0 ≡ get_or (fullest_by f) k 0
    unfolding notes_by
    place_read k l = sym (note_there b (place_in notes the.fullest + k) (note_place the.fullest + k) (omega arith)) ∙ ap (λ (x : List ℕ). get_or x (place_in notes the.fullest + k) 0) is ∙ lay-read-one (noted_of f) 2 k fit_notes refl l

    pub list_read : list_at b ≡ fullest_by f
    list_read =
        tab-is (listed_at b) (λ k. get_or b (note_place the.fullest + k) 0) (fullest_by f) 0 (sym listed-read)
        (λ k l. place_read k (omega (arith, listed-read, fullest-few f)))

  -- ---- and the other way

  pub notes-only : (b : List ℕ) → Bytes b → length b ≡ memory_length → ((i : ℕ) → i < slots → bytes_at b i ≡ f i) → listed_at b ≡ length (fullest_by f)
      → ((k : ℕ) → k < listed → get_or b (note_place the.fullest + k) 0 ≡ get_or (fullest_by f) k 0) → noted b ≡ notes_by f
  unfolding notes_by
  notes-only b bytes size lanes count list =
      held-only (noted b) (noted_of f) fit_notes (λ i. rw (note_there b i (base_length + i) refl) (bytes (base_length + i))) (length-noted b size)
      ((λ i l. sym (bytes-noted-at b i) ∙ lanes i l ∙ sym (get_d_tab slots f i 0 l))
      then one
      then (λ k l. num-one (upward (place_in notes the.fullest + k) listed) (place_in notes the.fullest + k) (noted b) (omega arith) ∙ note_there b (place_in notes the.fullest + k) (note_place the.fullest + k) (omega arith) ∙ list k l)
      then all_held)
    where
      one : (i : ℕ) → i < 1 → num (upward (place_in notes the.listed_count + i) 1) 1 (noted b) ≡ get_or (length (fullest_by f) ∷ []) i 0
      one zero l = num-one (upward (place_in notes the.listed_count) 1) (place_in notes the.listed_count) (noted b) refl ∙ note_there b (place_in notes the.listed_count) (note_place the.listed_count) refl ∙ count
      one (suc i) l = absurd (omega arith)
