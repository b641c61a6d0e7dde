-- What the check of the notes reads: the base has its own length, a length is two bytes, and no byte waits in a slot where both bytes are 0.
use Rattle.std.proofs.Common.{◌≡◌, ℕ, ◌+◌, ◌*◌, ◌≤◌, Bool, ◌&&◌, eqb, leb, List, length, get_or, take, drop, ap, ◌∙◌, arith, eq-eqb, eqb-true, le-leb, leb-true}
use Rattle.std.proofs.lemmas.List.{get_or-drop, get_or-take, length-drop, length-take-le}
use Rattle.lists.proofs.TestLaws.{same_bool, and-true, true-and}
use Rattle.rules.specs.Numbers.{slots, cells}
use Rattle.memory.specs.Names as the
use Rattle.memory.specs.Reading.{first_at, bytes_at}
use Rattle.memory.specs.Layout.{place, memory_length}
use Rattle.memory.specs.Memory.{base}
use Rattle.memory.proofs.Base.{first-base}
use Rattle.fullest.proofs.BytesRead.{low_at, high_at, bytes_read}
use Rattle.soundness.specs.Check.{all_below, clear, calm, rest_high}
use Rattle.soundness.proofs.CheckTurns.{all_same}
use Rattle.soundness.specs.Notes.{length_at}
use Rattle.soundness.proofs.NumbersRead.{two-read}

pub size-read : (b : List ℕ) (p : ℕ) → length_at b p ≡ get_or b (place the.length + p) 0 + 256 * get_or b (place the.length + cells + p) 0
size-read b p = two-read (place the.length) cells p b

pub bytes-none : (b : List ℕ) (i : ℕ) → (eqb (low_at b i) 0 && eqb (high_at b i) 0) ≡ eqb (bytes_at b i) 0
bytes-none b i =
    same_bool (eqb (low_at b i) 0 && eqb (high_at b i) 0) (eqb (bytes_at b i) 0)
    (λ e. let (p, q) = and-true (eqb (low_at b i) 0) (eqb (high_at b i) 0) e in eq-eqb (bytes_at b i) 0 (omega (arith, bytes_read b i, eqb-true (low_at b i) 0 p, eqb-true (high_at b i) 0 q)))
    (λ e.
    let z : bytes_at b i ≡ 0 = eqb-true (bytes_at b i) 0 e in
    true-and (eq-eqb (low_at b i) 0 (omega (arith, bytes_read b i))) (eq-eqb (high_at b i) 0 (omega (arith, bytes_read b i))))

-- how many records there are is read off the base
pub total-read : {x : ℕ} (b lent : List ℕ) → length b ≡ memory_length → lent ≡ base b → x ≡ first_at lent slots → x ≡ first_at b slots
total-read b lent size is read = read ∙ ap (λ (β : List ℕ). first_at β slots) is ∙ first-base b (omega arith) slots (omega arith)

-- the test of the n bytes from a place on is that of the part lent
part-all : {r : Bool} (b : List ℕ) (from n : ℕ) {k : ℕ} (most : ℕ) → from + n ≤ length b → k ≡ n → r ≡ all_below (length (take k (drop from b))) (λ i. leb (get_or (take k (drop from b)) i 0) most)
    → r ≡ all_below n (λ i. leb (get_or b (from + i) 0) most)
part-all b from n most fits e read =
    let size : length (take n (drop from b)) ≡ n = length-take-le n (drop from b) (omega (arith, length-drop from b)) in
    (rw (e, size) at read)
    ∙ all_same n _ _ (λ i l. ap (λ (x : ℕ). leb x most) (get_or-take n (drop from b) i 0 l ∙ get_or-drop from b i 0))

pub part-calm : {r : Bool} (b : List ℕ) (from n : ℕ) {k : ℕ} → from + n ≤ length b → k ≡ n → r ≡ all_below (length (take k (drop from b))) (λ i. leb (get_or (take k (drop from b)) i 0) rest_high)
    → r ≡ calm b from n
unfolding calm
part-calm b from n fits e read = part-all b from n rest_high fits e read

pub part-clear : {r : Bool} (b : List ℕ) (from n : ℕ) {k : ℕ} → from + n ≤ length b → k ≡ n → r ≡ all_below (length (take k (drop from b))) (λ i. leb (get_or (take k (drop from b)) i 0) 0)
    → r ≡ clear b from n
unfolding clear
part-clear b from n fits e read = part-all b from n 0 fits e read ∙ all_same n _ _ (λ i l. none (get_or b (from + i) 0))
  where
    none : (x : ℕ) → leb x 0 ≡ eqb x 0
    none x = same_bool (leb x 0) (eqb x 0) (λ e. eq-eqb x 0 (omega (arith, leb-true x 0 e))) (λ e. le-leb x 0 (omega (arith, eqb-true x 0 e)))
