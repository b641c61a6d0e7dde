-- A number read off the bytes that were laid for it is that number, as far as its width holds it.
use Prim.Native.Nat.{ℕ, zero, suc, ◌+◌, ◌*◌, ◌/◌, ◌%◌, ◌^◌, ◌≤◌, ◌<◌}
use mathlib.Core.Path.{◌≡◌, refl, sym, ap, ◌∙◌}
use mathlib.Core.List.{List, [], ◌∷◌, ◌++◌, append_assoc}
use native.Mathlib.Omega.{arith}
use native.Mathlib.Nat.{pow-suc, mul_comm, div-div-eq-div-mul, one-le-pow, not-suc-le-zero, mod-eq_of_lt}
use lib.Arith.{mod-mul}
use lib.ListN.{length, get_or, drop, length-append, get_or-append}
use lib.Seq.{drop-append-add, get_or-append_seam}
use Rattle.image.specs.Parts.{high_first, as_number, part, widths, laid, start, span, part_in}
use Rattle.image.specs.declared.parts.Part.{Part}

pow_pos : (k : ℕ) → 0 < 256 ^ k
pow_pos k = one-le-pow k 256 (omega arith)

-- ---- one number

pub length-high_first : (k n : ℕ) → length (high_first k n) ≡ k
unfolding high_first
length-high_first zero n = refl
length-high_first (suc k) n = ap suc (length-high_first k n)

-- the last byte is the lowest
high_first-last : (k n : ℕ) → high_first (suc k) n ≡ high_first k (n / 256) ++ (n % 256) ∷ []
unfolding high_first
high_first-last zero n = let e : n / 1 % 256 ≡ n % 256 = omega arith in rw e
high_first-last (suc k) n =
    let p : 256 ^ suc k ≡ 256 * 256 ^ k = pow-suc 256 k ∙ mul_comm (256 ^ k) 256 in
    let e : n / 256 ^ suc k ≡ n / 256 / 256 ^ k = ap (λ (m : ℕ). n / m) p ∙ sym (div-div-eq-div-mul n 256 (256 ^ k)) in
    ap (λ (m : ℕ). m % 256 ∷ high_first (suc k) n) e ∙ ap (λ (l : List ℕ). n / 256 / 256 ^ k % 256 ∷ l) (high_first-last k n)

number_append : (k : ℕ) (a b : List ℕ) → k ≤ length a → as_number k (a ++ b) ≡ as_number k a
unfolding as_number
number_append zero a b h = refl
number_append (suc k) a b h = rw (number_append k a b (omega arith), get_or-append a b 0 k (omega arith))

pub number-high_first : (k n : ℕ) (rest : List ℕ) → as_number k (high_first k n ++ rest) ≡ n % 256 ^ k
unfolding as_number
number-high_first zero n rest = omega arith
number-high_first (suc k) n rest =
    let front = high_first k (n / 256) in
    let size : length front ≡ k = length-high_first k (n / 256) in
    let shape : high_first (suc k) n ++ rest ≡ front ++ (n % 256 ∷ rest)
    = ap (λ (l : List ℕ). l ++ rest) (high_first-last k n) ∙ append_assoc front (n % 256 ∷ []) rest in
    let low : get_or (front ++ (n % 256 ∷ rest)) k 0 ≡ n % 256
    = ap (λ (i : ℕ). get_or (front ++ (n % 256 ∷ rest)) i 0) (sym size) ∙ get_or-append_seam front (n % 256) rest 0 in
    let high : as_number k (front ++ (n % 256 ∷ rest)) ≡ n / 256 % 256 ^ k = number-high_first k (n / 256) (n % 256 ∷ rest) in
    let whole : n % (256 ^ k * 256) ≡ n / 256 % 256 ^ k * 256 + n % 256 = mod-mul n (pow_pos k) (omega arith) in
    rw (shape, low, high, pow-suc 256 k, whole) (omega arith)

-- ---- parts

pub part-is : {p : Part} {w n : ℕ} → (p.width ≡ w) × (p.number ≡ n) → p ≡ part w n
part-is (e, f) = rw (← e, ← f) refl

pub length-laid : (ps : List Part) → length (laid ps) ≡ span (widths ps)
unfolding laid
length-laid [] = refl
length-laid (p ∷ ps) =
    omega (arith, length-append (high_first p.width p.number) (laid ps), length-high_first p.width p.number, length-laid ps)

-- what stands behind the first of some parts
pub drop-part : (p : Part) (ps : List Part) (rest : List ℕ) (n : ℕ) → drop (p.width + n) (laid (p ∷ ps) ++ rest) ≡ drop n (laid ps ++ rest)
unfolding laid
drop-part p ps rest n =
    let bytes = high_first p.width p.number in
    ap (drop (p.width + n)) (append_assoc bytes (laid ps) rest)
    ∙ ap (λ (w : ℕ). drop (w + n) (bytes ++ (laid ps ++ rest))) (sym (length-high_first p.width p.number))
    ∙ drop-append-add bytes (laid ps ++ rest) n

pub drop-laid : (ps : List Part) (rest : List ℕ) (n : ℕ) → drop (span (widths ps) + n) (laid ps ++ rest) ≡ drop n rest
unfolding laid
drop-laid [] rest n = let e : 0 + n ≡ n = omega arith in rw e
drop-laid (p ∷ ps) rest n =
    let e : p.width + span (widths ps) + n ≡ p.width + (span (widths ps) + n) = omega arith in
    rw e (drop-part p ps rest (span (widths ps) + n) ∙ drop-laid ps rest n)

-- (what is read past the last part)
abbrev pub no_part : Part
no_part = part 0 0

-- part k is read where it was laid
pub part-laid : (ps : List Part) (k : ℕ) (rest : List ℕ) → k < length ps
    → part_in (widths ps) k (laid ps ++ rest) ≡ (get_or ps k no_part).number % 256 ^ (get_or ps k no_part).width
unfolding laid
part-laid [] k rest h = absurd (not-suc-le-zero h)
part-laid (p ∷ ps) zero rest h = rw append_assoc (number-high_first p.width p.number (laid ps ++ rest))
part-laid (p ∷ ps) (suc k) rest h =
    ap (as_number (get_or (widths ps) k 0)) (drop-part p ps rest (start (widths ps) k)) ∙ part-laid ps k rest (omega arith)

-- a number that its width holds is read whole
pub part-back : (ps : List Part) (k : ℕ) (rest : List ℕ) → k < length ps → (get_or ps k no_part).number < 256 ^ (get_or ps k no_part).width
    → part_in (widths ps) k (laid ps ++ rest) ≡ (get_or ps k no_part).number
part-back ps k rest h l = part-laid ps k rest h ∙ mod-eq_of_lt l
