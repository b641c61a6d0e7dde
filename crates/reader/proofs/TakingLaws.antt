-- Numbers taken one after the other, and what they are where parts were laid.
use Rattle.std.proofs.Common.{◌≡◌, ℕ, zero, suc, ◌+◌, ◌*◌, ◌^◌, ◌<◌, ◌≤◌, List, [], ◌∷◌, ◌++◌, length, get_or, take, drop, set, sym, refl, ap, ◌∙◌, append-nil, not-suc-le-zero, pow-suc, add-one, arith, drop_of_length-le, take_all, drop-cons, drop-drop}
use Rattle.std.specs.Prelude.{Result, Ok, Err}
use Rattle.std.specs.Result.{OkIff, result_unwrap_or}
use native.Mathlib.Nat.{pow-le-pow_right}
use lib.Seq.{set_at, append_snoc, get_or-take}
use Rattle.image.specs.Parts.{as_number, span, numbers_in}

-- ---- one number, byte by byte

pub number_more : (i : ℕ) (b : List ℕ) (n x : ℕ) → n ≡ as_number i b → x ≡ get_or b i 0 → 256 * n + x ≡ as_number (i + 1) b
unfolding as_number
number_more i b n x e f = rw (add-one i, e, f)

pub room-more : (i n x : ℕ) → n < 256 ^ i → x < 256 → i < 8 → (256 * n + x < 256 ^ (i + 1)) × (256 ^ (i + 1) ≤ 256 ^ 8)
room-more i n x l h small =
    let p : 256 ^ (i + 1) ≡ 256 ^ i * 256 = ap (λ (k : ℕ). 256 ^ k) (add-one i) ∙ pow-suc 256 i in
    let le : i + 1 ≤ 8 = omega arith in
    (omega arith, pow-le-pow_right {n = 256} (omega arith) le)

-- a number is of the bytes that are there, and of 0 past the last
pub number-same : (k : ℕ) (a b : List ℕ) → ((i : ℕ) → i < k → get_or a i 0 ≡ get_or b i 0) → as_number k a ≡ as_number k b
unfolding as_number
number-same zero a b h = refl
number-same (suc k) a b h = rw (number-same k a b (λ i l. h i (omega arith)), h k (omega arith)) refl

pub number-front : (k : ℕ) (b : List ℕ) → as_number k (take k b) ≡ as_number k b
number-front k b = number-same k (take k b) b (λ i l. get_or-take k b i 0 l)

-- a number that has room in a narrower type is the same there
pub low : {E : Type 0} (r : Result ℕ E) {bound n u : ℕ} → OkIff r (n < bound) n → u ≡ result_unwrap_or r 0 → n < bound → u ≡ n
low (Ok x) h f l = f ∙ h.1
low (Err e) h f l = absurd (h l)

-- ---- several

pub length-numbers : (ws b : List ℕ) → length (numbers_in ws b) ≡ length ws
unfolding numbers_in
length-numbers [] b = refl
length-numbers (w ∷ ws) b = ap suc (length-numbers ws (drop w b))

-- the numbers before part i are taken, and the rest stands as it was
abbrev pub taken_to : ℕ → List ℕ → List ℕ → List ℕ → List ℕ
taken_to i ws b ns = numbers_in (take i ws) b ++ drop i ns

span-suc : (i : ℕ) (ws : List ℕ) → i < length ws → span (take (suc i) ws) ≡ span (take i ws) + get_or ws i 0
span-suc i [] l = absurd (not-suc-le-zero l)
span-suc zero (w ∷ ws) l = omega arith
span-suc (suc i) (w ∷ ws) l = omega (arith, span-suc i ws (omega arith))

pub span_more : (i : ℕ) (ws : List ℕ) → i < length ws → span (take (i + 1) ws) ≡ span (take i ws) + get_or ws i 0
span_more i ws l = ap (λ (n : ℕ). span (take n ws)) (add-one i) ∙ span-suc i ws l

numbers-suc : (i : ℕ) (ws b : List ℕ) → i < length ws → numbers_in (take (suc i) ws) b ≡ numbers_in (take i ws) b ++ as_number (get_or ws i 0) (drop (span (take i ws)) b) ∷ []
unfolding numbers_in
numbers-suc i [] b l = absurd (not-suc-le-zero l)
numbers-suc zero (w ∷ ws) b l = refl
numbers-suc (suc i) (w ∷ ws) b l =
    ap (λ (r : List ℕ). as_number w b ∷ r)
    (numbers-suc i ws (drop w b) (omega arith) ∙ ap (λ (x : List ℕ). numbers_in (take i ws) (drop w b) ++ as_number (get_or ws i 0) x ∷ []) (drop-drop (span (take i ws)) w b))

pub taken-turn : (i : ℕ) (ws b ns : List ℕ) (n : ℕ) → length ws ≡ length ns → i < length ws → n ≡ as_number (get_or ws i 0) (drop (span (take i ws)) b)
    → set (taken_to i ws b ns) i n ≡ taken_to (i + 1) ws b ns
taken-turn i ws b ns n e l v =
    let front = numbers_in (take i ws) b in
    let size : length front ≡ i = length-numbers (take i ws) b ∙ length-take i ws (omega arith) in
    let split : drop i ns ≡ get_or ns i 0 ∷ drop (suc i) ns = drop-cons ns i 0 (omega arith) in
    ap (λ (r : List ℕ). set (front ++ r) i n) split
    ∙ set_at front (get_or ns i 0) (drop (suc i) ns) n i size
    ∙ sym (append_snoc front n (drop (suc i) ns))
    ∙ ap (λ (x : ℕ). front ++ (x ∷ []) ++ drop (suc i) ns) v
    ∙ ap (λ (r : List ℕ). r ++ drop (suc i) ns) (sym (numbers-suc i ws b l))
    ∙ ap (λ (k : ℕ). taken_to k ws b ns) (sym (add-one i))
  where
    length-take : (i : ℕ) (ws : List ℕ) → i ≤ length ws → length (take i ws) ≡ i
    length-take zero ws h = refl
    length-take (suc i) [] h = absurd (not-suc-le-zero h)
    length-take (suc i) (w ∷ ws) h = ap suc (length-take i ws (omega arith))

pub taken_none : (ws b ns : List ℕ) → ns ≡ taken_to 0 ws b ns
unfolding numbers_in
taken_none ws b ns = refl

pub taken-all : (i : ℕ) (ws b ns : List ℕ) → length ws ≡ length ns → length ws ≤ i → taken_to i ws b ns ≡ numbers_in ws b
taken-all i ws b ns e l =
    let p : take i ws ≡ ws = take_all i ws l in
    let m : length ns ≤ i = omega arith in
    let q : drop i ns ≡ [] = drop_of_length-le ns m in
    rw (p, q) (append-nil (numbers_in ws b))
