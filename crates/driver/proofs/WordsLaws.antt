-- The bytes of a number as the library has them, and fields written one after the other as the words of their list.
use Prim.Native.Nat.{ℕ, zero, suc, ◌+◌, ◌*◌, ◌/◌, ◌%◌, ◌^◌, ◌<◌}
use mathlib.Core.Path.{◌≡◌, refl, sym, ap, ◌∙◌}
use mathlib.Core.List.{List, [], ◌∷◌, ◌++◌, append_assoc, append-nil}
use native.Mathlib.Omega.{arith}
use native.Mathlib.Numerals.{add-one}
use lib.IntN.{ℤ, pos, negsuc}
use lib.ListN.{length, take, get_or, length-append}
use lib.Seq.{take-suc}
use Rattle.std.proofs.Common.{lit<}
use Rattle.std.proofs.Math.Nat.{div-one, div-div-eq-div-mul}
use Rattle.octets.specs.Number.{byte}
use Rattle.std.specs.Int.{w32, w64, to_le_bytes, cast_unsigned}
use Rattle.driver.specs.Words.{low_first, words, twos}

pub length-low_first : (k v : ℕ) → length (low_first k v) ≡ k
unfolding low_first
length-low_first zero v = refl
length-low_first (suc k) v = simp (length-append, length-low_first k v) (omega arith)

pub length-words : (vs : List ℕ) → length (words vs) ≡ 4 * length vs
unfolding words
length-words [] = refl
length-words (v ∷ vs) = simp (length-append, length-low_first 4 v, length-words vs) (omega arith)

pub words_append : (vs ws : List ℕ) → words (vs ++ ws) ≡ words vs ++ words ws
unfolding words
words_append [] ws = refl
words_append (v ∷ vs) ws = rw (words_append vs ws) (sym (append_assoc (low_first 4 v) (words vs) (words ws)))

-- a number's 4 bytes
pub four_bytes : (v : ℕ) → to_le_bytes w32 v ≡ low_first 4 v
unfolding low_first
four_bytes v = simp div-one

-- a byte of the lower half
low_byte : (v j : ℕ) → j < 4 → byte j (v % 2 ^ 32) ≡ byte j v
low_byte v zero h = omega arith
low_byte v (suc zero) h = omega arith
low_byte v (suc (suc zero)) h = omega arith
low_byte v (suc (suc (suc zero))) h = omega arith
low_byte v (suc (suc (suc (suc j)))) h = absurd (omega arith)

-- 8 bytes are those of two halves, the lower one first
pub halves : (v : ℕ) → words (v % 2 ^ 32 ∷ v / 2 ^ 32 ∷ []) ≡ low_first 8 v
unfolding words low_first
halves v = simp (low_byte v 0 (lit< tt), low_byte v 1 (lit< tt), low_byte v 2 (lit< tt), low_byte v 3 (lit< tt), div-div-eq-div-mul)

-- those of a signed number, in two's complement
pub twos_bits : (z : ℤ) → cast_unsigned w64 z ≡ twos z
twos_bits (pos n) = refl
twos_bits (negsuc n) = refl

-- the two halves' words are the bytes of the number in two's complement
pub lead-words : (z : ℤ) → words (cast_unsigned w64 z % 2 ^ 32 ∷ cast_unsigned w64 z / 2 ^ 32 ∷ []) ≡ low_first 8 (twos z)
lead-words z = halves _ ∙ ap (low_first 8) (twos_bits z)

-- the words of one field more
pub words-next : (vs : List ℕ) (i : ℕ) → i < length vs → words (take (i + 1) vs) ≡ words (take i vs) ++ to_le_bytes w32 (get_or vs i 0)
unfolding words
words-next vs i h = rw (add-one i, take-suc vs i 0 h, words_append (take i vs) (get_or vs i 0 ∷ []), append-nil (low_first 4 (get_or vs i 0)), four_bytes)
