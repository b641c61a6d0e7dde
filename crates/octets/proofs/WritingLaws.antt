-- Bytes written one after the other are written together.
use mathlib.Core.Path.{◌≡◌, refl, sym, ap, ◌∙◌}
use mathlib.Core.List.{List, [], ◌∷◌, ◌++◌, append_assoc}
use Prim.Native.Nat.{ℕ, ◌+◌, ◌≤◌, ◌<◌}
use native.Mathlib.Nat.{add-zero}
use native.Mathlib.Numerals.{add-one}
use native.Mathlib.Omega.{arith}
use lib.ListN.{length, take, drop, set, length-append, length-drop, take-append-drop}
use lib.Seq.{length-take-le, take_at, drop_at, drop-drop, set_split}
use Rattle.octets.specs.Writing.{written, Written}

-- no byte
pub written_none : (s : List ℕ) (at : ℕ) → written s at [] ≡ s
written_none s at = ap (λ (n : ℕ). take at s ++ drop n s) (add-zero at) ∙ take-append-drop at s

-- one byte
pub written_byte : (s : List ℕ) (at b : ℕ) → at < length s → set s at b ≡ written s at (b ∷ [])
written_byte s at b h = set_split s at b h ∙ ap (λ (n : ℕ). take at s ++ b ∷ drop n s) (sym (add-one at))

module _ (s : List ℕ) (at : ℕ) (a : List ℕ) where
  -- the bytes in front with those written
  front_length : at + length a ≤ length s → length (take at s ++ a) ≡ at + length a
  front_length h = length-append (take at s) a ∙ ap (λ (n : ℕ). n + length a) (length-take-le at s (omega arith))

  apart : written s at a ≡ (take at s ++ a) ++ drop (at + length a) s
  apart = sym (append_assoc (take at s) a (drop (at + length a) s))

  -- what stands before the end of what was written, and after it
  pub take-written : at + length a ≤ length s → take (at + length a) (written s at a) ≡ take at s ++ a
  take-written h = ap (take (at + length a)) apart ∙ take_at (take at s ++ a) (drop (at + length a) s) (at + length a) (front_length h)

  pub drop-written : at + length a ≤ length s → drop (at + length a) (written s at a) ≡ drop (at + length a) s
  drop-written h = ap (drop (at + length a)) apart ∙ drop_at (take at s ++ a) (drop (at + length a) s) (at + length a) (front_length h)

  pub length-written : at + length a ≤ length s → length (written s at a) ≡ length s
  length-written h =
      let whole : length (written s at a) ≡ length (take at s ++ a) + length (drop (at + length a) s) = ap length apart ∙ length-append (take at s ++ a) (drop (at + length a) s) in
      omega (arith, front_length h, length-drop (at + length a) s)

  pub written_on : (b : List ℕ) → at + length a + length b ≤ length s → written (written s at a) (at + length a) b ≡ written s at (a ++ b)
  written_on b h =
      let size : at + length a + length b ≡ at + length (a ++ b) = omega (arith, length-append a b) in
      let late : drop (at + length a + length b) (written s at a) ≡ drop (at + length (a ++ b)) s =
      sym (drop-drop (length b) (at + length a) (written s at a))
      ∙ ap (drop (length b)) (drop-written (omega arith))
      ∙ drop-drop (length b) (at + length a) s
      ∙ ap (λ (n : ℕ). drop n s) size in
      ap (λ (l : List ℕ). l ++ (b ++ drop (at + length a + length b) (written s at a))) (take-written (omega arith))
      ∙ ap (λ (l : List ℕ). (take at s ++ a) ++ (b ++ l)) late
      ∙ append_assoc (take at s) a (b ++ drop (at + length (a ++ b)) s)
      ∙ ap (λ (l : List ℕ). take at s ++ l) (sym (append_assoc a b (drop (at + length (a ++ b)) s)))

  -- o has a written in it, and p is the place after a: then b is written next
  pub written_next : (b o : List ℕ) (p : ℕ) → o ≡ written s at a → p ≡ at + length a → at + length a + length b ≤ length s → written o p b ≡ written s at (a ++ b)
  written_next b o p e q h = ap (λ (l : List ℕ). written l p b) e ∙ ap (λ (k : ℕ). written (written s at a) k b) q ∙ written_on b h

  pub place-next : (b : List ℕ) (p : ℕ) → p ≡ at + length a → p + length b ≡ at + length (a ++ b)
  place-next b p q = omega (arith, length-append a b)

-- ---- the same, with the place behind the bytes

pub nothing_written : (s : List ℕ) (at : ℕ) → Written s at [] at s
nothing_written s at = record { place = omega arith; buffer = sym (written_none s at) }

pub byte-written : (s : List ℕ) (at b : ℕ) → at < length s → Written s at (b ∷ []) (at + 1) (set s at b)
byte-written s at b h = record { place = refl; buffer = written_byte s at b h }

-- one writing after another
pub then-written : {s : List ℕ} {at : ℕ} {a : List ℕ} {p : ℕ} {o b : List ℕ} {q : ℕ} {o' : List ℕ}
    → Written s at a p o → at + length a + length b ≤ length s → Written o p b q o' → Written s at (a ++ b) q o'
then-written {s} {at} {a} {p} {o} {b} W h X =
    record {
      place = X.place ∙ place-next s at a b p W.place;
      buffer = X.buffer ∙ written_next s at a b o p W.buffer W.place h;
    }

-- the lent bytes keep their number
pub kept-length : {s : List ℕ} {at : ℕ} {a : List ℕ} {p : ℕ} {o : List ℕ} → Written s at a p o → at + length a ≤ length s → length o ≡ length s
kept-length {s} {at} {a} W h = ap length W.buffer ∙ length-written s at a h
