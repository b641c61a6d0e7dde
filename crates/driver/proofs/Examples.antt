-- Bytes as a driver's author sees them, each by computing.
use mathlib.Core.Path.{◌≡◌, refl}
use mathlib.Core.List.{List, [], ◌∷◌}
use Prim.Native.Nat.{◌≤◌}
use native.Mathlib.Omega.{arith}
use lib.IntN.{pos, negsuc}
use lib.ListN.{length, replicate}
use Rattle.answers.specs.Answer.{no_term, refused, given}
use Rattle.rules.specs.Calls.{Opened, Taken, Closed, Asked, Entry as Filling}
use Rattle.rules.specs.Next.{Sent}
use Rattle.rules.specs.Numbers.{listed}
use Rattle.memory.specs.Fields.{filled}
use Rattle.driver.specs.Words.{low_first, words}
use Rattle.driver.specs.Entered.{entry, entered, stateless, open_bytes, put_bytes, close_bytes, next_bytes, ask_bytes, fullest_bytes, term_bytes, lead_bytes}

-- the lengths of include/uplink.h
pub open_length : (a : Opened) → length (open_bytes a) ≡ 8
unfolding words low_first
open_length a = refl

pub put-length : (a : Taken) → length (put_bytes a) ≡ 8
unfolding words low_first
put-length a = refl

pub close_length : (a : Closed) → length (close_bytes a) ≡ 4
unfolding words low_first
close_length a = refl

pub next-length : (a : Sent) → length (next_bytes a) ≡ 28
unfolding words low_first
next-length a = refl

pub ask_length : (a : Asked) → length (ask_bytes a) ≡ 20
unfolding words low_first
ask_length a = refl

-- whatever number of them is listed, five at the most
pub fullest-length : (es : List Filling) → length es ≤ listed → length (fullest_bytes es) ≡ 44
unfolding filled words low_first
fullest-length [] h = refl
fullest-length (a ∷ []) h = refl
fullest-length (a ∷ b ∷ []) h = refl
fullest-length (a ∷ b ∷ c ∷ []) h = refl
fullest-length (a ∷ b ∷ c ∷ d ∷ []) h = refl
fullest-length (a ∷ b ∷ c ∷ d ∷ e ∷ []) h = refl
fullest-length (a ∷ b ∷ c ∷ d ∷ e ∷ f ∷ es) h = absurd (omega arith)

-- one listed, slot 3 with 258 bytes
pub fullest-one : fullest_bytes (record { slot = 3; bytes = 258 } ∷ []) ≡ 1 ∷ 0 ∷ 0 ∷ 0 ∷ 3 ∷ 0 ∷ 0 ∷ 0 ∷ 2 ∷ 1 ∷ 0 ∷ 0 ∷ replicate 32 0
unfolding filled words low_first
fullest-one = refl

-- slot 3, ticket 66,051
pub open-bytes : open_bytes (record { slot = 3; ticket = 66051 }) ≡ 3 ∷ 0 ∷ 0 ∷ 0 ∷ 3 ∷ 2 ∷ 1 ∷ 0 ∷ []
unfolding words low_first
open-bytes = refl

-- a lead of -1 and of 258
pub lead-below : lead_bytes (negsuc 0) ≡ replicate 8 255
unfolding low_first
lead-below = refl

pub lead-above : lead_bytes (pos 258) ≡ 2 ∷ 1 ∷ 0 ∷ 0 ∷ 0 ∷ 0 ∷ 0 ∷ 0 ∷ []
unfolding low_first
lead-above = refl

-- a term given, a term refused, and a buffer of another length
pub term-given : entered 4 term_bytes (stateless (given 2)) [] (9 ∷ 9 ∷ 9 ∷ 9 ∷ []) ≡ entry 0 [] (2 ∷ 0 ∷ 0 ∷ 0 ∷ [])
unfolding entered words low_first
term-given = refl

pub term-refused : entered 4 term_bytes (stateless (refused no_term)) [] (9 ∷ 9 ∷ 9 ∷ 9 ∷ []) ≡ entry 11 [] (0 ∷ 0 ∷ 0 ∷ 0 ∷ [])
unfolding entered
term-refused = refl

pub term-kept : entered 4 term_bytes (stateless (given 2)) [] (9 ∷ 9 ∷ 9 ∷ []) ≡ entry 10 [] (9 ∷ 9 ∷ 9 ∷ [])
unfolding entered
term-kept = refl
