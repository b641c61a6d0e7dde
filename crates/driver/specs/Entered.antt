-- What an entry for C does: the number sent back, and the bytes of both lent buffers.
use Rattle.std.specs.Prelude.{◌≡◌, ℕ, cond, List, [], ◌∷◌, eqb, length, replicate, ℤ, Result}
use Rattle.answers.specs.Answer.{unsound, number_of, Answer, refused, given, number}
use Rattle.answers.specs.declared.Refusal.{Refusal}
use Rattle.answers.specs.Told.{answered}
use Rattle.rules.specs.Calls.{Opened, Taken, Closed, Asked, Entry as Filling}
use Rattle.rules.specs.Next.{Sent}
use Rattle.rules.specs.Listed.{opened_fields, taken_fields, closed_fields, sent_fields, asked_fields}
use Rattle.memory.specs.Memory.{Left}
use Rattle.uplink.specs.Told.{panel, leaving}
use Rattle.image.specs.Parked.{Parked}
use Rattle.sheet.specs.Sheet.{Sheet, sheet_fields}
use Rattle.driver.specs.Words.{low_first, words, twos}

-- what the caller has in hand after a call; a call that is lent no state, or no answer buffer, has [] there
pub record Entry : Type 0 where
  pub number : ℕ
  pub state : List ℕ
  pub answer : List ℕ

abbrev pub entry : ℕ → List ℕ → List ℕ → Entry
entry n s a = record { number = n; state = s; answer = a }

-- "Anything else: refused, .. and all fields of the answer are 0."
abbrev pub shown : {A : Type 0} → ℕ → (A → List ℕ) → Answer A → List ℕ
shown n bytes (refused r) = replicate n 0
shown n bytes (given a) = bytes a

-- what comes back of an answer of the code, by the numbers of what it gives: its number r, and the n bytes b
pub record Comes {T : Type 0} (n : ℕ) (numbers : T → List ℕ) (told : Result T Refusal) (r : ℕ) (b : List ℕ) : Type 0 where
  pub number_is : r ≡ number (answered told)
  pub bytes_are : b ≡ shown n (λ a. words (numbers a)) (answered told)

-- a call whose answer is n bytes: "an answer buffer of another length gives 10 before all else: neither buffer is touched"
unfoldable pub entered : {A : Type 0} → ℕ → (A → List ℕ) → Left A → List ℕ → List ℕ → Entry
entered n bytes left state answer =
    cond (eqb (length answer) n) (entry (number left.answer) left.bytes (shown n bytes left.answer))
    (entry (number_of unsound) state answer)

-- what the caller has in hand after a parking, whose image goes into a buffer of its own; the answer is 4 bytes, the image's length
pub record ParkEntry : Type 0 where
  pub number : ℕ
  pub state : List ℕ
  pub image : List ℕ
  pub answer : List ℕ

abbrev pub park_entry : ℕ → List ℕ → List ℕ → List ℕ → ParkEntry
park_entry n s i a = record { number = n; state = s; image = i; answer = a }

abbrev pub park_bytes : ℕ → List ℕ
park_bytes n = words (n ∷ [])

unfoldable pub park_entered : Parked → List ℕ → List ℕ → List ℕ → ParkEntry
park_entered left state image answer =
    cond (eqb (length answer) 4) (park_entry (number left.answer) left.state left.image (shown 4 park_bytes left.answer))
    (park_entry (number_of unsound) state image answer)

-- what a call without a state leaves
abbrev pub stateless : {A : Type 0} → Answer A → Left A
stateless a = leaving a []

-- ---- The fields of each answer, in document 01's order.
abbrev pub start_bytes : Unit {0} → List ℕ
start_bytes a = []

abbrev pub open_bytes : Opened → List ℕ
open_bytes a = words (opened_fields a)

abbrev pub put_bytes : Taken → List ℕ
put_bytes a = words (taken_fields a)

abbrev pub close_bytes : Closed → List ℕ
close_bytes a = words (closed_fields a)

abbrev pub next_bytes : Sent → List ℕ
next_bytes a = words (sent_fields a)

abbrev pub ask_bytes : Asked → List ℕ
ask_bytes a = words (asked_fields a)

abbrev pub fullest_bytes : List Filling → List ℕ
fullest_bytes es = words (panel es)

abbrev pub term_bytes : ℕ → List ℕ
term_bytes t = words (t ∷ [])

abbrev pub lead_bytes : ℤ → List ℕ
lead_bytes z = low_first 8 (twos z)

abbrev pub sheet_bytes : Sheet → List ℕ
sheet_bytes s = words (sheet_fields s)
