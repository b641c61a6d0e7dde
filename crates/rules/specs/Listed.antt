-- The fields of each answer, in the order in which document 01 lists them: what the entries for C write and the command program prints.
use Rattle.std.specs.Prelude.{ℕ, List, [], ◌∷◌, length}
use Rattle.rules.specs.Next.{Sent}
use Rattle.rules.specs.Calls.{Opened, Taken, Closed, Asked, Entry}

abbrev pub opened_fields : Opened → List ℕ
opened_fields a = a.slot ∷ a.ticket ∷ []

abbrev pub taken_fields : Taken → List ℕ
taken_fields a = a.serial ∷ a.waiting ∷ []

abbrev pub closed_fields : Closed → List ℕ
closed_fields a = a.freed ∷ []

abbrev pub sent_fields : Sent → List ℕ
sent_fields a = a.slot ∷ a.ticket ∷ a.length ∷ a.reference ∷ a.serial ∷ a.started ∷ a.terms ∷ []

abbrev pub asked_fields : Asked → List ℕ
asked_fields a = a.kind ∷ a.weight ∷ a.deficit ∷ a.waiting ∷ a.bytes ∷ []

-- how many are listed, then each one's slot and bytes
abbrev pub entry_fields : List Entry → List ℕ
entry_fields [] = []
entry_fields (e ∷ es) = e.slot ∷ e.bytes ∷ entry_fields es

abbrev pub fullest_fields : List Entry → List ℕ
fullest_fields es = length es ∷ entry_fields es
