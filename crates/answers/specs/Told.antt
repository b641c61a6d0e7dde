-- Which row of document 01's table each case of the code's enum is, and what a call of the code answers.
use Rattle.std.specs.Prelude.{Result, Ok, Err}
use Rattle.answers.specs.Answer as answer
use Rattle.answers.specs.declared.Refusal.{Refusal}
use Rattle.answers.specs.declared.Refusal.TheVariants as refusal

abbrev pub refusal_told : Refusal → answer.Refusal
refusal_told refusal.NoSlot = answer.no_slot
refusal_told refusal.NotPresent = answer.not_present
refusal_told refusal.AtClosing = answer.at_closing
refusal_told refusal.BadLength = answer.bad_length
refusal_told refusal.Full = answer.full
refusal_told refusal.BadWeight = answer.bad_weight
refusal_told refusal.NoneFree = answer.none_free
refusal_told refusal.NoneWaits = answer.none_waits
refusal_told refusal.Unsound = answer.unsound
refusal_told refusal.NoTerm = answer.no_term
refusal_told refusal.BadEdition = answer.bad_edition
refusal_told refusal.NoShared = answer.no_shared
refusal_told refusal.Parked = answer.parked
refusal_told refusal.BadImage = answer.bad_image
refusal_told refusal.ShortBuffer = answer.short_buffer
refusal_told refusal.TooMany = answer.too_many

-- the answer that a call of the code gives
abbrev pub answered : {A : Type 0} → Result A Refusal → answer.Answer A
answered (Ok a) = answer.given a
answered (Err r) = answer.refused (refusal_told r)
