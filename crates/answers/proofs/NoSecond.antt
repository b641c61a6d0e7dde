-- A refusal of the code is told from each other one by its row of the table, so an answer that refuses leaves room for no second one.
use mathlib.Core.Path.{◌≡◌, refl, sym, ap, ◌∙◌}
use Rattle.answers.specs.Answer as answer
use Rattle.answers.specs.Answer.{Answer, refused, mapped}
use Rattle.std.specs.Prelude.{Result, Ok, Err}
use Rattle.answers.specs.Told.{refusal_told, answered}
use Rattle.answers.proofs.Answers.{refused-given, given_inj}
use Rattle.answers.specs.declared.Refusal.{Refusal}
use Rattle.answers.specs.declared.Refusal.TheVariants as refusal

refusal_of : answer.Refusal → Refusal
refusal_of answer.no_slot = refusal.NoSlot
refusal_of answer.not_present = refusal.NotPresent
refusal_of answer.at_closing = refusal.AtClosing
refusal_of answer.bad_length = refusal.BadLength
refusal_of answer.full = refusal.Full
refusal_of answer.bad_weight = refusal.BadWeight
refusal_of answer.none_free = refusal.NoneFree
refusal_of answer.none_waits = refusal.NoneWaits
refusal_of answer.unsound = refusal.Unsound
refusal_of answer.no_term = refusal.NoTerm
refusal_of answer.bad_edition = refusal.BadEdition
refusal_of answer.no_shared = refusal.NoShared
refusal_of answer.parked = refusal.Parked
refusal_of answer.bad_image = refusal.BadImage
refusal_of answer.short_buffer = refusal.ShortBuffer
refusal_of answer.too_many = refusal.TooMany

back : (r : Refusal) → refusal_of (refusal_told r) ≡ r
unfolding refusal_of
back refusal.NoSlot = refl
back refusal.NotPresent = refl
back refusal.AtClosing = refl
back refusal.BadLength = refl
back refusal.Full = refl
back refusal.BadWeight = refl
back refusal.NoneFree = refl
back refusal.NoneWaits = refl
back refusal.Unsound = refl
back refusal.NoTerm = refl
back refusal.BadEdition = refl
back refusal.NoShared = refl
back refusal.Parked = refl
back refusal.BadImage = refl
back refusal.ShortBuffer = refl
back refusal.TooMany = refl

pub refusal-told-once : (p q : Refusal) → refusal_told p ≡ refusal_told q → p ≡ q
refusal-told-once p q e = sym (back p) ∙ ap refusal_of e ∙ back q

pub refused-once : {A : Type 0} (p q : Refusal) → ◌≡◌ {A = Answer A} (refused (refusal_told p)) (refused (refusal_told q)) → p ≡ q
refused-once p q e = let same : refusal_told p ≡ refusal_told q = cc in refusal-told-once p q same

-- and so is any answer whose values are told from each other by what f says of them
pub mapped-once : {A B : Type 0} (f : A → B) → ((a b : A) → f a ≡ f b → a ≡ b) → (x y : Result A Refusal) → mapped f (answered x) ≡ mapped f (answered y) → x ≡ y
mapped-once f once (Ok a) (Ok b) e = ap Ok (once a b (given_inj e))
mapped-once f once (Ok a) (Err q) e = absurd (refused-given (sym e))
mapped-once f once (Err p) (Ok b) e = absurd (refused-given e)
mapped-once f once (Err p) (Err q) e = ap Err (refused-once p q e)

pub answered-once : {A : Type 0} (x y : Result A Refusal) → answered x ≡ answered y → x ≡ y
answered-once x y e = mapped-once (λ a. a) (λ a b z. z) x y (ap (mapped (λ a. a)) e)
