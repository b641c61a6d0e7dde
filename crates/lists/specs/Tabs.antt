-- Lists told by their elements: numbers below a bound, one element put in, one taken out, and a list made of a function.
use Rattle.std.specs.Prelude.{ℕ, zero, suc, ◌<◌, List, [], ◌∷◌, get_or}

-- every number is below m
abbrev pub Below : ℕ → List ℕ → Type 0
Below m vs = (i : ℕ) → get_or vs i 0 < m

-- v put in before element i, and element i taken out
unfoldable pub insert_at : {A : Type 0} → ℕ → A → List A → List A
insert_at zero v xs = v ∷ xs
insert_at (suc i) v [] = v ∷ []
insert_at (suc i) v (x ∷ xs) = x ∷ insert_at i v xs

unfoldable pub remove_at : {A : Type 0} → ℕ → List A → List A
remove_at i [] = []
remove_at zero (x ∷ xs) = xs
remove_at (suc i) (x ∷ xs) = x ∷ remove_at i xs

-- the list f 0, f 1, .. of n elements
unfoldable pub tab : {A : Type 0} → ℕ → (ℕ → A) → List A
tab zero f = []
tab (suc n) f = f 0 ∷ tab n (λ i. f (suc i))
