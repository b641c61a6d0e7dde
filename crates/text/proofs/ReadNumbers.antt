-- Numbers read one after the other: what a turn leaves to read, and what the numbers of a line are in each of the four forms.
use Rattle.std.proofs.Common.{◌≡◌, refl, ap, ◌∙◌, List, [], ◌∷◌, ◌++◌, ℕ, suc, ◌+◌, ◌-◌, ◌≤◌, ◌<◌, length, take, drop, get_or, arith, Option, Some, None}
use Rattle.std.proofs.Math.Option as rules
use lib.Dec.{eqb}
use borrow.Author.Tests.{ne_eqb}
use Rattle.std.proofs.Math.ListN.{set, drop_of_length-le}
use Rattle.std.proofs.lemmas.List.{take_more_set}
use Rattle.rules.specs.Calls.{Call, to_open, to_put, to_close, to_next}
use Rattle.std.specs.Bool.{then_some}
use Rattle.text.specs.declared.command.Command.TheVariants.{Next}
use Rattle.text.specs.Digits.{Front, number, nothing, spaced_off}
use Rattle.text.specs.Places.{spaced_at}
use Rattle.text.specs.Commands.{with_number, at_end, command_of, call_of, numbers_after, numbers_of}
use Rattle.text.proofs.PlaceLaws.{told, missing, drop_here}

module _ (s : List ℕ) (n i at : ℕ) where
  -- one number more is read
  pub numbers-more : (ns : List ℕ) (v next : ℕ) → i < n → i < length ns → Some (v, next) ≡ spaced_at s at
      → numbers_after (take i ns) (n - i) (drop at s) ≡ numbers_after (take (i + 1) (set ns i v)) (n - (i + 1)) (drop next s)
  unfolding numbers_after
  numbers-more ns v next h l e =
      let left : n - i ≡ suc (n - (i + 1)) = omega arith in
      rw (left, numbers_after, (told s at v next e).number_is, take_more_set ns i v l)

  pub numbers-missing : (ns : List ℕ) → i < n → None ≡ spaced_at s at → numbers_after ns (n - i) (drop at s) ≡ None
  unfolding numbers_after
  numbers-missing ns h e =
      let left : n - i ≡ suc (n - (i + 1)) = omega arith in
      rw (left, numbers_after, missing s at e)

  -- all are read
  pub numbers-end : (ns : List ℕ) → n ≤ i → length s ≤ at → numbers_after ns (n - i) (drop at s) ≡ Some ns
  unfolding numbers_after
  numbers-end ns h e =
      let left : n - i ≡ 0 = omega arith in
      rw (left, drop_of_length-le s e)

  pub numbers-long : (ns : List ℕ) → n ≤ i → at < length s → numbers_after ns (n - i) (drop at s) ≡ None
  unfolding numbers_after
  numbers-long ns h e =
      let left : n - i ≡ 0 = omega arith in
      rw (left, drop_here s at e)

-- ---- A form's numbers, as a line is read by the front and as they are read all together.

abbrev pub by_numbers : (List ℕ → rules.Option Call) → Option (List ℕ) → rules.Option Call
by_numbers h None = rules.none
by_numbers h (Some ns) = h ns

module _ (h : List ℕ → rules.Option Call) (ns : List ℕ) where
  ends : (c : Call) → h ns ≡ rules.some c → (l : List ℕ) → by_numbers h (numbers_after ns 0 l) ≡ at_end c l
  unfolding numbers_after
  ends c e [] = e
  ends c e (x ∷ l) = refl

  goes : (n : ℕ) (f : ℕ → List ℕ → rules.Option Call) → ((v : ℕ) (rest : List ℕ) → by_numbers h (numbers_after (ns ++ v ∷ []) n rest) ≡ f v rest)
      → (l : List ℕ) → by_numbers h (numbers_after ns (suc n) l) ≡ with_number f l
  unfolding numbers_after
  goes n f e l = go (spaced_off l) refl
    where
      go : (t : Front) → spaced_off l ≡ t → by_numbers h (numbers_after ns (suc n) l) ≡ with_number f l
      go (number v rest) g = rw (numbers_after, g) (e v rest)
      go nothing g = rw (numbers_after, g)

-- ---- What is made of the numbers is what a line that begins with the letter asks for.

module _ {line rest : List ℕ} {x : ℕ} (whole : line ≡ x ∷ rest) where
  pub open-asked : {told : Option (List ℕ)} → x ≡ 79 → told ≡ numbers_of 1 rest → by_numbers (λ ns. rules.some (to_open (get_or ns 0 0))) told ≡ command_of line
  unfolding command_of
  open-asked e n =
      let h : List ℕ → rules.Option Call = λ ns. rules.some (to_open (get_or ns 0 0)) in
      ap (by_numbers h) n ∙ goes h [] 0 _ (λ w. ends h (w ∷ []) (to_open w) refl) rest ∙ rw (whole, e)

  pub put-asked : {told : Option (List ℕ)} → x ≡ 80 → told ≡ numbers_of 4 rest
      → by_numbers (λ ns. rules.some (to_put (get_or ns 0 0) (get_or ns 1 0) (get_or ns 2 0) (get_or ns 3 0))) told ≡ command_of line
  unfolding command_of
  put-asked e n =
      let h : List ℕ → rules.Option Call = λ ns. rules.some (to_put (get_or ns 0 0) (get_or ns 1 0) (get_or ns 2 0) (get_or ns 3 0)) in
      ap (by_numbers h) n
      ∙ goes h [] 3 _ (λ i. goes h (i ∷ []) 2 _ (λ t. goes h (i ∷ t ∷ []) 1 _ (λ n. goes h (i ∷ t ∷ n ∷ []) 0 _ (λ r. ends h (i ∷ t ∷ n ∷ r ∷ []) (to_put i t n r) refl)))) rest
      ∙ rw (whole, e)

  pub close-asked : {told : Option (List ℕ)} → x ≡ 67 → told ≡ numbers_of 2 rest → by_numbers (λ ns. rules.some (to_close (get_or ns 0 0) (get_or ns 1 0))) told ≡ command_of line
  unfolding command_of
  close-asked e n =
      let h : List ℕ → rules.Option Call = λ ns. rules.some (to_close (get_or ns 0 0) (get_or ns 1 0)) in
      ap (by_numbers h) n ∙ goes h [] 1 _ (λ i. goes h (i ∷ []) 0 _ (λ t. ends h (i ∷ t ∷ []) (to_close i t) refl)) rest ∙ rw (whole, e)

  pub next-asked : x ≡ 78 → call_of (then_some (eqb (length rest) 0) Next) ≡ command_of line
  unfolding command_of
  next-asked e = rw (whole, e) (nothing_left rest)
    where
      nothing_left : (l : List ℕ) → call_of (then_some (eqb (length l) 0) Next) ≡ at_end to_next l
      nothing_left [] = refl
      nothing_left (y ∷ l) = rw (ne_eqb (length (y ∷ l)) 0 (λ h. omega arith))

  -- another letter
  pub other-asked : (x ≡ 79 → ⊥) → (x ≡ 80 → ⊥) → (x ≡ 67 → ⊥) → (x ≡ 78 → ⊥) → rules.none ≡ command_of line
  unfolding command_of
  other-asked o p q n = rw (whole, ne_eqb x 79 o, ne_eqb x 80 p, ne_eqb x 67 q, ne_eqb x 78 n)

-- the empty line
pub empty-asked : (line : List ℕ) → length line ≡ 0 → rules.none ≡ command_of line
unfolding command_of
empty-asked [] e = refl
empty-asked (x ∷ l) e = absurd (omega arith)
