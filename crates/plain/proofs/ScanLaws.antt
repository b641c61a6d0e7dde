-- The terms one after the other are the rules' own scan: before each and after each, what it still has to do is the whole choice. A slot is chosen, so a column with a
-- row comes before the terms run out.
use Prim.Native.Nat.{ℕ, zero, suc, ◌+◌, ◌-◌, ◌^◌, ◌≤◌, ◌<◌}
use mathlib.Core.Path.{◌≡◌, refl, sym, ap, ap₂, ◌∙◌, subst}
use mathlib.Core.Bool.{Bool, true, false, cond, ◌&&◌, true≢false}
use mathlib.Core.List.{List, [], ◌∷◌}
use mathlib.Core.Option.{Option, none, some, map}
use native.Mathlib.Numerals.{add-one}
use native.Mathlib.Omega.{arith}
use lib.Dec.{eqb}
use lib.Pow.{pow_mono}
use Rattle.lists.specs.Tests.{is_empty}
use Rattle.spread.specs.Limits.{columns}
use Rattle.spread.specs.Visits.{column_at}
use Rattle.spread.proofs.Rule.{term-pos}
use Rattle.rules.specs.Numbers.{most_terms}
use Rattle.rules.specs.State.{State, weights, order_of, column_of, held, holds, round_over}
use Rattle.rules.specs.Next as rules
use Rattle.rules.specs.Next.{next_position, noted, term_taken, ending_round, terms_most, visit_started, start_first, scanning}
use Rattle.rules.specs.Facts.{SoundTo, Sound, midway}
use Rattle.rules.proofs.Cases.{none-some}
use Rattle.rules.proofs.Rows.{order_least, order-most}
use Rattle.rules.proofs.RoundEnd.{not_over, ending_not, ending_over, SameButOrder, ending_same}
use Rattle.rules.proofs.Steps.{term-kept, ending_kept}
use Rattle.rules.proofs.Choosing.{row-found}
use Rattle.memory.specs.Reading.{state_of}
use Rattle.memory.specs.SoundMemory.{SoundBase}
use Rattle.visits.specs.Choice.{chosen_of, in_chosen}
use Rattle.visits.specs.declared.choose.Chosen.{Chosen}
use Rattle.visits.proofs.ChoiceInNumbers.{rows_of}
use Rattle.plain.specs.Places.{InRound, next_term, next_round, Ends, Begins, Starts, Finds}
use Rattle.plain.specs.declared.scan.Place.{Place}

-- ---- the visit of the first slot to visit is started

-- x is where the state s stands
module _ (s : State) (x : Place) (o : x.order ≡ s.order) (p : x.position ≡ s.scan.position) (c : x.column ≡ s.scan.column) where
  first-starts : (other : Option rules.Chosen) {y : Chosen} → Starts x s.scan.to_visit y
      → some y ≡ map in_chosen (start_first s.scan.to_visit x.terms s other)
  first-starts other {y} w =
      let there : rules.Chosen = record { slot = w.first; started = 1; terms = x.terms; state = visit_started s w.first w.rest } in
      let same : y ≡ in_chosen there = w.chosen_is ∙ rw (o, p, c) refl in
      ap (λ (z : Chosen). some z) same ∙ sym (ap (λ (l : List ℕ). map in_chosen (start_first l x.terms s other)) w.list_is)

  -- however many terms may still be taken
  pub scan-starts : (left : ℕ) {y : Chosen} → Starts x s.scan.to_visit y → some y ≡ map in_chosen (scanning left x.terms s)
  unfolding scanning
  scan-starts zero w = first-starts none w
  scan-starts (suc left) w = first-starts (scanning left (suc x.terms) (ending_round (term_taken s))) w

-- ---- before a term, and after it

-- the state s differs from the memory's in its order and its scan point only, no visit is open, and x is its order and its position
pub record Stands (b : List ℕ) (x : Place) (s : State) : Type 0 where
  pub edition-is : s.edition ≡ (state_of b).edition
  pub channels_are : s.channels ≡ (state_of b).channels
  pub rows_are : s.rows ≡ (state_of b).rows
  pub closed : s.scan.visit ≡ none
  pub order_is : x.order ≡ s.order
  pub position-is : x.position ≡ s.scan.position

-- none is left to visit, and what the rules' scan does from here is the choice on the memory
pub record Before (b : List ℕ) (x : Place) : Type 0 where
  pub state : State
  pub sound : Sound state
  pub stands : Stands b x state
  pub empty : state.scan.to_visit ≡ []
  pub left : ℕ
  pub count : x.terms + left ≡ terms_most (state_of b)
  pub way : scanning left x.terms state ≡ chosen_of (state_of b)

-- the rows of the column at x are to visit. (A round's end may still be to come.)
pub record After (b : List ℕ) (x : Place) : Type 0 where
  pub state : State
  pub sound : SoundTo midway state
  pub stands : Stands b x state
  pub low : x.column < columns
  pub list_is : state.scan.to_visit ≡ column_of (weights (state_of b).channels) (state_of b).rows x.column
  pub noted-is : state.scan.column ≡ noted state.scan.to_visit x.column
  pub left : ℕ
  pub count : x.terms + left ≡ terms_most (state_of b)
  pub way : scanning left x.terms (ending_round state) ≡ chosen_of (state_of b)

pub begins-before : {b : List ℕ} {x : Place} → Begins b x → Before b x
begins-before {b} {x} B =
    record {
      state = state_of b;
      sound = B.memory.state;
      stands = record { edition-is = refl; channels_are = refl; rows_are = refl; closed = B.closed; order_is = B.order_is; position-is = B.position-is };
      empty = B.empty;
      left = terms_most (state_of b);
      count = rw B.no_term (omega arith);
      way = rw (B.no_term, B.closed) refl;
    }

column-low : (k p : ℕ) → k ≤ columns → column_at k p < columns
unfolding column_at
column-low k p l = omega (arith, term-pos p)

-- where no visit is open and none is left, a round is over at its last term, if the order is held
over_read : (s t : State) {k p : ℕ} → s.edition ≡ t.edition → s.rows ≡ t.rows → s.scan.visit ≡ none → s.scan.to_visit ≡ [] → k ≡ s.order
    → p ≡ s.scan.position → round_over s ≡ holds t t.rows && eqb (p + 1) (2 ^ k)
unfolding round_over
over_read s t e r v l o q = rw (e, r, v, l, o, q, add-one s.scan.position) (go (holds t t.rows) (eqb (suc s.scan.position) (2 ^ s.order)))
  where
    go : (g e : Bool) → g && (true && (true && (e && true))) ≡ g && e
    go true true = refl
    go true false = refl
    go false e = refl

pub round-terms : (s : State) (x : Place) → (next_round s x).terms ≡ x.terms
round-terms s x = go (holds s s.rows && eqb (x.position + 1) (2 ^ x.order))
  where
    afresh : Place
    afresh = record { order = order_of (weights s.channels) s.rows; position = 0; column = x.column; terms = x.terms }

    go : (t : Bool) → (cond t afresh x).terms ≡ x.terms
    go true = refl
    go false = refl

some-noted : (l : List ℕ) (c : ℕ) → is_empty l ≡ false → noted l c ≡ c
some-noted [] c e = absurd (true≢false e)
some-noted (i ∷ rest) c e = refl

module _ {b : List ℕ} (M : SoundBase b) (filled : is_empty (state_of b).rows ≡ false) where
  -- a slot is chosen, so where none is left to visit a term may be taken
  one_more : (left n : ℕ) (s : State) → s.scan.to_visit ≡ [] → scanning left n s ≡ chosen_of (state_of b)
      → (f : ℕ) × (left ≡ suc f) × (scanning f (suc n) (ending_round (term_taken s)) ≡ chosen_of (state_of b))
  unfolding scanning
  one_more zero n s e w =
      let (y, g, few) = row-found M.state filled in
      absurd (none-some (sym (ap (λ (l : List ℕ). start_first l n s none) e) ∙ w ∙ g))
  one_more (suc f) n s e w =
      (f, refl, sym (ap (λ (l : List ℕ). start_first l n s (scanning f (suc n) (ending_round (term_taken s)))) e) ∙ w)

  terms-most : terms_most (state_of b) ≤ 2 ^ columns
  terms-most = go (held (state_of b)) (pow_mono (order-most M.state))
    where
      go : (t : Bool) → 2 ^ (state_of b).order ≤ 2 ^ columns → cond t (2 ^ (state_of b).order - 1) most_terms ≤ 2 ^ columns
      go true h = omega arith
      go false h = omega arith

  module _ {x : Place} where
    -- ---- a term is taken

    pub before-round : Before b x → InRound x
    before-round B =
        let s = B.state in
        let rows : is_empty s.rows ≡ false = ap is_empty B.stands.rows_are ∙ filled in
        let (f, e, w) = one_more B.left x.terms s B.empty B.way in
        record {
          least = rw B.stands.order_is (order_least B.sound rows);
          most = rw B.stands.order_is (order-most B.sound);
          position = rw (B.stands.order_is, B.stands.position-is) B.sound.position;
          few = omega (arith, terms-most, B.count);
        }

    pub term-after : Before b x → After b (next_term x)
    term-after B =
        let s = B.state in
        let H = B.stands in
        let rows : is_empty s.rows ≡ false = ap is_empty H.rows_are ∙ filled in
        let (f, e, w) = one_more B.left x.terms s B.empty B.way in
        record {
          state = term_taken s;
          sound = term-kept B.sound H.closed rows;
          stands = record {
            edition-is = H.edition-is;
            channels_are = H.channels_are;
            rows_are = H.rows_are;
            closed = H.closed;
            order_is = H.order_is;
            position-is = ap₂ next_position H.order_is H.position-is;
          };
          low = column-low x.order (next_term x).position (before-round B).most;
          list_is = rw (H.order_is, H.position-is, H.channels_are, H.rows_are);
          noted-is = rw (H.order_is, H.position-is);
          left = f;
          count = omega (arith, B.count);
          way = rw (add-one x.terms) w;
        }

    -- ---- a round ends where the column is empty and the last term is taken

    pub after-ends : After b x → Ends b x
    after-ends A =
        record {
          rows = rows_of M;
          shown = omega (arith, M.state.order-above, order-most M.state);
          most = rw A.stands.order_is (order-most A.sound);
          position = rw (A.stands.order_is, A.stands.position-is) A.sound.position;
        }

    module _ (A : After b x) (none-there : column_of (weights (state_of b).channels) (state_of b).rows x.column ≡ []) where
      pub round-before : Before b (next_round (state_of b) x)
      round-before =
          subst (λ (t : Bool). Before b (ended t))
          (over_read s (state_of b) H.edition-is H.rows_are H.closed (A.list_is ∙ none-there) H.order_is H.position-is)
          (go (round_over s) refl)
        where
          s : State
          s = A.state

          H : Stands b x s
          H = A.stands

          E : SameButOrder s (ending_round s)
          E = ending_same s

          ended : Bool → Place
          ended t =
              cond t
              (record { order = order_of (weights (state_of b).channels) (state_of b).rows; position = 0; column = x.column; terms = x.terms })
              x

          standing : (y : Place) → y.terms ≡ x.terms → y.order ≡ (ending_round s).order → y.position ≡ (ending_round s).scan.position → Before b y
          standing y n o p =
              record {
                state = ending_round s;
                sound = ending_kept A.sound;
                stands = record {
                  edition-is = E.edition ∙ H.edition-is;
                  channels_are = E.channels ∙ H.channels_are;
                  rows_are = E.rows ∙ H.rows_are;
                  closed = E.visit ∙ H.closed;
                  order_is = o;
                  position-is = p;
                };
                empty = E.to_visit ∙ A.list_is ∙ none-there;
                left = A.left;
                count = rw n A.count;
                way = rw n A.way;
              }

          go : (t : Bool) → round_over s ≡ t → Before b (ended t)
          go true q =
              let over = ending_over s q in
              standing (ended true) refl (rw (← H.channels_are, ← H.rows_are) (sym (ap (λ (r : State). r.order) over))) (sym (ap (λ (r : State). r.scan.position) over))
          go false q =
              let same = ending_not s q in
              standing x refl (H.order_is ∙ sym (ap (λ (r : State). r.order) same)) (H.position-is ∙ sym (ap (λ (r : State). r.scan.position) same))

    -- ---- the column has a row

    pub after_finds : After b x → is_empty (column_of (weights (state_of b).channels) (state_of b).rows x.column) ≡ false → Finds b x
    after_finds A some-there =
        let s = A.state in
        let listed : is_empty s.scan.to_visit ≡ false = ap is_empty A.list_is ∙ some-there in
        let stays : ending_round s ≡ s = ending_not s (not_over s (λ o. true≢false (sym (ap is_empty o.none_remain) ∙ listed))) in
        let at-column : x.column ≡ s.scan.column = sym (A.noted-is ∙ some-noted s.scan.to_visit x.column listed) in
        record {
          low = A.low;
          found = some-there;
          chosen = λ y w.
              scan-starts s x A.stands.order_is A.stands.position-is at-column A.left (subst (λ (l : List ℕ). Starts x l y) (sym A.list_is) w)
              ∙ ap (λ (r : State). map in_chosen (scanning A.left x.terms r)) (sym stays)
              ∙ ap (map in_chosen) A.way;
        }
