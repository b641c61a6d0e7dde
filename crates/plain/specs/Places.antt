-- Where one stands in the sequence: a term taken, a round ended, a column found, a visit started.
use Rattle.std.specs.Prelude.{ℕ, suc, ◌+◌, ◌^◌, ◌≤◌, ◌<◌, ◌≡◌, false, cond, ◌&&◌, List, [], ◌∷◌, eqb}
use Rattle.std.proofs.Math.Option.{none, some, map}
use Rattle.bits.specs.Mask.{mask_of}
use Rattle.lists.specs.Tests.{is_empty}
use Rattle.spread.specs.Limits.{columns}
use Rattle.spread.specs.Visits.{column_at}
use Rattle.rules.specs.State.{State, weights, order_of, column_of, holds}
use Rattle.rules.specs.Next.{next_position, noted}
use Rattle.memory.specs.Reading.{state_of}
use Rattle.memory.specs.Search.{RowsWithin}
use Rattle.memory.specs.SoundMemory.{SoundBase}
use Rattle.visits.specs.Choice.{chosen_of, in_chosen}
use Rattle.visits.specs.declared.choose.Chosen.{Chosen}
use Rattle.plain.specs.declared.scan.Place.{Place}

-- P is a position of a round of an order that the columns have, and terms may still be taken
pub record InRound (x : Place) : Type 0 where
  pub least : 1 ≤ x.order
  pub most : x.order ≤ columns
  pub position : x.position < 2 ^ x.order
  pub few : x.terms < 2 ^ columns

-- "P goes up by one, and 2^k becomes 1; the column is k minus the term."
abbrev pub next_term : Place → Place
next_term x =
    let p = next_position x.order x.position in
    record { order = x.order; position = p; column = column_at x.order p; terms = x.terms + 1 }

-- "a round's end (term 2^k - 1 taken, no visit open, none left to visit); then the order is worked out afresh and P is 0": no visit is open and none is left
abbrev pub next_round : State → Place → Place
next_round s x =
    cond (holds s s.rows && eqb (x.position + 1) (2 ^ x.order))
    (record { order = order_of (weights s.channels) s.rows; position = 0; column = x.column; terms = x.terms })
    x

-- the order can be worked out afresh from the columns, and P is a position of the round
pub record Ends (b : List ℕ) (x : Place) : Type 0 where
  pub rows : RowsWithin b
  pub shown : order_of (weights (state_of b).channels) (state_of b).rows ≤ columns
  pub most : x.order ≤ columns
  pub position : x.position < 2 ^ x.order

-- the first term is to be taken: no visit is open, none is left to visit, and x is where the memory b stands
pub record Begins (b : List ℕ) (x : Place) : Type 0 where
  pub memory : SoundBase b
  pub filled : is_empty (state_of b).rows ≡ false
  pub closed : (state_of b).scan.visit ≡ none
  pub empty : (state_of b).scan.to_visit ≡ []
  pub order_is : x.order ≡ (state_of b).order
  pub position-is : x.position ≡ (state_of b).scan.position
  pub no_term : x.terms ≡ 0

-- y starts the visit of the first slot of a list, at x
pub record Starts (x : Place) (list : List ℕ) (y : Chosen) : Type 0 where
  pub first : ℕ
  pub rest : List ℕ
  pub list_is : list ≡ first ∷ rest
  pub chosen_is : y ≡ record {
    slot = first;
    started = 1;
    terms = x.terms;
    order = x.order;
    scan = record { position = x.position; column = noted rest x.column; mask = mask_of rest; visit = suc first };
  }

-- the column at x has a row, and to start the visit of its first row is the choice on the memory b
pub record Finds (b : List ℕ) (x : Place) : Type 0 where
  pub low : x.column < columns
  pub found : is_empty (column_of (weights (state_of b).channels) (state_of b).rows x.column) ≡ false
  pub chosen : (y : Chosen) → Starts x (column_of (weights (state_of b).channels) (state_of b).rows x.column) y
      → some y ≡ map in_chosen (chosen_of (state_of b))
