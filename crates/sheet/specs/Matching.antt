-- How the checker goes along a list: the rows wanted next are held against it, place by place.
use Rattle.std.specs.Prelude.{ℕ, suc, cond, List, [], ◌∷◌, eqb, ltb, length, get_or, Result, Ok, Err}

-- The rows wanted, held against a list from place p on: all stand there and the place behind them is this one; or this place is wrong.
unfoldable pub matched : List ℕ → ℕ → List ℕ → Result ℕ ℕ
matched rows p [] = Ok p
matched rows p (v ∷ vs) =
    let later = matched rows (suc p) vs in
    cond (ltb p (length rows)) (cond (eqb (get_or rows p 0) v) later (Err p)) (Err p)
