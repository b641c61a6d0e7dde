-- What document 02 says of each case of the writer's answer: the number, and the value.
use Rattle.std.specs.Prelude.{ℕ, Result}
use Rattle.answers.specs.Answer.{Answer}
use Rattle.answers.specs.Told.{answered}
use Rattle.answers.specs.declared.Refusal.{Refusal}

abbrev pub park_told : Result ℕ Refusal → Answer ℕ
park_told r = answered r
