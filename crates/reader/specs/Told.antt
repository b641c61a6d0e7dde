-- What document 02 says of each case of the reader's answer: the number.
use Rattle.std.specs.Prelude.{Result}
use Rattle.answers.specs.Answer.{Answer}
use Rattle.answers.specs.Told.{answered}
use Rattle.answers.specs.declared.Refusal.{Refusal}

abbrev pub unpark_told : Result (Unit {0}) Refusal → Answer (Unit {0})
unpark_told r = answered r
