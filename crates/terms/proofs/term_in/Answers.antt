-- What is lent is the table, and the rule holds of all its entries.
use borrow.Author.Rules.{rules}
use Rattle.terms.proofs.Entries.{entries-ruled}
use Rattle.terms.proofs.term_in.Goals as goal

pub returns : goal.returns
returns c = let a = c.args in entries-ruled a.terms.now c.requires.0 a.position (search rules) (search rules)
