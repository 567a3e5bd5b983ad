use borrow.Author.Rules.{rules}
use Rattle.book.proofs.records.Packing.{count_is}
use Rattle.book.proofs.Book.opening_answer.Goals as goal

pub returns-then-self : goal.returns-then-self
returns-then-self c = rw (← c.self.view_is) (let e = count_is c.self.invariant in search rules)
