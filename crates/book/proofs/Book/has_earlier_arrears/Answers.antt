use mathlib.Core.Path.{◌∙◌}
use borrow.Author.Rules.{rules}
use lib.ListN.{take}
use Rattle.std.proofs.Common.{tests}
use Rattle.std.proofs.lemmas.Iterator.{YieldsList-from_slice}
use Rattle.std.proofs.lemmas.Iterator.Search.{any_from_yields_List}
use Rattle.book.specs.rules.State.{arrears_before}
use Rattle.book.specs.rules.Insides.{record_of}
use Rattle.book.proofs.records.Packing.{count_few, earlier_any}
use Rattle.book.proofs.Book.has_earlier_arrears.Goals as goal

pub shared_ref_as_front-used : goal.shared_ref_as_front-used
shared_ref_as_front-used c = count_few c.self.invariant

pub returns : goal.returns
returns c =
    let s = c.args in
    let b = record_of c.self.inside in
    let ps = take b.count b.periods in
    rw (← c.self.view_is)
    (any_from_yields_List (arrears_before s.i s.number) _ _ _ c.any.ensures.ran (YieldsList-from_slice ps cc) (λ x b q k. search (rules, tests))
    ∙ earlier_any s.i s.number ps)
