use borrow.Author.Rules.{rules}
use mathlib.Core.Path.{◌≡◌, ◌∙◌}
use mathlib.Core.Bool.{cond}
use native.Mathlib.Omega.{arith}
use lib.Dec.{leb}
use lib.ListN.{take}
use Rattle.std.specs.List.{count_by}
use Rattle.exact.proofs.RowLaws.{sum_taken}
use Rattle.settlement.specs.inner.Cuts.{count_from}
use Rattle.settlement.proofs.sharing.count_from.Goals as goal

pub returns : goal.returns
unfolding count_from
returns c =
    let x = c.args in
    let e : c.count.result ≡ count_by (leb x.least) (take x.n x.remainders.now) = search rules in
    e ∙ sum_taken (λ r. cond (leb x.least r) 1 0) x.remainders.now 0 x.n (omega arith)
