use borrow.Author.Rules.{rules}
use Prim.Native.Nat.{ℕ, ◌-◌, ◌<◌, min}
use mathlib.Core.Bool.{cond}
use lib.Dec.{eqb, leb}
use mathlib.Core.Path.{◌≡◌, sym, ap, ◌∙◌}
use native.Mathlib.Omega.{arith}
use Rattle.exact.specs.Rows.{at, sum, cells}
use Rattle.exact.proofs.RowLaws.{cells_none, cells_more, sum_none, sum_more}
use Rattle.settlement.specs.Sharing.{leftover_cent}
use Rattle.settlement.specs.inner.Cuts.{count_from, CutBetween}
use Rattle.settlement.proofs.Ranks.{equals, cent_is, cut_cent}
use Rattle.settlement.proofs.sharing.with_leftover.Goals as goal

pub loop-i-init : goal.loop-i-init
loop-i-init c = (search rules, cells_none _, omega (arith, sum_none (equals (at c.args.d.remainders) (c.args.least - 1))))

-- the next participant's cent, where `cent` is what the cut gives it while so many are spare
cent_next : (rest : ℕ → ℕ) (n leftover least i spare cent : ℕ) → CutBetween rest n leftover (least - 1) least → i < n
    → spare ≡ leftover - count_from rest n least - sum (equals rest (least - 1)) i
    → cent ≡ cond (leb least (rest i)) 1 (cond (eqb (rest i) (least - 1)) (min 1 spare) 0)
    → cent ≡ leftover_cent rest n leftover i
cent_next rest n leftover least i spare cent b h s e = rw s at e ∙ sym (cut_cent rest n leftover least i b h)

pub overflow_add-out : goal.overflow_add-out
overflow_add-out c =
    let x = c.args in
    let l = c.loop-i in
    omega (arith, cent_next _ _ _ _ _ _ _ c.requires.1 (omega arith) (omega (arith, l.invariant.2, c.count_from.ensures)) c.cent_for-cent.ensures.0, cent_is (at x.d.remainders) x.n x.leftover l.i, c.requires.2 l.i (omega arith))

pub loop-i-preserved : goal.loop-i-preserved
loop-i-preserved c =
    let x = c.args in
    let l = c.loop-i in (
      search rules,
      rw (l.invariant.1, cent_next _ _ _ _ _ _ _ c.requires.1 (omega arith) (omega (arith, l.invariant.2, c.count_from.ensures)) c.cent_for-cent.ensures.0) (cells_more _ l.i (omega arith)),
      omega (arith, c.cent_for-cent.ensures.1, l.invariant.2, sum_more (equals (at x.d.remainders) (x.least - 1)) l.i),
    )

pub returns : goal.returns
returns c = c.loop-i.invariant.1 ∙ ap (cells _) (omega arith)
