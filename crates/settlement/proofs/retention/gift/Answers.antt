-- The tests stand in the order of the definition.
use mathlib.Core.Path.{sym, ◌∙◌}
use native.Mathlib.Nat.{pos_of_ne-zero}
use borrow.Author.Tests.{eq-eqb, ne_eqb, le-leb}
use Rattle.settlement.specs.Notice.{gives}
use Rattle.settlement.proofs.RetentionLaws.{gives_share}
use Rattle.settlement.proofs.retention.gift.Goals as goal
use Rattle.settlement.proofs.retention.gift.Goals.{then-g-eq0-via-then-g-eq0, then-g-eq0-via-else-g-eq0+then-s-eq0}

pub returns-then-g-eq0 : goal.returns-then-g-eq0
unfolding gives
returns-then-g-eq0 c =
    elim c.then-g-eq0.branch [
      | then-g-eq0-via-then-g-eq0 w ↦ simp (eq-eqb _ _ w.if-g-eq0.true)
      | then-g-eq0-via-else-g-eq0+then-s-eq0 w ↦ simp (ne_eqb _ _ w.if-g-eq0.false, eq-eqb _ _ w.if-s-eq0.true)
    ]

pub returns-then-g-s : goal.returns-then-g-s
unfolding gives
returns-then-g-s c =
    simp (ne_eqb _ _ c.if-g-eq0.false, ne_eqb _ _ c.if-s-eq0.false, le-leb _ _ c.if-g-s.true)

pub returns : goal.returns
returns c = c.proportion_up.ensures ∙ sym (gives_share _ _ _ (pos_of_ne-zero c.if-s-eq0.false) c.if-g-s.false)
