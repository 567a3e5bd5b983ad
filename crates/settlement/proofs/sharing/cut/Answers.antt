use borrow.Author.Rules.{rules}
use Prim.Native.Nat.{◌-◌}
use mathlib.Core.Path.{◌≡◌, ap}
use native.Mathlib.Omega.{arith}
use Rattle.exact.specs.Rows.{at}
use Rattle.settlement.specs.inner.Cuts.{count_from}
use Rattle.settlement.proofs.Ranks.{count_all, count_past}
use Rattle.settlement.proofs.sharing.cut.Goals as goal

pub loop-least-init : goal.loop-least-init
loop-least-init c =
    let x = c.args in
    let rest = at x.remainders.now in (
      record {
        apart = c.requires.2;
        few = omega (arith, count_past rest x.n x.whole c.requires.4);
        enough = omega (arith, c.requires.1, count_all rest x.n);
      },
      search rules,
    )

pub loop-least-preserved : goal.loop-least-preserved
loop-least-preserved c = (c.narrowed.ensures.0 _ _ c.count_from-count.ensures c.loop-least.invariant.0, search rules)

pub returns : goal.returns
returns c =
    let l = c.loop-least in
    let x = c.args in
    let e : l.low ≡ l.least - 1 = omega (arith, l.invariant.0.apart) in
    record {
      apart = omega (arith, l.invariant.0.apart);
      few = l.invariant.0.few;
      enough = omega (arith, l.invariant.0.enough, ap (count_from (at x.remainders.now) x.n) e);
    }
