use borrow.Author.Rules.{rules}
use Prim.Native.Nat.{◌-◌}
use mathlib.Core.Path.{◌≡◌}
use native.Mathlib.Omega.{arith}
use Rattle.settlement.proofs.Ranks.{count_mono}
use Rattle.settlement.proofs.sharing.narrowed.Goals as goal

pub returns-in-Equal : goal.returns-in-Equal
returns-in-Equal c =
    let x = c.args in
    let same : x.count ≡ x.leftover = search rules in (
      λ remainders n e b. record {
        apart = omega (arith, c.requires);
        few = omega (arith, e);
        enough = omega (arith, e, count_mono remainders n (x.middle - 1) x.middle (omega arith));
      },
      search rules,
      omega (arith, c.requires),
    )
