use Prim.Native.Nat.{◌+◌}
use mathlib.Core.Path.{ap, ◌∙◌}
use native.Mathlib.Omega.{arith}
use Rattle.exact.specs.Rows.{at}
use Rattle.exact.proofs.RowLaws.{cells_cong, holds}
use Rattle.settlement.proofs.walk.add_by_weight.Goals as goal

pub add_shares-requires : goal.add_shares-requires
add_shares-requires c =
    (c.requires.0, c.requires.3, λ i h. omega (arith, (holds _ _ c.share_by_weight-shares.ensures).reads i h, c.requires.4 i h))

pub returns : goal.returns
returns c =
    c.add_shares.ensures ∙ cells_cong _ _ _ (λ i h. ap (λ z. at c.args.out.now i + z) ((holds _ _ c.share_by_weight-shares.ensures).reads i h))
