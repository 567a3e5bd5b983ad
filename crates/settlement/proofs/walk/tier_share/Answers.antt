use Prim.Native.Nat.{ℕ, ◌+◌, ◌≤◌, ◌<◌}
use mathlib.Core.Path.{◌≡◌, sym, ap, ◌∙◌}
use native.Mathlib.Omega.{arith}
use Rattle.exact.specs.Rows.{at, sum}
use Rattle.exact.proofs.RowLaws.{cells_cong}
use Rattle.settlement.specs.Sharing.{share_by_weight}
use Rattle.settlement.specs.Tiers.{share}
use Rattle.settlement.proofs.TierLaws.{share_met, share_unmet, share_nothing, unmet_shareable}
use Rattle.settlement.proofs.walk.tier_share.Goals as goal

module _ (n : ℕ) (f : ℕ → ℕ) {whole left : ℕ} (w : whole ≡ sum f n) where
  -- the shares of a tier that can be met, and of one that cannot
  met : whole ≤ left → (i : ℕ) → f i ≡ share n f left i
  met h i = sym (share_met n f left (rw w at h) i)

  unmet : left < whole → (i : ℕ) → share_by_weight f left whole n i ≡ share n f left i
  unmet h i = rw w (sym (share_unmet n f left (rw w at h) i))

pub add_shares-requires : goal.add_shares-requires
add_shares-requires c =
    (c.requires.0, c.requires.3, λ i h. omega (arith, met _ _ c.requires.1 c.if-whole-left.true i, c.requires.4 i h))

pub add_by_weight-requires : goal.add_by_weight-requires
add_by_weight-requires c =
    (c.requires.0, c.requires.2, rw c.requires.1 (unmet_shareable _ _ _ (rw c.requires.1 at c.if-whole-left.false)), c.requires.3, λ i h. omega (arith, unmet _ _ c.requires.1 c.if-whole-left.false i, c.requires.4 i h))

pub returns-then-whole-left : goal.returns-then-whole-left
returns-then-whole-left c =
    c.add_shares.ensures ∙ cells_cong _ _ _ (λ i _. ap (λ z. at c.args.out.now i + z) (met _ _ c.requires.1 c.if-whole-left.true i))

pub returns-then-left-gt0 : goal.returns-then-left-gt0
returns-then-left-gt0 c =
    c.add_by_weight.ensures ∙ cells_cong _ _ _ (λ i _. ap (λ z. at c.args.out.now i + z) (unmet _ _ c.requires.1 c.if-whole-left.false i))

pub returns-else-left-gt0 : goal.returns-else-left-gt0
returns-else-left-gt0 c =
    let x = c.args in
    c.requires.3 ∙ cells_cong _ _ x.n (λ i h. omega (arith, share_nothing x.n (at x.wanted.now) x.left (omega (arith, c.if-left-gt0.false)) i h))
