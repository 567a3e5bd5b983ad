-- Each row is reckoned from the rows before it, by 01's formula for it.
use Prim.Native.Nat.{◌+◌, ◌-◌, min}
use mathlib.Core.Path.{◌≡◌, sym, ◌∙◌}
use native.Mathlib.Omega.{arith}
use Rattle.exact.specs.Rows.{at, cells}
use Rattle.exact.proofs.RowLaws.{cells_both, cells_cong, holds, holds_own}
use Rattle.settlement.specs.Month.{month_of_sums, owing_to}
use Rattle.settlement.specs.Notice.{payable, full_claim}
use Rattle.settlement.specs.Claims.{unpaid, set_off, arrears, claim}
use Rattle.settlement.proofs.MonthLaws.{by_bound, to_bound}
use Rattle.settlement.proofs.NoticeLaws.{payable_le}
use Rattle.settlement.proofs.ClaimLaws.{set_off_full}
use Rattle.settlement.proofs.month.MonthSums.claim.Goals as goal

pub over_tiers-owing-requires : goal.over_tiers-owing-requires
over_tiers-owing-requires c =
    let x = c.args in
    let m = month_of_sums x.self.now in
    (c.requires.0.few, λ i h. omega (arith, to_bound m c.requires.0 i h))

pub sums-owing_and_payable-requires : goal.sums-owing_and_payable-requires
sums-owing_and_payable-requires c =
    let m = month_of_sums c.args.self.now in (
      c.requires.0.few,
      λ i h. omega (arith, (holds (owing_to m) _ c.over_tiers-owing.ensures).reads i h, (holds _ _ c.requires.1.row).reads i h, to_bound m c.requires.0 i h, by_bound m c.requires.0 i h, payable_le m c.requires.1.retained c.requires.1.sound i),
    )

pub excesses-full-requires : goal.excesses-full-requires
excesses-full-requires c = c.requires.0.few

pub excesses-unpaid-requires : goal.excesses-unpaid-requires
excesses-unpaid-requires c = c.requires.0.few

pub minima-set_off-requires : goal.minima-set_off-requires
minima-set_off-requires c = c.requires.0.few

pub excesses-arrears-requires : goal.excesses-arrears-requires
excesses-arrears-requires c = c.requires.0.few

pub excesses-claims-requires : goal.excesses-claims-requires
excesses-claims-requires c = c.requires.0.few

pub returns : goal.returns
unfolding full_claim unpaid arrears claim
returns c d =
    let kept = d.retained in
    let x = c.args in
    let n = x.self.now.n in
    let m = month_of_sums x.self.now in
    let r = at x.received in
    let owing = c.over_tiers-owing.ensures in
    let covered = c.sums-owing_and_payable.ensures ∙ cells_both ◌+◌ (holds (owing_to m) n owing) (holds (payable m kept) n d.row) in
    let full : c.excesses-full.result ≡ cells (full_claim m kept) n =
    c.excesses-full.ensures ∙ cells_both ◌-◌ (holds _ n covered) (holds_own x.self.now.by n) in
    let short : c.excesses-unpaid.result ≡ cells (unpaid m kept r) n =
    c.excesses-unpaid.ensures ∙ cells_both ◌-◌ (holds (payable m kept) n d.row) (holds_own x.received n) in
    let off : c.minima-set_off.result ≡ cells (set_off m kept r) n =
    c.minima-set_off.ensures ∙ cells_both min (holds _ n short) (holds _ n full) ∙ cells_cong _ _ n (λ i _. sym (set_off_full m kept r d.sound i)) in
    let behind : c.excesses-arrears.result ≡ cells (arrears m kept r) n =
    c.excesses-arrears.ensures ∙ cells_both ◌-◌ (holds _ n short) (holds _ n off) in
    let claims : c.excesses-claims.result ≡ cells (claim m kept r) n =
    c.excesses-claims.ensures ∙ cells_both ◌-◌ (holds _ n full) (holds _ n off) in
    λ z. record { owing = owing z; claims = claims z; arrears = behind z }
