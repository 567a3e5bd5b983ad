use borrow.Author.Rules.{rules}
use Prim.Native.Nat.{ℕ, ◌≤◌}
use mathlib.Core.Path.{◌≡◌, ◌∙◌}
use mathlib.Core.List.{List}
use native.Mathlib.Omega.{arith}
use Rattle.exact.specs.Rows.{at, sum, cells}
use Rattle.exact.proofs.RowLaws.{sum_term, holds, sum_holds}
use Rattle.settlement.specs.Sharing.{floor_share, remainder, Shareable}
use Rattle.settlement.proofs.SharingLaws.{rest_lt, floors_le, leftover_le, leftover_given, share_given, share_even}
use Rattle.settlement.proofs.sharing.share_by_weight.Goals as goal

-- the shares rounded down come to at most the amount
floors_within : (w : ℕ → ℕ) (amount whole n : ℕ) (cents : List ℕ) → Shareable w amount whole n → cents ≡ cells (floor_share w amount whole) n
    → sum (at cents) n ≤ amount
floors_within w amount whole n cents s e = omega (arith, sum_holds (holds (floor_share w amount whole) n e), floors_le w amount whole n s)

pub total-requires : goal.total-requires
total-requires c = (search rules, omega (arith, floors_within _ _ _ _ _ c.requires.2 c.floor_shares-d.ensures.0))

pub overflow_sub-leftover : goal.overflow_sub-leftover
overflow_sub-leftover c = omega (arith, c.total.ensures, floors_within _ _ _ _ _ c.requires.2 c.floor_shares-d.ensures.0)

pub returns-then-leftover-eq0 : goal.returns-then-leftover-eq0
returns-then-leftover-eq0 c =
    let x = c.args in
    share_even (at x.weights) x.amount x.whole x.n _ _ c.floor_shares-d.ensures.0 c.floor_shares-d.ensures.1 (omega (arith, c.if-leftover-eq0.true, c.total.ensures))

pub cut-least-requires : goal.cut-least-requires
cut-least-requires c =
    let x = c.args in
    let can = c.requires.2 in
    let w = at x.weights in (
      c.requires.0,
      omega (
        arith,
        c.total.ensures,
        leftover_given w x.amount x.whole x.n _ _ c.floor_shares-d.ensures.0 c.floor_shares-d.ensures.1,
        leftover_le w x.amount x.whole x.n can,
      ),
      can.some,
      c.requires.1,
      λ i h. omega (arith, (holds (remainder w x.amount x.whole) x.n c.floor_shares-d.ensures.1).reads i h, rest_lt w x.amount x.whole x.n can i),
    )

pub with_leftover-requires : goal.with_leftover-requires
with_leftover-requires c =
    let x = c.args in
    let d = c.floor_shares-d in
    let within = floors_within _ _ _ _ _ c.requires.2 d.ensures.0 in
    (c.requires.0, c.cut-least.ensures, λ i h. omega (arith, sum_term (at d.result.cents) x.n i h, within, c.requires.1, c.requires.2.within))

pub returns : goal.returns
returns c =
    let x = c.args in
    let t = c.total in
    c.with_leftover.ensures
    ∙ rw t.ensures (share_given (at x.weights) x.amount x.whole x.n _ _ c.floor_shares-d.ensures.0 c.floor_shares-d.ensures.1)
