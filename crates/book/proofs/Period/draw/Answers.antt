use Prim.Native.Nat.{ℕ, ◌-◌, min}
use mathlib.Core.Path.{◌≡◌, ap, ◌∙◌}
use mathlib.Core.Bool.{true}
use borrow.Author.Rules.{rules}
use mathlib.Core.List.{List}
use native.Mathlib.Omega.{arith}
use Rattle.exact.specs.Rows.{at, cells}
use Rattle.exact.proofs.RowLaws.{cells_at, Holds}
use Rattle.book.specs.rules.Periods.{is_noticed}
use Rattle.book.proofs.rules.Passing.{noticed_stage}
use Rattle.book.proofs.rules.PurseLaws.{moved_row, left_row}
use Rattle.book.proofs.records.Bounds.{payable_bound}
use Rattle.book.proofs.Period.draw.Goals as goal

-- the row of what is drawn
row : (n : ℕ) (drawable payable received unpaid drawn : List ℕ) → unpaid ≡ cells (λ i. at payable i - at received i) n
    → drawn ≡ cells (λ i. min (at drawable i) (at unpaid i)) n → Holds drawn (λ i. min (at drawable i) (at payable i - at received i)) n
row n drawable payable received unpaid drawn u d = record {
  reads = λ i h.
      ap (λ (l : List ℕ). at l i) d ∙ cells_at _ n i h ∙ ap (λ k. min (at drawable i) k) (ap (λ (l : List ℕ). at l i) u ∙ cells_at _ n i h);
}

pub sums-self-requires : goal.sums-self-requires
sums-self-requires c =
    let s = c.args in
    let noticed : is_noticed s.self.now.stage ≡ true = search rules in
    let r = row s.n s.drawable s.self.now.payable s.self.now.received _ _ c.excesses-unpaid.ensures c.minima-drawn.ensures in
    (c.requires.bounded.few, λ i h. let b = payable_bound s.n s.self.now c.requires (noticed_stage s.self.now.stage noticed) i h in omega (arith, r.reads i h, b.0, b.1))

pub returns : goal.returns
returns c =
    let s = c.args in
    let noticed : is_noticed s.self.now.stage ≡ true = search rules in
    let r = row s.n s.drawable s.self.now.payable s.self.now.received _ _ c.excesses-unpaid.ensures c.minima-drawn.ensures in
    rw noticed (moved_row s.n _ _ r s.self.now _ c.sums-self.ensures, left_row s.n _ _ r s.purses.now _ c.excesses.ensures)
