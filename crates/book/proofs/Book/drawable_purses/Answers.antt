use Prim.Native.Nat.{ℕ}
use mathlib.Core.Path.{◌≡◌, refl, ap, ◌∙◌}
use mathlib.Core.Bool.{cond}
use mathlib.Core.List.{List}
use borrow.Author.Rules.{rules}
use native.Mathlib.Omega.{arith}
use Rattle.exact.specs.Rows.{at}
use Rattle.exact.proofs.Cases.{cases}
use Rattle.exact.proofs.RowLaws.{sum_term, filled_cells, cells_at}
use Rattle.book.specs.rules.State.{view, earlier_arrears}
use Rattle.book.specs.rules.Insides.{record_of}
use Rattle.book.proofs.rules.LimitLaws.{many_places}
use Rattle.book.proofs.records.Bounds.{purses_bound}
use Rattle.book.proofs.Book.drawable_purses.Goals as goal

pub total-requires : goal.total-requires
total-requires c =
    let b = record_of c.self.inside in
    (many_places c.self.invariant.fit, omega (arith, purses_bound (view b) c.self.invariant.fit, many_places c.self.invariant.fit))

pub returns-then-total-eq0 : goal.returns-then-total-eq0
returns-then-total-eq0 c =
    rw (← c.self.view_is) λ i h.
    let b = record_of c.self.inside in
    let none : at b.purses i ≡ 0 = omega (arith, c.total.ensures, c.if-total-eq0.true, sum_term (at b.purses) b.n i h) in
    rw none (cases (λ z. 0 ≡ z) (earlier_arrears i c.args.number (view b).periods) (λ _. refl) (λ _. refl))

pub returns : goal.returns
returns c =
    rw (← c.self.view_is) λ i h.
    let b = record_of c.self.inside in
    let left : ℕ → ℕ = λ k. cond (earlier_arrears k c.args.number (view b).periods) 0 (at b.purses k) in
    ap (λ (l : List ℕ). at l i) (c.cells.ensures left (λ k r l p. search rules)) ∙ ap (λ (l : List ℕ). at l i) (filled_cells left b.n) ∙ cells_at left b.n i h
