use Prim.Native.Nat.{ℕ, ◌+◌, ◌≤◌, ◌<◌}
use mathlib.Core.Path.{◌≡◌, sym, ap, ◌∙◌}
use mathlib.Core.List.{List}
use native.Mathlib.Omega.{arith}
use lib.ListN.{length, take, drop, replicate}
use Rattle.std.proofs.lemmas.List.{get_or-take, get_or-drop, length-take}
use Rattle.exact.specs.Rows.{places, at, filled, cells}
use Rattle.exact.proofs.RowLaws.{filled_none, filled_more, filled_take, filled_drop, filled_over, filled_cells}
use Rattle.settlement.proofs.walk.add_shares.Goals as goal

-- before its turn a cell is as it was
at_turn : (f : ℕ → ℕ) (d : List ℕ) (n i : ℕ) → i < n → at (filled f i (take n d)) i ≡ at d i
at_turn f d n i h =
    let e : i + 0 ≡ i = omega arith in
    sym (rw e at (get_or-drop i (filled f i (take n d)) 0 0))
    ∙ ap (λ (l : List ℕ). at l 0) (filled_drop f i (take n d))
    ∙ rw e at (get_or-drop i (take n d) 0 0)
    ∙ get_or-take n d i 0 h

-- a row that is put over another of as many participants
over : (f g : ℕ → ℕ) (n : ℕ) {out : List ℕ} → out ≡ cells g n → filled f n out ≡ cells f n
over f g n o = filled_over f n _ _ (ap (drop n) (o ∙ sym (filled_cells g n)) ∙ filled_drop g n (replicate places 0)) ∙ filled_cells f n

pub loop-i-init : goal.loop-i-init
loop-i-init c = filled_none _ _

pub overflow_add-cents : goal.overflow_add-cents
overflow_add-cents c =
    let x = c.args in
    let l = c.loop-i in
    let turn : l.i < x.n = omega (arith, length-take x.n x.out.now) in
    let e : at l.cents-items l.i ≡ at x.out.now l.i = rw l.invariant (at_turn _ x.out.now x.n l.i turn) in
    omega (arith, e, c.requires.2 l.i turn)

pub loop-i-preserved : goal.loop-i-preserved
loop-i-preserved c =
    let x = c.args in
    let l = c.loop-i in
    let turn : l.i < x.n = omega (arith, length-take x.n x.out.now) in
    rw (l.invariant, at_turn _ x.out.now x.n l.i turn) (filled_more (λ k. at x.out.now k + at x.shares.now k) 0 l.i (take x.n x.out.now) c.loop-i-test.true)

pub returns : goal.returns
returns c =
    let x = c.args in
    let long : x.n ≤ length x.out.now = omega arith in
    let e : c.loop-i.i ≡ x.n = omega (arith, length-take x.n x.out.now) in
    rw (c.loop-i.invariant, e) (filled_take (λ k. at x.out.now k + at x.shares.now k) x.n x.out.now long ∙ over _ _ x.n c.requires.1)
