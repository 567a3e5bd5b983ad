-- The loop goes over the two rows side by side, and has taken as many pairs as it has made turns.
use Rattle.std.proofs.Common.{rules}
use Prim.Native.Nat.{ℕ, ◌<◌}
use mathlib.Core.Path.{◌≡◌, ap, ◌∙◌}
use mathlib.Core.List.{List}
use native.Mathlib.Omega.{arith}
use lib.ListN.{length, take, get_or, length-append}
use Rattle.std.proofs.lemmas.List.{get_or-take, length-take}
use Rattle.std.proofs.lemmas.Slice.Zip.{zip_turn, zip_end}
use Rattle.exact.specs.Rows.{at, cells}
use Rattle.exact.proofs.RowLaws.{cells_zero}
use Rattle.settlement.specs.Groups.{group_count, group_sum}
use Rattle.settlement.proofs.GroupLaws.{group_none, group_step, group_room}
use Rattle.settlement.proofs.groups.group_sums.Goals as goal

-- what a turn takes of the two rows
turned : (a groups : List ℕ) (n i : ℕ) {cents group : ℕ}
    → (i < length (take n a)) × (i < length (take n groups)) × ((d : ℕ) → cents ≡ get_or (take n a) i d) × ((d : ℕ) → group ≡ get_or (take n groups) i d)
    → (i < n) × (cents ≡ at a i) × (group ≡ at groups i)
turned a groups n i t =
    let l : i < n = omega (arith, t.0, length-take n a) in
    (l, t.2 0 ∙ get_or-take n a i 0 l, t.3 0 ∙ get_or-take n groups i 0 l)

pub loop-cents-init : goal.loop-cents-init
loop-cents-init c = cells_zero _ group_count (omega arith) (λ k _. group_none _ _ k)

pub bounds-out-group-in-loop-cents : goal.bounds-out-group-in-loop-cents
bounds-out-group-in-loop-cents c =
    let x = c.args in
    let l = c.loop-cents in
    let t = turned x.a x.groups x.n _ (zip_turn (take x.n x.a) (take x.n x.groups) l.yielded c.into_iter-cents-iterator.result l.cents-iterator c.next.new.self _ (search rules) (search rules) l.yielded_by (c.in-Some.cents, c.in-Some.group) c.in-Some.is c.next.ensures.steps) in
    omega (arith, t.2, c.requires.2 (length l.yielded) t.0)

pub overflow_add-out : goal.overflow_add-out
overflow_add-out c =
    let x = c.args in
    let l = c.loop-cents in
    let t = turned x.a x.groups x.n _ (zip_turn (take x.n x.a) (take x.n x.groups) l.yielded c.into_iter-cents-iterator.result l.cents-iterator c.next.new.self _ (search rules) (search rules) l.yielded_by (c.in-Some.cents, c.in-Some.group) c.in-Some.is c.next.ensures.steps) in
    let i = length l.yielded in
    rw (t.2, t.1) (omega (arith, ap (λ (out : List ℕ). at out (at x.groups i)) l.invariant, c.requires.1, group_room (at x.groups) (at x.a) i (c.requires.2 i t.0) x.n t.0))

pub loop-cents-preserved : goal.loop-cents-preserved
loop-cents-preserved c =
    let x = c.args in
    let l = c.loop-cents in
    let t = turned x.a x.groups x.n _ (zip_turn (take x.n x.a) (take x.n x.groups) l.yielded c.into_iter-cents-iterator.result l.cents-iterator c.next.new.self _ (search rules) (search rules) l.yielded_by (c.in-Some.cents, c.in-Some.group) c.in-Some.is c.next.ensures.steps) in
    rw (length-append, l.invariant, t.2, t.1) (group_step _ _ (length l.yielded) (c.requires.2 (length l.yielded) t.0))

pub returns : goal.returns
returns c =
    let x = c.args in
    let l = c.loop-cents in
    let t = zip_end (take x.n x.a) (take x.n x.groups) l.yielded c.into_iter-cents-iterator.result l.cents-iterator c.next.new.self _ (search rules) (search rules) l.yielded_by c.in-None.is c.next.ensures.steps in
    let whole : length l.yielded ≡ x.n = omega (arith, t, length-take x.n x.a, length-take x.n x.groups) in
    l.invariant ∙ ap (λ (k : ℕ). cells (group_sum (at x.groups) k (at x.a)) group_count) whole
