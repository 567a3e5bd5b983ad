use Rattle.std.proofs.Common.{◌≡◌, length, length-take-le, refl, sym, arith, rules}
use Rattle.lister.proofs.RunTurns.{returned, few_lines, three_lines, less, ends, goes, stays}
use Rattle.lister.proofs.runs.list_runs.Goals as goal

pub shared_ref_as_front-put_run : goal.shared_ref_as_front-put_run
shared_ref_as_front-put_run c =
    let l = c.loop-out in
    few_lines _ _ _ _ l.invariant.0 l.lines (search rules) (rw (sym c.place.view_is) at c.run.ensures)

pub put_run-requires : goal.put_run-requires
put_run-requires c =
    let l = c.loop-out in
    let wrote = c.place.inside.wrote in
    let after : length c.run.new.lines ≡ 1536 = search rules in
    let few = few_lines _ _ _ _ l.invariant.0 l.lines (search rules) (rw (sym c.place.view_is) at c.run.ensures) in
    let three = three_lines _ _ _ _ l.invariant.0 l.lines (search rules) (rw (sym c.place.view_is) at c.run.ensures) in
    let part = length-take-le wrote c.run.new.lines (omega (arith, few, after)) in
    (omega (arith, c.len.ensures.count, c.loop-out-test.true), omega (arith, part, few), omega (arith, part, three))

pub loop-out-smaller : goal.loop-out-smaller
loop-out-smaller c =
    let l = c.loop-out in
    less _ _ _ _ l.invariant.0 l.lines (search rules) (rw (sym c.place.view_is) at c.run.ensures) c.if-wrote-eq0.false

pub loop-out-preserved : goal.loop-out-preserved
loop-out-preserved c =
    let l = c.loop-out in
    (goes _ _ _ _ l.invariant.0 l.lines (search rules) (rw (sym c.place.view_is) at c.run.ensures) c.if-wrote-eq0.false refl c.put_run.ensures, l.invariant.1)

pub returns-then-wrote-eq0 : goal.returns-then-wrote-eq0
returns-then-wrote-eq0 c =
    let l = c.loop-out in
    returned _ _ l.invariant.1
    (stays _ _ _ _ l.invariant.0 l.lines (search rules) (rw (sym c.place.view_is) at c.run.ensures) c.if-wrote-eq0.true)
    (λ _. ends _ _ _ _ l.invariant.0 l.lines (search rules) (rw (sym c.place.view_is) at c.run.ensures) c.if-wrote-eq0.true)
