use Prim.Native.Nat.{◌+◌}
use native.Mathlib.Omega.{arith}
use Rattle.std.proofs.lemmas.List.{get_or-take, length-take}
use Rattle.exact.specs.Rows.{at}
use Rattle.exact.proofs.RowLaws.{sum_none, sum_more, sum_part}
use Rattle.exports.proofs.slices.side_total.Goals as goal

pub loop-cents-init : goal.loop-cents-init
loop-cents-init c = omega (arith, sum_none (at c.args.s.now))

pub returns-then-room-cents : goal.returns-then-room-cents
returns-then-room-cents c =
    let x = c.args in
    let f = at x.s.now in
    let i = c.loop-cents.cents-index in
    let within = length-take x.count x.s.now in
    omega (arith, c.if-room-cents.true, get_or-take x.count x.s.now i 0 (omega arith), sum_more f i, sum_part f (i + 1) x.count (omega arith))

pub loop-cents-preserved : goal.loop-cents-preserved
loop-cents-preserved c =
    let x = c.args in
    let i = c.loop-cents.cents-index in
    let within = length-take x.count x.s.now in
    omega (arith, c.if-room-cents.false, get_or-take x.count x.s.now i 0 (omega arith), sum_more (at x.s.now) i)
