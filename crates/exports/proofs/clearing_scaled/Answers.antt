use mathlib.Core.Path.{◌≡◌, refl, sym, ◌∙◌}
use native.Mathlib.Omega.{arith}
use Rattle.settlement.proofs.Laws.{notice_due}
use Rattle.exports.specs.Slices.{left, written}
use Rattle.exports.specs.Answers.{scaled_of}
use Rattle.exports.proofs.OrderLaws.{settling, bounded}
use Rattle.exports.proofs.clearing_scaled.Goals as goal

pub returns-in_default-clause-revised_after : goal.returns-in_default-clause-revised_after
unfolding left
returns-in_default-clause-revised_after c = refl

pub returns-in_default-clause-above_after : goal.returns-in_default-clause-above_after
unfolding left
returns-in_default-clause-above_after c = refl

pub returns-in_default-clause-below_after : goal.returns-in_default-clause-below_after
unfolding left
returns-in_default-clause-below_after c = refl

-- the arguments are in order where there is a payable row, and it is the notice's
pub sums-requires : goal.sums-requires
sums-requires c = (settling (sym c.in-Some.is ∙ c.payable.ensures)).sound

pub front-requires : goal.front-requires
front-requires c = omega (arith, (settling (sym c.in-Some.is ∙ c.payable.ensures)).long)

pub scale-scaled-requires : goal.scale-scaled-requires
scale-scaled-requires c =
    let k = settling (sym c.in-Some.is ∙ c.payable.ensures) in
    rw (c.sums.ensures, k.is) (bounded k.sound, notice_due _ _)

-- the room by hand: with its law named for the search, this gave up at its limits
pub put_cells-requires : goal.put_cells-requires
put_cells-requires c = (omega arith, omega (arith, (settling (sym c.in-Some.is ∙ c.payable.ensures)).roomy, c.min-room.ensures, c.min.ensures))

pub put_cells-requires-2 : goal.put_cells-requires-2
put_cells-requires-2 c = (omega arith, omega (arith, (settling (sym c.in-Some.is ∙ c.payable.ensures)).roomy, c.min-room.ensures, c.min.ensures))

pub put_cells-requires-3 : goal.put_cells-requires-3
put_cells-requires-3 c = (omega arith, omega (arith, (settling (sym c.in-Some.is ∙ c.payable.ensures)).roomy, c.min-room.ensures, c.min.ensures))

-- so the answer is that of the notice's retention
pub returns : goal.returns
unfolding left written
returns c =
    let a = c.args in
    let k = settling (sym c.in-Some.is ∙ c.payable.ensures) in
    let checked = rw (c.min-room.ensures, c.min.ensures) at k.passed in
    let answer : c.scale-scaled.result ≡ scaled_of a.n a.by.now a.to.now a.groups.now a.reserves.now a.received.now =
    (rw (c.sums.ensures, c.front.ensures, k.is) at c.scale-scaled.ensures) (notice_due _ _)
    in
    record {
      answer = sym checked;
      revised_after = c.put_cells.ensures ∙ rw answer refl;
      above_after = c.put_cells-2.ensures ∙ rw answer refl;
      below_after = c.put_cells-3.ensures ∙ rw answer refl;
    }
