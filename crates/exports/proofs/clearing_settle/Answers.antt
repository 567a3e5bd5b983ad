use mathlib.Core.Path.{◌≡◌, refl, sym, ◌∙◌}
use mathlib.Core.Bool.{true}
use native.Mathlib.Omega.{arith}
use lib.Dec.{leb}
use borrow.Author.Tests.{le-leb}
use Rattle.exact.specs.Rows.{places}
use Rattle.settlement.specs.Settling.{rounds}
use Rattle.settlement.proofs.Laws.{retention_sound, notice_due, rounds_le}
use Rattle.exports.specs.Slices.{row_of, month_of, grouping_of, retention_of, left, written}
use Rattle.exports.specs.Answers.{settled_of}
use Rattle.exports.proofs.OrderLaws.{settling, bounded}
use Rattle.exports.proofs.clearing_settle.Goals as goal

pub returns-in_default-clause-paid_after : goal.returns-in_default-clause-paid_after
unfolding left
returns-in_default-clause-paid_after c = refl

pub returns-in_default-clause-claims_after : goal.returns-in_default-clause-claims_after
unfolding left
returns-in_default-clause-claims_after c = refl

pub returns-in_default-clause-arrears_after : goal.returns-in_default-clause-arrears_after
unfolding left
returns-in_default-clause-arrears_after c = refl

-- the arguments are in order where there is a payable row, and it is the notice's
pub sums-requires : goal.sums-requires
sums-requires c = (settling (sym c.in-Some.is ∙ c.payable.ensures)).sound

pub front-requires : goal.front-requires
front-requires c = omega (arith, (settling (sym c.in-Some.is ∙ c.payable.ensures)).long)

pub settle-settled-requires : goal.settle-settled-requires
settle-settled-requires c =
    let k = settling (sym c.in-Some.is ∙ c.payable.ensures) in
    rw (c.sums.ensures, k.is) (bounded k.sound, notice_due _ _)

-- the room by hand: with its law named for the search, this gave up at its limits
pub put_cells-requires : goal.put_cells-requires
put_cells-requires c = (omega arith, omega (arith, (settling (sym c.in-Some.is ∙ c.payable.ensures)).roomy, c.min-room.ensures, c.min.ensures))

pub put_cells-requires-2 : goal.put_cells-requires-2
put_cells-requires-2 c = (omega arith, omega (arith, (settling (sym c.in-Some.is ∙ c.payable.ensures)).roomy, c.min-room.ensures, c.min.ensures))

pub put_cells-requires-3 : goal.put_cells-requires-3
put_cells-requires-3 c = (omega arith, omega (arith, (settling (sym c.in-Some.is ∙ c.payable.ensures)).roomy, c.min-room.ensures, c.min.ensures))

-- so the answer is that of the notice's retention, and its rounds are at most 64
pub returns : goal.returns
unfolding left written
returns c =
    let a = c.args in
    let k = settling (sym c.in-Some.is ∙ c.payable.ensures) in
    let checked = rw (c.min-room.ensures, c.min.ensures) at k.passed in
    let answer : c.settle-settled.result ≡ settled_of a.n a.by.now a.to.now a.groups.now a.reserves.now a.received.now =
    (rw (c.sums.ensures, c.front.ensures, k.is) at c.settle-settled.ensures) (notice_due _ _)
    in
    let m = month_of a.n a.by.now a.to.now in
    let retained = retention_of a.n a.by.now a.to.now a.groups.now a.reserves.now in
    let received = row_of a.received.now in
    let few = rounds_le m retained received (retention_sound m (grouping_of a.groups.now a.reserves.now)) in
    let few_rounds : leb c.settle-settled.result.rounds places ≡ true =
    rw answer (le-leb (rounds m retained received) places (omega (arith, few, k.sound.to_side.few)))
    in
    record {
      answer = rw (checked, answer) refl;
      paid_after = c.put_cells.ensures ∙ rw (few_rounds, answer) refl;
      claims_after = c.put_cells-2.ensures ∙ rw (few_rounds, answer) refl;
      arrears_after = c.put_cells-3.ensures ∙ rw (few_rounds, answer) refl;
    }
