use Rattle.std.proofs.Common.{length, List, ℕ, get_or, sym, ap, ◌∙◌, arith, rules}
use Rattle.lister.specs.Listing.{book_for}
use Rattle.lister.proofs.SessionLaws.{loop_begins, loop_turns, turned, turn_not_written, turn_done, turn_again, left_more, left_few, turn_not_read, turn_read}
use Rattle.lister.proofs.inputs.list_blocks.Goals.{in-Again, in-Read+else-has_failed}
use Rattle.lister.proofs.inputs.list_blocks.Goals as goal

pub loop-done-init : goal.loop-done-init
loop-done-init g c =
    loop_begins c.args.limits _ c.at_first-s.ensures (c.first_book.ensures ∙ ap (λ (l : List ℕ). book_for c.args.limits (get_or l 0 0)) c.bytes.ensures) c.requires

pub returns-then-not-is_written : goal.returns-then-not-is_written
returns-then-not-is_written g c =
    let after = turned c.loop-done.invariant c.bytes-in-loop-done.ensures c.bytes-in-loop-done-2.ensures c.has_ended.ensures c.list_block-s.ensures c.write_out.ensures in
    rw c.new.ensures (turn_not_written after (search rules))

pub read_more-requires : goal.read_more-requires
read_more-requires g c =
    let after = turned c.loop-done.invariant c.bytes-in-loop-done.ensures c.bytes-in-loop-done-2.ensures c.has_ended.ensures c.list_block-s.ensures c.write_out.ensures in
    let written = sym c.is_written.ensures ∙ c.if-not-is_written.false in
    (omega arith, (left_more after c.in-Read.is written, omega (arith, ap length c.drop_front.ensures, left_few after c.in-Read.is written)))

pub returns-then-has_failed : goal.returns-then-has_failed
returns-then-has_failed g c =
    let after = turned c.loop-done.invariant c.bytes-in-loop-done.ensures c.bytes-in-loop-done-2.ensures c.has_ended.ensures c.list_block-s.ensures c.write_out.ensures in
    rw c.new-then-has_failed.ensures
    (turn_not_read after c.in-Read.is (search rules) c.drop_front.ensures c.read_more.ensures (search rules))

pub returns-in-Done : goal.returns-in-Done
returns-in-Done g c =
    let after = turned c.loop-done.invariant c.bytes-in-loop-done.ensures c.bytes-in-loop-done-2.ensures c.has_ended.ensures c.list_block-s.ensures c.write_out.ensures in
    rw c.new-in-Done.ensures (rw c.why_ended.ensures (turn_done after c.in-Done.is (search rules)))

pub loop-done-preserved : goal.loop-done-preserved
loop-done-preserved g c =
    let after = turned c.loop-done.invariant c.bytes-in-loop-done.ensures c.bytes-in-loop-done-2.ensures c.has_ended.ensures c.list_block-s.ensures c.write_out.ensures in
    elim c.match-s.branch [
      | in-Again w ↦ rw (w.feed-is, w.s-is, w.input-is) (turn_again after w.in-Again.is (search rules))
      | in-Read+else-has_failed w ↦ rw (w.feed-is, w.s-is, w.input-is)
          (turn_read after w.in-Read.is (search rules) w.drop_front.ensures w.read_more.ensures (search rules))
    ]

pub returns : goal.returns
returns g c = rw c.new-2.ensures (loop_turns c.loop-done.invariant (omega arith))
