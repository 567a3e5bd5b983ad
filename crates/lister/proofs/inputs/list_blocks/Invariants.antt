use Rattle.lister.proofs.SessionLaws.{Looping}
use Rattle.lister.proofs.inputs.list_blocks.Given as goal

abbrev pub invariant-loop-done : goal.invariant-loop-done
invariant-loop-done g l = Looping l.fn.limits l.feed l.work.words l.s l.input l.output l.done
