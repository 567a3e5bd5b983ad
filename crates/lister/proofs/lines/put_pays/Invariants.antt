use Rattle.std.proofs.Common.{◌≡◌, ◌+◌, ◌*◌, ◌≤◌, ◌++◌, length}
use Rattle.lister.specs.Lines.{pay_lines}
use Rattle.lister.specs.inner.Runs.{pay_room}
use Rattle.lister.proofs.lines.put_pays.Given as goal

abbrev pub invariant-loop-i : goal.invariant-loop-i
invariant-loop-i l = (l.out ≡ l.initial.out ++ pay_lines l.words l.i) × (length l.out ≤ length l.initial.out + l.i * pay_room)
