use Rattle.std.proofs.Common.{◌≡◌, ◌+◌, ◌*◌, ◌≤◌, ◌++◌, length}
use Rattle.text.specs.Numbers.{number_room}
use Rattle.text.proofs.NumberLaws.{spaced_to}
use Rattle.text.proofs.buffers.Buffer.put_numbers.Given as goal

abbrev pub invariant-loop-number : goal.invariant-loop-number
invariant-loop-number g l = (l.self ≡ l.initial.self ++ spaced_to l.before l.number-index) × (length l.self ≤ length l.initial.self + l.number-index * number_room)
