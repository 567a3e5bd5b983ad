use Prim.Native.Nat.{◌-◌}
use mathlib.Core.Path.{◌≡◌}
use lib.ListN.{length}
use Rattle.book.proofs.runs.RunLaws.{Standing}
use Rattle.book.proofs.blocks.run.Given as goal

abbrev pub invariant-loop-lines : goal.invariant-loop-lines
invariant-loop-lines l =
    Standing l.bytes l.initial.b l.from l.initial.words l.initial.lines l.b l.place l.words l.lines l.wrote × (length l.words ≡ length l.initial.words)

abbrev pub decreases-loop-lines : goal.decreases-loop-lines
decreases-loop-lines l = length l.lines - l.wrote
