use Rattle.std.proofs.Common.{◌≡◌, ◌-◌, length}
use Rattle.lister.specs.declared.blocks.Next.TheVariants.{Again}
use Rattle.lister.proofs.RunTurns.{Going}
use Rattle.lister.proofs.runs.list_runs.Given as goal

abbrev pub invariant-loop-out : goal.invariant-loop-out
invariant-loop-out l =
    Going l.feed l.initial.s.number l.initial.s.book l.initial.s.place l.out l.words l.s.book l.s.number l.s.place × (l.s.next ≡ Again)

abbrev pub decreases-loop-out : goal.decreases-loop-out
decreases-loop-out l = length l.feed - l.s.place
