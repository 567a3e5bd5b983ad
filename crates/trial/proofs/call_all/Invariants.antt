use Rattle.std.proofs.Common.{◌≡◌, ◌≤◌, true, length}
use Rattle.text.specs.declared.streams.Last.TheVariants.{More}
use Rattle.trial.proofs.call_all.Given as goal

abbrev pub invariant-loop-turn : goal.invariant-loop-turn
invariant-loop-turn g l = (l.place ≤ length l.bytes) × (l.input.last ≡ More) × (l.output.all ≡ true)
