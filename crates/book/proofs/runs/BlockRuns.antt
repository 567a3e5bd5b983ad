-- All that is claimed of block runs.
use mathlib.Core.Path.{refl}
use mathlib.Core.Logic.{inr}
use Rattle.book.specs.runs.BlockRuns.{BlockRuns}
use Rattle.book.proofs.runs.RunReplies.{ran_replies, run_paid, begun_paid}
use Rattle.book.proofs.runs.RunDemand3.{run_demand3}

pub block_runs : BlockRuns
block_runs = record { demand3 = run_demand3; each = ran_replies; paid = λ h x. run_paid h.book.n h x (inr refl); all_paid = begun_paid }
