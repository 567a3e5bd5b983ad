use mathlib.Core.Path.{◌≡◌}
use Prim.Native.Nat.{◌+◌}
use lib.ListN.{take}
use Rattle.exact.specs.Rows.{at, filled}
use Rattle.settlement.proofs.walk.add_shares.Given as goal

abbrev pub invariant-loop-i : goal.invariant-loop-i
invariant-loop-i l = l.cents-items ≡ filled (λ k. at l.fn.out k + at l.shares k) l.i (take l.n l.fn.out)
