-- The quotient, and one more where something is left over.
use mathlib.Core.Path.{◌∙◌, ap}
use Prim.Native.Nat.{ℕ, ◌+◌, ◌*◌}
use native.Mathlib.Omega.{arith}
use Rattle.exact.proofs.Ceiling.{ceil_even, ceil_more}
use Rattle.exact.proofs.division.proportion_up.Goals as goal

pub returns-then-remainder-eq0 : goal.returns-then-remainder-eq0
returns-then-remainder-eq0 c =
    c.proportion-quotient.ensures.0 ∙ ceil_even (c.args.amount * c.args.part) c.args.whole c.requires.some (omega arith)

pub returns-else-remainder-eq0 : goal.returns-else-remainder-eq0
returns-else-remainder-eq0 c =
    ap (λ (q : ℕ). q + 1) c.proportion-quotient.ensures.0 ∙ ceil_more (c.args.amount * c.args.part) c.args.whole c.requires.some (omega arith)
