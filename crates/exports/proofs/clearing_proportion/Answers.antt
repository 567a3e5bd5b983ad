use mathlib.Core.Path.{refl}
use Rattle.exports.proofs.clearing_proportion.Goals as goal

pub returns-then-not-proportional : goal.returns-then-not-proportional
returns-then-not-proportional c = record { quotient = λ h. absurd (c.proportional.ensures.1 c.if-not-proportional.true h); refused = λ no. refl }

pub proportion-requires : goal.proportion-requires
proportion-requires c = c.proportional.ensures.0 c.if-not-proportional.false

pub returns : goal.returns
returns c = record { quotient = λ h. c.proportion.ensures.0; refused = λ no. absurd (no (c.proportional.ensures.0 c.if-not-proportional.false)) }
