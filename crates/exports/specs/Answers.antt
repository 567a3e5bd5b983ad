-- What settlement reckons of the month in slices, and the answers to arguments that are not in order.
use Rattle.std.specs.Prelude.{ℕ, ◌-◌, ◌^◌, List}
use Rattle.settlement.specs.Groups.{noticed}
use Rattle.settlement.specs.Settling.{scaled_amounts, settled}
use Rattle.settlement.specs.declared.noticing.Noticed.{Noticed}
use Rattle.settlement.specs.declared.scaling.Scaled.{Scaled}
use Rattle.settlement.specs.declared.settling.Settled.{Settled}
use Rattle.exports.specs.Slices.{row_of, month_of, grouping_of, retention_of}

-- the answer of a settlement to arguments that are not in order: more rounds than 64 participants can have
abbrev pub refused : ℕ
refused = 65

-- the answer of a proportion to them: the largest word, and a quotient is at most its amount, below 2 ^ 44
abbrev pub no_quotient : ℕ
no_quotient = 2 ^ 64 - 1

module _ (n : ℕ) (by to groups reserves : List ℕ) where
  abbrev pub notice_of : Noticed
  notice_of = noticed (month_of n by to) (grouping_of groups reserves)

  module _ (received : List ℕ) where
    abbrev pub scaled_of : Scaled
    scaled_of = scaled_amounts (month_of n by to) (retention_of n by to groups reserves) (row_of received)

    abbrev pub settled_of : Settled
    settled_of = settled (month_of n by to) (retention_of n by to groups reserves) (row_of received)
