-- The examples of books of other limits come out of the definitions by computation.
use mathlib.Core.Path.{refl}
use Rattle.book.specs.examples.Months.{lines_from, state_after}
use Rattle.book.specs.examples.Demonstrations.{Demonstrations}
use Rattle.book.specs.rules.Periods.{zeros, fresh, raised, side_total, holds, leaves, amounted, with_notice, with_receipt, with_settlement, late_pays, with_late_receipt, changed}
use Rattle.book.specs.rules.State.{held_in, held_by, find, arrears_before, earlier_arrears, replaced, removed, added}
use Rattle.book.specs.rules.Purses.{drawn_from, with_drawn, purses_left, periods_after, purses_after}
use Rattle.book.specs.rules.Makings.{made}
use Rattle.book.specs.rules.Refusals.{receivable}
use Rattle.book.specs.rules.Step.{stored, payout_words, acted, accepted, step}
use Rattle.exact.specs.Rows.{sum, largest, table, filled, cells}
use Rattle.exact.specs.Division.{ceil_div}
use Rattle.exact.specs.Energy.{energy_cents}
use Rattle.settlement.specs.Month.{over_tiers}
use Rattle.settlement.specs.Notice.{gives, payable, full_claim}
use Rattle.settlement.specs.Groups.{grouping_allowed, group_sum, outside_sum, shortfall_with_reserve, group_shortfall, outside_tier5, group_retention}
use Rattle.settlement.specs.Claims.{unpaid, set_off, arrears, claim}
use Rattle.settlement.specs.Sharing.{before, rank, leftover_cent, floor_share, remainder, leftover, share_by_weight}
use Rattle.settlement.specs.Tiers.{share, left_for, tier_share, met}
use Rattle.settlement.specs.Rounds.{weight, loss, round, run, spread}
use Rattle.settlement.specs.Settling.{available, revised, scaled_above, scaled_below, deficit, spent, rounds, paid, held}
use Rattle.settlement.specs.Late.{fill, shortage, late_payment}

pub demonstrations : Demonstrations
unfolding lines_from state_after zeros fresh raised side_total holds leaves amounted with_notice with_receipt with_settlement late_pays with_late_receipt changed held_in held_by drawn_from with_drawn purses_left periods_after purses_after made find arrears_before earlier_arrears replaced removed added receivable stored payout_words acted accepted step sum largest table filled cells ceil_div energy_cents over_tiers gives grouping_allowed group_sum outside_sum shortfall_with_reserve group_shortfall outside_tier5 group_retention payable full_claim unpaid set_off arrears claim before rank leftover_cent floor_share remainder leftover share_by_weight share left_for tier_share met weight loss round run spread available revised scaled_above scaled_below deficit spent rounds paid held fill shortage late_payment
demonstrations = record {
  participant_limit = (refl, refl, refl, refl);
  period_limit = (refl, refl, refl, refl);
  n_in_limit = (refl, refl, refl, refl, refl, refl);
  eight = (refl, refl);
  three = refl;
  fourth = refl;
  six_before_seven = refl;
  freed_place = refl;
  four_before_three = (refl, refl, refl);
  field_values = refl;
  one_period = refl;
  eleven_periods = refl;
  month_a_lem = refl;
}
