-- The examples of purses come out of the definitions by computation.
use mathlib.Core.Path.{refl}
use Rattle.book.specs.examples.Months.{lines_from, state_after}
use Rattle.book.specs.examples.Purses.{PurseExamples}
use Rattle.book.specs.history.Log.{nothing, entered, moved_in, with_entry, arrears_in, draws, with_draws, ledger, money_received, money_paid}
use Rattle.book.specs.history.Demand3.{held_over}
use Rattle.book.specs.rules.Periods.{zeros, fresh, raised, side_total, holds, leaves, amounted, with_notice, with_receipt, with_settlement, late_pays, with_late_receipt, changed}
use Rattle.book.specs.rules.State.{held_in, held_by, find, arrears_before, earlier_arrears, replaced, removed, added}
use Rattle.book.specs.rules.Purses.{drawn_from, with_drawn, purses_left, periods_after, purses_after}
use Rattle.book.specs.rules.Makings.{made}
use Rattle.book.specs.rules.Refusals.{receivable}
use Rattle.book.specs.rules.Step.{stored, payout_words, acted, accepted, step}
use Rattle.exact.specs.Rows.{sum, largest, table, filled, cells}
use Rattle.exact.specs.Division.{ceil_div}
use Rattle.exact.specs.Energy.{energy_cents}
use Rattle.settlement.specs.Month.{over_tiers}
use Rattle.settlement.specs.Notice.{gives, payable, full_claim}
use Rattle.settlement.specs.Groups.{grouping_allowed, group_sum, outside_sum, shortfall_with_reserve, group_shortfall, outside_tier5, group_retention}
use Rattle.settlement.specs.Claims.{unpaid, set_off, arrears, claim}
use Rattle.settlement.specs.Sharing.{before, rank, leftover_cent, floor_share, remainder, leftover, share_by_weight}
use Rattle.settlement.specs.Tiers.{share, left_for, tier_share, met}
use Rattle.settlement.specs.Rounds.{weight, loss, round, run, spread}
use Rattle.settlement.specs.Settling.{available, revised, scaled_above, scaled_below, deficit, spent, rounds, paid, held}
use Rattle.settlement.specs.Late.{fill, shortage, late_payment}

pub purse_examples : PurseExamples
unfolding lines_from state_after zeros fresh raised side_total holds leaves amounted with_notice with_receipt with_settlement late_pays with_late_receipt changed held_in held_by drawn_from with_drawn purses_left periods_after purses_after made find arrears_before earlier_arrears replaced removed added receivable stored payout_words acted accepted step sum largest table filled cells ceil_div energy_cents over_tiers gives grouping_allowed group_sum outside_sum shortfall_with_reserve group_shortfall outside_tier5 group_retention payable full_claim unpaid set_off arrears claim before rank leftover_cent floor_share remainder leftover share_by_weight share left_for tier_share met weight loss round run spread available revised scaled_above scaled_below deficit spent rounds paid held fill shortage late_payment nothing entered moved_in with_entry arrears_in draws with_draws ledger money_received money_paid held_over
purse_examples = record {
  part = refl;
  all = refl;
  more = refl;
  more_left = refl;
  two = refl;
  barred = refl;
  other_not_barred = refl;
  paid_up = refl;
  none_open = refl;
  not_at_notice = refl;
  not_refused = refl;
  not_settled_twice = refl;
  not_payable = refl;
  four_before_three = refl;
  five_before_three = refl;
  three_before_twelve = refl;
  three_before_fifteen = refl;
  no_participant = refl;
  drawn_first = refl;
  drawn_second = refl;
  purse_then = refl;
  received_once = refl;
  paid_out = refl;
  none_held = refl;
  barred_third = refl;
  drawn_oldest = refl;
  purse_left = refl;
}
