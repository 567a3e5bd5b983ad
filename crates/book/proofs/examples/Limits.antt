-- 01's limits come out of the definitions by computation.
use mathlib.Core.Path.{refl}
use Rattle.book.specs.examples.Months.{state_after}
use Rattle.book.specs.examples.Limits.{FieldLimits, ByteLimits, BookLimits, LimitExamples}
use Rattle.book.specs.layouts.Fields.{value_at, bytes, fields_at, field_bytes}
use Rattle.book.specs.layouts.Entries.{entry_of, bytes_of}
use Rattle.book.specs.layouts.Reading.{entry_at, reading}
use Rattle.book.specs.layouts.Writing.{writing, written}
use Rattle.book.specs.rules.Periods.{zeros, fresh, raised, side_total, holds, leaves, amounted, with_notice, with_receipt, with_settlement, late_pays, with_late_receipt, changed}
use Rattle.book.specs.rules.State.{held_in, held_by, find, arrears_before, earlier_arrears, replaced, removed, added}
use Rattle.book.specs.rules.Purses.{drawn_from, with_drawn, purses_left, periods_after, purses_after}
use Rattle.book.specs.rules.Makings.{made}
use Rattle.book.specs.rules.Refusals.{receivable}
use Rattle.book.specs.rules.Step.{stored, payout_words, acted, accepted, step}
use Rattle.exact.specs.Rows.{sum, largest, table, filled, cells}
use Rattle.exact.specs.Division.{ceil_div}
use Rattle.exact.specs.Energy.{energy_cents, energy_difference}
use Rattle.settlement.specs.Month.{over_tiers}
use Rattle.settlement.specs.Notice.{gives, payable, full_claim}
use Rattle.settlement.specs.Groups.{grouping_allowed, group_sum, outside_sum, shortfall_with_reserve, group_shortfall, outside_tier5, group_retention}
use Rattle.settlement.specs.Claims.{unpaid, set_off, arrears, claim}
use Rattle.settlement.specs.Sharing.{before, rank, leftover_cent, floor_share, remainder, leftover, share_by_weight}
use Rattle.settlement.specs.Tiers.{share, left_for, tier_share, met}
use Rattle.settlement.specs.Rounds.{weight, loss, round, run, spread}
use Rattle.settlement.specs.Settling.{available, revised, scaled_above, scaled_below, deficit, spent, rounds, paid, held}
use Rattle.settlement.specs.Late.{fill, shortage, late_payment}

field_limits : FieldLimits
unfolding state_after zeros fresh raised side_total leaves amounted with_notice with_receipt changed periods_after purses_after made find arrears_before earlier_arrears replaced added receivable stored payout_words acted accepted step sum largest table filled cells ceil_div energy_cents energy_difference over_tiers gives grouping_allowed group_sum outside_sum shortfall_with_reserve group_shortfall outside_tier5 group_retention payable full_claim
field_limits = record {
  participant_energy = refl;
  participant_amount = refl;
  participant_receipt = refl;
  side_energy = refl;
  side_amount = refl;
  tier_owing_by = refl;
  first_tier_owing_to = refl;
  last_tier_owing_to = refl;
  quantity = refl;
  price = refl;
  quantity_and_price = refl;
  most_energy_cents = refl;
  least_cents_amount = refl;
  most_cents_amount = refl;
  least_cents_receipt = refl;
  most_cents_receipt = refl;
  participant_purse = refl;
  least_cents_purse = refl;
  most_cents_purse = refl;
  participant_washup = refl;
  side_washup = refl;
  old_quantity = refl;
  new_quantity = refl;
  price_washup = refl;
}

byte_limits : ByteLimits
unfolding value_at bytes fields_at field_bytes entry_of bytes_of entry_at reading writing written
byte_limits = record {
  opening = record { read = refl; read_short = refl; wrote = refl; wrote_bytes = refl; no_room = refl; no_room_bytes = refl };
  energy = record { read = refl; read_short = refl; wrote = refl; wrote_bytes = refl; no_room = refl; no_room_bytes = refl };
  amount = record { read = refl; read_short = refl; wrote = refl; wrote_bytes = refl; no_room = refl; no_room_bytes = refl };
  notice = record { read = refl; read_short = refl; wrote = refl; wrote_bytes = refl; no_room = refl; no_room_bytes = refl };
  receipt = record { read = refl; read_short = refl; wrote = refl; wrote_bytes = refl; no_room = refl; no_room_bytes = refl };
  settle = record { read = refl; read_short = refl; wrote = refl; wrote_bytes = refl; no_room = refl; no_room_bytes = refl };
  purse = record { read = refl; read_short = refl; wrote = refl; wrote_bytes = refl; no_room = refl; no_room_bytes = refl };
  washup = record { read = refl; read_short = refl; wrote = refl; wrote_bytes = refl; no_room = refl; no_room_bytes = refl };
  washup_order = record { read = refl; read_short = refl; wrote = refl; wrote_bytes = refl; no_room = refl; no_room_bytes = refl };
  no_byte = refl;
  last_place = refl;
  at_end = refl;
  first_kind = (refl, refl);
  last_kind = (refl, refl);
  read_outside = refl;
  read_outside_short = refl;
  write_outside = (refl, refl);
  write_outside_short = refl;
}

book_limits : BookLimits
unfolding state_after zeros fresh raised side_total holds leaves amounted with_notice with_receipt with_settlement late_pays with_late_receipt changed held_in held_by drawn_from with_drawn purses_left periods_after purses_after made find arrears_before earlier_arrears replaced removed added receivable stored payout_words acted accepted step sum largest table filled cells ceil_div energy_cents energy_difference over_tiers gives grouping_allowed group_sum outside_sum shortfall_with_reserve group_shortfall outside_tier5 group_retention payable full_claim unpaid set_off arrears claim before rank leftover_cent floor_share remainder leftover share_by_weight share left_for tier_share met weight loss round run spread available revised scaled_above scaled_below deficit spent rounds paid held fill shortage late_payment
book_limits = record {
  least_n = (refl, refl);
  most_n = (refl, refl);
  most_group = (refl, refl);
  groups_past_n = refl;
  first_reserve = (refl, refl);
  last_reserve_lem = (refl, refl);
  four_before_three = (refl, refl);
  refused_book = refl;
  answers_four = refl;
  words_1 = (refl, refl);
  words_64 = (refl, refl);
  first_period = refl;
  next_period = refl;
  last_period = refl;
  twelve_periods = (refl, refl);
  freed_place = refl;
  not_opened = refl;
  has_left = refl;
  before_notice = refl;
  after_notice = refl;
  once_settled = refl;
  equal_sides = refl;
  less_owing_to = refl;
  more_owing_to = refl;
  total_owing_by = refl;
  energy_owing_by = (refl, refl);
  half_owing_by = (refl, refl);
  total_owing_to = refl;
  energy_owing_to = (refl, refl);
  half_owing_to = (refl, refl);
  washup_owing_by = (refl, refl);
  washup_owing_to = (refl, refl);
  washup_none = refl;
  both_full = refl;
  participant_energy = refl;
  participant_amount = refl;
  participant_receipt = refl;
  participant_purse = refl;
  participant_washup = refl;
  payable = refl;
  payable_left = refl;
  arrears = refl;
  arrears_left = refl;
  nothing_payable = refl;
  earlier_arrears_lem = (refl, refl);
  full_purse = refl;
  past_purse = refl;
  drawn_purse = refl;
  earlier_there = (refl, refl);
  most_below_lem = refl;
  least_below = refl;
  number_zero = (refl, refl, refl);
  largest_numbers = refl;
  no_wrap = refl;
}

pub limit_examples : LimitExamples
limit_examples = record { fields = field_limits; bytes = byte_limits; sizes = book_limits }
