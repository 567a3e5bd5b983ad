-- 01's listing and the ends of an input come out of the definition by computation.
use Rattle.std.proofs.Common.{refl}
use Rattle.book.specs.rules.Periods.{zeros, fresh, raised, side_total, holds, leaves, amounted, with_notice, with_receipt, with_settlement, late_pays, with_late_receipt, changed}
use Rattle.book.specs.rules.State.{pack, held_in, held_by, find, arrears_before, earlier_arrears, replaced, removed, added}
use Rattle.book.specs.rules.Purses.{drawn_from, with_drawn, purses_left, periods_after, purses_after}
use Rattle.book.specs.rules.Makings.{made}
use Rattle.book.specs.rules.Refusals.{receivable}
use Rattle.book.specs.rules.Step.{stored, payout_words, acted, accepted, step, reply, paid_by}
use Rattle.exact.specs.Rows.{sum, largest, table, filled, cells}
use Rattle.exact.specs.Division.{ceil_div}
use Rattle.exact.specs.Energy.{energy_cents}
use Rattle.settlement.specs.Month.{over_tiers}
use Rattle.settlement.specs.Notice.{gives, payable, full_claim}
use Rattle.settlement.specs.Groups.{grouping_allowed, group_sum, outside_sum, shortfall_with_reserve, group_shortfall, outside_tier5, group_retention}
use Rattle.settlement.specs.Claims.{unpaid, set_off, arrears, claim}
use Rattle.settlement.specs.Sharing.{before, rank, leftover_cent, floor_share, remainder, leftover, share_by_weight}
use Rattle.settlement.specs.Tiers.{share, left_for, tier_share, met}
use Rattle.settlement.specs.Rounds.{weight, loss, round, run, spread}
use Rattle.settlement.specs.Settling.{available, revised, scaled_above, scaled_below, deficit, spent, rounds, paid, held}
use Rattle.settlement.specs.Late.{fill, shortage, late_payment}
use Rattle.book.specs.layouts.Fields.{value_at, fields_at}
use Rattle.book.specs.layouts.Entries.{entry_of}
use Rattle.book.specs.layouts.Reading.{reading, entry_at}
use Rattle.text.specs.Numbers.{digits_of, decimal}
use Rattle.lister.specs.Lines.{entry_line, pay_line, pay_lines}
use Rattle.lister.specs.Listing.{entry_lines, end_line, entries_from, listing_from, listing}
use Rattle.lister.specs.LongerInputs.{unread_from, unread}
use Rattle.lister.specs.Examples.{Examples}

pub examples : Examples
unfolding unread unread_from listing listing_from entries_from entry_lines end_line entry_line pay_line pay_lines digits_of decimal entry_of value_at fields_at reading entry_at paid_by reply pack zeros fresh raised side_total holds leaves amounted with_notice with_receipt with_settlement late_pays with_late_receipt changed held_in held_by drawn_from with_drawn purses_left periods_after purses_after made find arrears_before earlier_arrears replaced removed added receivable stored payout_words acted accepted step sum largest table filled cells ceil_div energy_cents over_tiers gives grouping_allowed group_sum outside_sum shortfall_with_reserve group_shortfall outside_tier5 group_retention payable full_claim unpaid set_off arrears claim before rank leftover_cent floor_share remainder leftover share_by_weight share left_for tier_share met weight loss round run spread available revised scaled_above scaled_below deficit spent rounds paid held fill shortage late_payment
examples = record {
  month_a_lem = refl;
  empty = refl;
  n_alone = refl;
  whole_entry = refl;
  short = refl;
  unknown = refl;
  outside = refl;
  held = refl;
  refused = refl;
  none_unread = (refl, refl, refl);
  part_unread = refl;
  outside_unread = refl;
}
