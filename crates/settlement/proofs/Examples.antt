-- The ten starred examples, those of tiers, of retention over groups, of the clause's paragraphs and of shares to the last cent come out by
-- computation.
use mathlib.Core.Path.{refl}
use Rattle.exact.specs.Rows.{sum, largest, table}
use Rattle.exact.specs.Division.{ceil_div}
use Rattle.exact.specs.Energy.{energy_cents}
use Rattle.settlement.specs.Month.{over_tiers}
use Rattle.settlement.specs.Notice.{gives, shortfall, others_tier5, retention, payable, full_claim}
use Rattle.settlement.specs.Groups.{group_sum, outside_sum, shortfall_with_reserve, group_shortfall, outside_tier5, group_retention}
use Rattle.settlement.specs.Claims.{unpaid, set_off, arrears, claim}
use Rattle.settlement.specs.Sharing.{before, rank, leftover_cent, floor_share, remainder, leftover, share_by_weight}
use Rattle.settlement.specs.Tiers.{share, left_for, tier_share, met}
use Rattle.settlement.specs.Rounds.{negatives_at_zero, weight, loss, round, run, spread}
use Rattle.settlement.specs.Settling.{available, revised, scaled_above, scaled_below, deficit, spent, rounds, paid, held}
use Rattle.settlement.specs.Late.{fill, shortage, late_payment}
use Rattle.settlement.specs.Examples.{Examples}
use Rattle.settlement.specs.TierExamples.{TierExamples}
use Rattle.settlement.specs.GroupExamples.{GroupExamples}
use Rattle.settlement.specs.ClauseExamples.{ClauseExamples}
use Rattle.settlement.specs.SharingExamples.{SharingExamples}

pub examples : Examples
unfolding sum largest table ceil_div energy_cents over_tiers gives shortfall others_tier5 retention payable full_claim unpaid set_off arrears claim before rank leftover_cent floor_share remainder leftover share_by_weight share left_for tier_share met weight loss round run spread available revised scaled_above scaled_below deficit spent rounds paid held fill shortage late_payment
examples = record {
  energy_half_up = refl;
  energy_down = refl;
  energy_half_down = refl;
  energy_none = refl;
  notice_a = (refl, refl);
  settled_a = (refl, refl, refl);
  late_a_lem = (refl, refl);
  notice_b = (refl, refl);
  settled_b = (refl, refl, refl, refl);
  two_rounds_lem = (refl, refl);
}

pub tier_examples : TierExamples
unfolding sum largest table ceil_div over_tiers gives shortfall others_tier5 retention payable full_claim unpaid set_off arrears claim before rank leftover_cent floor_share remainder leftover share_by_weight share left_for tier_share met weight loss round run spread available revised scaled_above scaled_below deficit spent paid fill shortage late_payment
tier_examples = record { none_outside_lem = refl; tier_5_alone = refl; in_order = (refl, refl); late_in_order = (refl, refl) }

pub group_examples : GroupExamples
unfolding sum largest table ceil_div over_tiers gives payable group_sum outside_sum shortfall_with_reserve group_shortfall outside_tier5 group_retention
group_examples = record {
  apart_a = (refl, refl);
  apart_b = (refl, refl);
  together = (refl, refl);
  alone = refl;
  reserve_counts = refl;
  reserve_idle = refl;
  sum_zero = refl;
  all_in_one = refl;
  both = (refl, refl);
  whole = refl;
}

pub clause_examples : ClauseExamples
unfolding sum largest table ceil_div over_tiers gives shortfall others_tier5 retention payable full_claim unpaid set_off arrears claim before rank leftover_cent floor_share remainder leftover share_by_weight share left_for tier_share met negatives_at_zero weight loss round run spread available revised scaled_above scaled_below
clause_examples = record {
  scaled_b = (refl, refl);
  revised_b = refl;
  zero_b = refl;
  sums_b = (refl, refl);
  lost_b = refl;
  again_b = refl;
  end_b = (refl, refl);
  zero_two = refl;
  sums_two = (refl, refl);
  lost_two = refl;
  again_two = (refl, refl);
  end_two = (refl, refl);
  lost_rounding = refl;
  again_rounding = refl;
  end_rounding = (refl, refl);
}

pub sharing_examples : SharingExamples
unfolding sum largest table ceil_div over_tiers gives shortfall others_tier5 retention payable full_claim unpaid set_off arrears claim before rank leftover_cent floor_share remainder leftover share_by_weight share left_for tier_share met weight loss round run spread available revised scaled_above scaled_below deficit spent paid held fill shortage late_payment
sharing_examples = record {
  tier_5_a = (refl, refl, refl);
  revised_a = refl;
  last_a_lem = (refl, refl);
  equal = refl;
  unlike = (refl, refl);
  cut = (refl, refl);
  moved = refl;
  without = (refl, refl);
  alone = refl;
  but_one = refl;
  all = refl;
  nothing = refl;
}
