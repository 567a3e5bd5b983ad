-- A book whose limits are not below those of another pays the same (02, f).
use Rattle.std.specs.Prelude.{◌≡◌, List, map, ℕ}
use Rattle.settlement.specs.declared.groups.Grouping.{Grouping}
use Rattle.book.specs.rules.Limits.{market, demonstration, UpTo}
use Rattle.book.specs.rules.State.{pack}
use Rattle.book.specs.rules.Makings.{made, Agree}
use Rattle.book.specs.rules.Refusals.{Input}
use Rattle.book.specs.rules.Step.{Reply, replies}
use Rattle.book.specs.rules.Valid.{All}
use Rattle.book.specs.declared.limits.Limits.{Limits}
use Rattle.book.specs.declared.makings.Making.{Making}

-- the program's replies to a list of entries, with any payout words lent, from a book just made
abbrev pub replies_from : Making → List Input → List Reply
replies_from m inputs = replies (pack (made m).state) inputs

-- every entry is accepted
abbrev pub AllAccepted : List Reply → Type 0
AllAccepted l = All (λ (r : Reply). r.answer ≡ 0) l

-- the payout words, entry by entry
abbrev pub payouts : List Reply → List (List ℕ)
payouts l = map (λ (r : Reply). r.words) l

-- b accepts the list throughout, with the payouts of a
pub record PaysAlike (a b : Making) (inputs : List Input) : Type 0 where
  pub accepted : AllAccepted (replies_from b inputs)
  pub same : payouts (replies_from b inputs) ≡ payouts (replies_from a inputs)

-- a making of these participants in their groups, with limits
abbrev pub limited_to : Limits → ℕ → Grouping → Making
limited_to limits n grouping = record { n = n; grouping = grouping; limits = limits }

-- b pays alike for every list that a accepts throughout, where b has the same n, groups and reserves, and limits that are not
-- below those of a, and up to the market's; a demonstration book and a market book are such a pair
pub record SamePayouts : Type 0 where
  pub any : (a b : Making) → Agree a b → UpTo b.limits a.limits → UpTo market b.limits
      → (inputs : List Input) → AllAccepted (replies_from a inputs) → PaysAlike a b inputs
  pub demonstrated : (n : ℕ) (grouping : Grouping) (inputs : List Input)
      → let a = limited_to demonstration n grouping in
      AllAccepted (replies_from a inputs) → PaysAlike a (limited_to market n grouping) inputs
