-- What a book is made with, and a book just made (01, The month's sums and Refused; 02, a and f).
use Rattle.std.specs.Prelude.{ℕ, ◌≤◌, ◌<◌, ◌≡◌, cond, not, List, [], ◌∷◌, ◌++◌, eqb}
use Rattle.exact.specs.Rows.{places, at, cells}
use Rattle.settlement.specs.Month.{Month}
use Rattle.settlement.specs.Notice.{retention}
use Rattle.settlement.specs.Groups.{group_count, grouping_allowed, group_retention, Separate}
use Rattle.settlement.specs.declared.groups.Grouping.{Grouping}
use Rattle.book.specs.Checks.{Check, on, refusal}
use Rattle.book.specs.rules.Limits.{market, within, UpTo}
use Rattle.book.specs.rules.Periods.{zeros}
use Rattle.book.specs.rules.State.{State}
use Rattle.book.specs.rules.Refusals.{Input}
use Rattle.book.specs.rules.Step.{step}
use Rattle.book.specs.declared.limits.Limits.{Limits}
use Rattle.book.specs.declared.makings.Making.{Making}

-- 4 for a limit that is not 1 to the market's, and for n that is not 1 to the participant limit (01, Refused; 02, f)
abbrev pub limit_checks : ℕ → Limits → List Check
limit_checks n limits =
    on (not (within market.participants limits.participants)) 4
    ∷ on (not (within market.periods limits.periods)) 4
    ∷ on (not (within limits.participants n)) 4
    ∷ []

-- 4; then 3 for a group number of a participant below n, or a reserve, outside its values (02, a)
abbrev pub making_checks : Making → List Check
making_checks m = limit_checks m.n m.limits ++ (on (not (grouping_allowed m.n m.grouping)) 3 ∷ [])

-- the groups that the book keeps: numbers from n on are not looked at, and are 0 there
abbrev pub grouping_of : Making → Grouping
grouping_of m = record { groups = cells (at m.grouping.groups) m.n; reserves = m.grouping.reserves }

-- what the book keeps of its making
abbrev pub kept : Making → Making
kept m = record { n = m.n; grouping = grouping_of m; limits = m.limits }

-- and what a refused one has: no participants, and limits of 0
abbrev pub no_making : Making
no_making = record {
  n = 0;
  grouping = record { groups = zeros places; reserves = zeros group_count };
  limits = record { participants = 0; periods = 0 };
}

-- a book without periods, its purses empty
abbrev pub empty_state : Making → State
empty_state m = record { n = m.n; grouping = m.grouping; limits = m.limits; highest = 0; periods = []; purses = zeros places }

pub record Made : Type 0 where
  pub answer : ℕ
  pub state : State

-- a book just made
unfoldable pub made : Making → Made
made m = record {
  answer = refusal (making_checks m);
  state = empty_state (cond (eqb (refusal (making_checks m)) 0) (kept m) no_making);
}

-- a refused book is the very one of refusal 4, whatever it was refused for, and answers 4 to every entry (01, Refused; 02, a)
pub record RefusedBook : Type 0 where
  pub same : (m : Making) → ((made m).answer ≡ 0 → ⊥) → (made m).state ≡ empty_state no_making
  pub answers : (m : Making) → ((made m).answer ≡ 0 → ⊥) → (x : Input) → (step (made m).state x).answer ≡ 4

-- each participant in a group of its own, and no reserves, in a book of these limits: what 01 has, and the listing makes (02, a
-- and f)
abbrev pub separate : ℕ → Limits → Making
separate n limits = record { n = n; grouping = record { groups = cells (λ i. i) places; reserves = zeros group_count }; limits = limits }

-- where each participant is given a group of its own, and no reserve, the book is made if n and the limits are within theirs, and
-- has 01's retention; the listing makes such a book (02, a)
pub record SeparateBooks : Type 0 where
  pub accepted : (m : Making) → Separate m.n m.grouping → 1 ≤ m.n → m.n ≤ m.limits.participants → 1 ≤ m.limits.periods
      → UpTo market m.limits → (made m).answer ≡ 0
  pub retained : (m : Making) → Separate m.n m.grouping → (made m).answer ≡ 0
      → (month : Month) → month.n ≡ m.n → (i : ℕ) → group_retention month (made m).state.grouping i ≡ retention month i
  pub listed : (n : ℕ) (limits : Limits) → n ≤ places → Separate n (separate n limits).grouping

-- makings that agree in n, in the group numbers of the participants and in the reserves
pub record Agree (a b : Making) : Type 0 where
  pub n : a.n ≡ b.n
  pub groups : (i : ℕ) → i < a.n → at a.grouping.groups i ≡ at b.grouping.groups i
  pub reserves : a.grouping.reserves ≡ b.grouping.reserves

-- make equal books where their limits are the same: group numbers from n on are not looked at
abbrev pub SameBooks : Type 0
SameBooks = (a b : Making) → Agree a b → a.limits ≡ b.limits → made a ≡ made b
