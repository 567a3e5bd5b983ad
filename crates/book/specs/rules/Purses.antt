-- Purses for money paid early, and what a settlement draws from them (02, c).
use Rattle.std.specs.Prelude.{ℕ, ◌+◌, ◌-◌, min, Bool, false, cond, List}
use Rattle.exact.specs.Rows.{at, cells}
use Rattle.book.specs.rules.Kinds.{period_of, is_settle}
use Rattle.book.specs.rules.Periods.{is_noticed, with_rows}
use Rattle.book.specs.rules.State.{State, find, period_at, earlier_arrears, with_periods, with_purses, replaced}
use Rattle.book.specs.declared.entries.Entry.{Entry}
use Rattle.book.specs.declared.Period.{Period}

-- the most cents in a purse
abbrev pub purse_limit : ℕ
purse_limit = 10_000_000_000_000

-- what is drawn from i's purse when period p settles: the smaller of purse and unpaid, or nothing where an older period has
-- arrears of i
unfoldable pub drawn_from : State → Period → ℕ → ℕ
drawn_from s p i = cond (earlier_arrears i p.number s.periods) 0 (min (at s.purses i) (at p.payable i - at p.received i))

-- n participants; the cents drawn, moved into the period as receipts ..
unfoldable pub with_drawn : ℕ → (ℕ → ℕ) → Period → Period
with_drawn n drawn p = with_rows p p.stage p.payable (cells (λ i. at p.received i + drawn i) n) p.paid p.claim p.arrears

-- .. and out of the purses
unfoldable pub purses_left : ℕ → (ℕ → ℕ) → List ℕ → List ℕ
purses_left n drawn purses = cells (λ i. at purses i - drawn i) n

-- the entry settles the period: a settle entry, after notice and before settlement
abbrev pub settles : Entry → Period → Bool
settles e p = cond (is_settle e) (is_noticed p.stage) false

-- the periods and the purses as an entry finds them: before step 1 of a settlement what is drawn has been moved, and no other
-- entry draws
module _ (s : State) (e : Entry) where
  unfoldable pub periods_after : List Period
  periods_after =
      let p = period_at (period_of e) s.periods in
      cond (settles e p) (replaced s (find (period_of e) s.periods) (with_drawn s.n (drawn_from s p) p)).periods s.periods

  unfoldable pub purses_after : List ℕ
  purses_after =
      let p = period_at (period_of e) s.periods in
      cond (settles e p) (purses_left s.n (drawn_from s p) s.purses) s.purses

  abbrev pub after_drawing : State
  after_drawing = with_purses (with_periods s periods_after) purses_after
