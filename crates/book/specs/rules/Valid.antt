-- What is true of every book: a book keeps it in its type, so that no function requires it of its caller.
use Rattle.std.specs.Prelude.{ℕ, ◌+◌, ◌-◌, ◌*◌, ◌≤◌, ◌<◌, ◌≡◌, true, false, List, [], ◌∷◌, length}
use Rattle.exact.specs.Rows.{places, at, sum}
use Rattle.settlement.specs.Month.{Bounded, tiers, owing_to}
use Rattle.settlement.specs.Notice.{Due}
use Rattle.settlement.specs.Groups.{grouping_allowed, noticed}
use Rattle.settlement.specs.declared.groups.Grouping.{Grouping}
use Rattle.book.specs.rules.Periods.{month_of, side_total, leaves}
use Rattle.book.specs.rules.Limits.{market, UpTo}
use Rattle.book.specs.rules.State.{State, view, pack}
use Rattle.book.specs.rules.Purses.{purse_limit}
use Rattle.book.specs.declared.Stage.{Stage}
use Rattle.book.specs.declared.Stage.TheVariants.{Opened, Noticed, Settled}
use Rattle.book.specs.declared.Period.{Period}
use Rattle.book.specs.declared.Book.{Book}

-- every element of a list has a property
abbrev pub All : {A : Type 0} → (A → Type 0) → List A → Type 0
All P [] = Unit {0}
All P (x ∷ l) = P x × All P l

module _ (n : ℕ) (p : Period) where
  -- before notice nothing was received or paid
  pub record BeforeNotice : Type 0 where
    pub nothing_received : (i : ℕ) → i < n → at p.received i ≡ 0
    pub nothing_paid_lem : (i : ℕ) → i < n → at p.paid i ≡ 0

  -- from notice to settlement the sides are equal, what is payable comes from a retention of at most the tier 5 part, and
  -- received is at most payable
  pub record BeforeSettlement : Type 0 where
    pub equal : sum (month_of n p).by n ≡ sum (owing_to (month_of n p)) n
    pub due : Due (month_of n p) p.payable
    pub within : (i : ℕ) → i < n → at p.received i ≤ at p.payable i
    pub nothing_paid_lem : (i : ℕ) → i < n → at p.paid i ≡ 0

  -- after settlement claims come to what was received and what is in arrears, and held money is within its bound
  pub record AfterSettlement : Type 0 where
    pub claim_le : (i : ℕ) → i < n → at p.claim i ≤ owing_to (month_of n p) i
    pub paid_le : (i : ℕ) → i < n → at p.paid i ≤ at p.claim i
    pub balance : sum (at p.claim) n ≡ sum (at p.received) n + sum (at p.arrears) n
    pub paid_within : sum (at p.paid) n ≤ sum (at p.received) n
    pub held_bound : sum (at p.received) n ≤ sum (at p.paid) n + (n - 1)

  abbrev pub AtStage : Stage → Type 0
  AtStage Opened = BeforeNotice
  AtStage Noticed = BeforeSettlement
  AtStage Settled = AfterSettlement

  -- the sizes of its rows, each side's total kept and within its bound, and what is true of its stage
  pub record Sound : Type 0 where
    pub totals_size : length p.totals ≡ 2
    pub by_size : length p.by ≡ places
    pub to_size : length p.to ≡ tiers * places
    pub received_size : length p.received ≡ places
    pub arrears_size : length p.arrears ≡ places
    pub kept : (side : ℕ) → side < 2 → at p.totals side ≡ side_total n p side
    pub bounded : Bounded (month_of n p)
    pub at_stage : AtStage p.stage

-- a period in the book is sound and does not leave; from notice to settlement what is payable is what a notice reckons by the
-- book's groups and reserves
pub record InBook (n : ℕ) (grouping : Grouping) (p : Period) : Type 0 where
  pub sound : Sound n p
  pub stays : leaves n p ≡ false
  pub row : p.stage ≡ Noticed → p.payable ≡ (noticed (month_of n p) grouping).payable

-- n and the periods in the book are within the book's limits, whatever these are, up to the market's (02, f)
pub record SoundState (s : State) : Type 0 where
  pub limited : UpTo market s.limits
  pub many : s.n ≤ s.limits.participants
  pub few : length s.periods ≤ s.limits.periods
  pub grouped : grouping_allowed s.n s.grouping ≡ true
  pub each : All (InBook s.n s.grouping) s.periods
  pub purses_size : length s.purses ≡ places
  pub purse_le : (i : ℕ) → i < s.n → at s.purses i ≤ purse_limit

-- the record is that of its state, and that is fit
pub record Valid (b : Book) : Type 0 where
  pub packed : b ≡ pack (view b)
  pub fit : SoundState (view b)
