-- Demand 3: one claim about a whole list of entries, from a book just made (01, The list of demand 3; 02, c, f and g).
use Rattle.std.specs.Prelude.{ℕ, ◌+◌, ◌-◌, ◌≤◌, ◌<◌, ◌≡◌, true, cond, ◌⊎◌, List, [], ◌∷◌, eqb}
use Rattle.exact.specs.Rows.{sum}
use Rattle.settlement.specs.Month.{tiers}
use Rattle.settlement.specs.Late.{fill, tiers_of, shortage}
use Rattle.book.specs.rules.Kinds.{period_of, names, is_receipt, is_settle}
use Rattle.book.specs.rules.State.{pack, cents_held, numbers_in}
use Rattle.book.specs.rules.Makings.{made}
use Rattle.book.specs.rules.Refusals.{Input}
use Rattle.book.specs.rules.Step.{reply}
use Rattle.book.specs.rules.Valid.{All, Valid}
use Rattle.book.specs.history.Log.{Log, Account, money_received, money_paid, retention, payable, full_claim, set_off, claim, arrears_at_settlement, arrears, received, unpaid_claims, held_money, ledger, draws}
use Rattle.book.specs.history.Log as history
use Rattle.book.specs.declared.makings.Making.{Making}
use Rattle.book.specs.declared.Book.{Book}

-- the program's book, and the log of the entries that were answered 0
pub record History : Type 0 where
  pub book : Book
  pub log : Log

-- a book just made
unfoldable pub begun : Making → History
begun m = record { book = pack (made m).state; log = [] }

-- one entry, applied to the book that the one before it handed back
unfoldable pub next : History → Input → History
next h x = record {
  book = (reply h.book x).book;
  log = cond (eqb (reply h.book x).answer 0) (record { entry = x.entry; words = (reply h.book x).words } ∷ h.log) h.log;
}

unfoldable pub after : History → List Input → History
after h [] = h
after h (x ∷ inputs) = after (next h x) inputs

-- a number is in a list of numbers
abbrev pub Has : ℕ → List ℕ → Type 0
Has k [] = ⊥
Has k (j ∷ l) = (j ≡ k) ⊎ Has k l

-- each number is below those after it, so that none is there twice
abbrev pub Rising : List ℕ → Type 0
Rising [] = Unit {0}
Rising (k ∷ l) = All (λ j. k < j) l × Rising l

-- n participants; `retained a i` is A_i of the period with account a, and how it was reckoned is not looked at
module _ (n : ℕ) (retained : Account → ℕ → ℕ) where
  -- the account of period k, and the purse of i, by the log
  abbrev account : ℕ → Log → Account
  account = history.account n retained

  abbrev purse : ℕ → Log → ℕ
  purse = history.purse n retained

  -- held money of the periods of these numbers
  unfoldable pub held_over : Log → List ℕ → ℕ
  held_over log [] = 0
  held_over log (k ∷ l) = held_money n (account k log) + held_over log l

  -- money held: that of the periods of these numbers, and the purses
  abbrev pub money_held : Log → List ℕ → ℕ
  money_held log l = held_over log l + sum (λ i. purse i log) n

  -- a period is opened by an open entry that names it, and settled by a settle entry
  abbrev pub WasOpened : ℕ → Log → Type 0
  WasOpened k log = 0 < (account k log).openings

  abbrev pub WasSettled : ℕ → Log → Type 0
  WasSettled k log = 0 < (account k log).settlements

  -- a late receipt came on it, one that follows its settle entry; a receipt has a cent or more
  abbrev pub HadLateReceipt : ℕ → Log → Type 0
  HadLateReceipt k log = 0 < sum (account k log).late n

  abbrev pub WithoutArrears : ℕ → Log → Type 0
  WithoutArrears k log = (i : ℕ) → i < n → arrears n retained (account k log) i ≡ 0

  -- every claim of the period is paid in full
  abbrev pub PaidInFull : ℕ → Log → Type 0
  PaidInFull k log = (i : ℕ) → i < n → (account k log).paid i ≡ claim n retained (account k log) i

  -- between two accounts of a period: where i has more in tier t, nobody has a shortage in a tier before t
  abbrev pub TiersInOrder : Account → Account → Type 0
  TiersInOrder a b =
      (t i : ℕ) → t < tiers → i < n → fill (tiers_of b.to i) (a.paid i) t < fill (tiers_of b.to i) (b.paid i) t
      → (s j : ℕ) → s < t → j < n → shortage b.to (claim n retained b) b.paid s j ≡ 0

  -- tiers are met in order by every late receipt, one that follows its period's settle entry
  abbrev pub LateInOrder : Log → Type 0
  LateInOrder [] = Unit {0}
  LateInOrder (x ∷ log) =
      ((k : ℕ) → names k x.entry ≡ true → is_receipt x.entry ≡ true → WasSettled k log → TiersInOrder (account k log) (account k (x ∷ log)))
      × LateInOrder log

  -- every settle entry drew from each purse no more than was there, so that no purse is cut off at 0, and with the receipts
  -- before it no more than is payable, so that what was unpaid is not cut off either
  abbrev pub DrawnWithin : Log → Type 0
  DrawnWithin [] = Unit {0}
  DrawnWithin (x ∷ log) =
      (is_settle x.entry ≡ true → (i : ℕ) → i < n
      → let k = period_of x.entry in
      let drawn = draws n retained (ledger n retained log) k i in
      (drawn ≤ purse i log) × ((account k log).before i + drawn ≤ payable n retained (account k log) i))
      × DrawnWithin log

  -- no difference above is cut off at 0, for participant i of a settled period
  pub record NothingCutOff (a : Account) (i : ℕ) : Type 0 where
    pub received_le : a.before i ≤ payable n retained a i
    pub set_off_le : set_off n retained a i ≤ full_claim n retained a i
    pub late_le : a.late i ≤ arrears_at_settlement n retained a i
    pub paid_le : a.paid i ≤ claim n retained a i

  -- what holds after a list
  pub record Clauses (h : History) : Type 0 where
    -- the book is one that the program's functions take
    pub valid : Valid h.book
    -- money received is money paid and money held, in periods and purses; the book's cents held are the money held
    pub cents : money_received h.log ≡ money_paid n h.log + money_held h.log (numbers_in h.book)
    pub listed : cents_held h.book ≡ money_held h.log (numbers_in h.book)
    -- a settled period in the book: unpaid claims are arrears and its held money, and that is at most n − 1 cents, and 0 once a late
    -- receipt came (02, g)
    pub claims : (k : ℕ) → Has k (numbers_in h.book) → WasSettled k h.log
        → unpaid_claims n retained (account k h.log) ≡ sum (arrears n retained (account k h.log)) n + held_money n (account k h.log)
    pub held_bound : (k : ℕ) → Has k (numbers_in h.book) → WasSettled k h.log → held_money n (account k h.log) ≤ n - 1
    pub late_held : (k : ℕ) → Has k (numbers_in h.book) → WasSettled k h.log → HadLateReceipt k h.log → held_money n (account k h.log) ≡ 0
    -- an opened period has left the book exactly when it is settled and has no arrears; its claims are then paid in full
    pub left : (k : ℕ) → WasOpened k h.log → (Has k (numbers_in h.book) → ⊥) → WasSettled k h.log × WithoutArrears k h.log
    pub leaves : (k : ℕ) → WasOpened k h.log → WasSettled k h.log → WithoutArrears k h.log → Has k (numbers_in h.book) → ⊥
    pub paid_in_full : (k : ℕ) → WasOpened k h.log → (Has k (numbers_in h.book) → ⊥) → PaidInFull k h.log
    -- a period in the book was opened; none is there twice, and none was opened or settled twice
    pub present : (k : ℕ) → Has k (numbers_in h.book) → WasOpened k h.log
    pub rising : Rising (numbers_in h.book)
    pub once : (k : ℕ) → ((account k h.log).openings ≤ 1) × ((account k h.log).settlements ≤ 1)
    -- no late receipt paid a later tier while a claim in an earlier one stayed unpaid
    pub order : LateInOrder h.log
    -- no purse is cut off at 0: what was drawn is within the purse, and within what was unpaid
    pub drawn_within : DrawnWithin h.log
    -- no difference is cut off, also not in periods that have left
    pub nothing_cut_off : (k : ℕ) → WasSettled k h.log → (i : ℕ) → i < n → NothingCutOff (account k h.log) i
    pub paid_within : (k : ℕ) → sum (account k h.log).paid n ≤ sum (received n (account k h.log)) n

-- a book made with anything, of any limits, and any list of entries with any payout words; n, groups and reserves are those it was
-- made with
abbrev pub Demand3 : Type 0
Demand3 = (m : Making) (inputs : List Input) → Clauses m.n (retention m.n m.grouping) (after (begun m) inputs)
