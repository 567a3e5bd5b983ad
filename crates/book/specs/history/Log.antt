-- The accepted entries of a list, and what is reckoned from them (01, The list of demand 3; 02, c).
use Rattle.std.specs.Prelude.{ℕ, suc, ◌+◌, ◌-◌, min, Bool, true, false, cond, List, [], ◌∷◌, eqb}
use Rattle.exact.specs.Rows.{at, sum}
use Rattle.settlement.specs.Month.{Month}
use Rattle.settlement.specs.Notice as notice
use Rattle.settlement.specs.Groups.{group_retention}
use Rattle.settlement.specs.Claims as step1
use Rattle.settlement.specs.declared.groups.Grouping.{Grouping}
use Rattle.book.specs.rules.Kinds.{period_of, names, is_open, is_amount, is_receipt, is_settle, is_purse, addition, payer_of, receipt_cents, purse_of, purse_cents, cents_in}
use Rattle.book.specs.declared.entries.Entry.{Entry}

-- an accepted entry, and the payout words as it left them
pub record Accepted : Type 0 where
  pub entry : Entry
  pub words : List ℕ

-- the accepted entries, newest first
abbrev pub Log : Type 0
Log = List Accepted

-- c if j is i, else 0
abbrev pub only : ℕ → ℕ → ℕ → ℕ
only j i c = cond (eqb j i) c 0

-- what an entry adds to B_i
abbrev pub adds_by : ℕ → Entry → ℕ
adds_by i e = cond (is_amount e) (cond (eqb (addition e).side 0) (only (addition e).participant i (addition e).cents) 0) 0

-- what an entry adds to O_i,t, tiers counted from 0
abbrev pub adds_to : ℕ → ℕ → Entry → ℕ
adds_to t i e = cond (is_amount e) (cond (eqb (addition e).side 0) 0 (only (addition e).tier (suc t) (only (addition e).participant i (addition e).cents))) 0

-- the cents of a receipt from i
abbrev pub received_from : ℕ → Entry → ℕ
received_from i e = cond (is_receipt e) (only (payer_of e) i (receipt_cents e)) 0

-- the cents that an entry adds to the purse of i
abbrev pub adds_to_purse : ℕ → Entry → ℕ
adds_to_purse i e = cond (is_purse e) (only (purse_of e) i (purse_cents e)) 0

abbrev pub count : Bool → ℕ
count true = 1
count false = 0

-- what the accepted entries of one period come to: its sums, the receipts before its settle entry, what was drawn from purses
-- among them, and the late ones, what each participant was paid, and how often it was opened and settled
pub record Account : Type 0 where
  pub by : ℕ → ℕ
  pub to : ℕ → ℕ → ℕ
  pub before : ℕ → ℕ
  pub late : ℕ → ℕ
  pub paid : ℕ → ℕ
  pub openings : ℕ
  pub settlements : ℕ

unfoldable pub nothing : Account
nothing = record { by = λ i. 0; to = λ t i. 0; before = λ i. 0; late = λ i. 0; paid = λ i. 0; openings = 0; settlements = 0 }

-- one more entry of the period
unfoldable pub entered : Accepted → Account → Account
entered x a = record {
  by = λ i. adds_by i x.entry + a.by i;
  to = λ t i. adds_to t i x.entry + a.to t i;
  before = λ i. cond (eqb a.settlements 0) (received_from i x.entry) 0 + a.before i;
  late = λ i. cond (eqb a.settlements 0) 0 (received_from i x.entry) + a.late i;
  paid = λ i. at x.words i + a.paid i;
  openings = count (is_open x.entry) + a.openings;
  settlements = count (is_settle x.entry) + a.settlements;
}

-- cents drawn from purses, moved into the period: they count among the receipts before its settle entry (02, c)
unfoldable pub moved_in : (ℕ → ℕ) → Account → Account
moved_in drawn a = record {
  by = a.by;
  to = a.to;
  before = λ i. drawn i + a.before i;
  late = a.late;
  paid = a.paid;
  openings = a.openings;
  settlements = a.settlements;
}

-- money received is the cents of all receipts and purse entries
unfoldable pub money_received : Log → ℕ
money_received [] = 0
money_received (x ∷ log) = cents_in x.entry + money_received log

-- money paid is the sum of the first n payout words over all entries
unfoldable pub money_paid : ℕ → Log → ℕ
money_paid n [] = 0
money_paid n (x ∷ log) = sum (at x.words) n + money_paid n log

-- a period of n participants, by its account
module _ (n : ℕ) (a : Account) where
  -- its month: B, O and with them G
  abbrev pub month_in : Month
  month_in = record { n = n; by = a.by; to = a.to }

  -- all receipts of i
  abbrev pub received : ℕ → ℕ
  received i = a.before i + a.late i

  -- held money: its receipts less all that was paid in it
  abbrev pub held_money : ℕ
  held_money = sum received n - sum a.paid n

-- A: the retention of the period, by the groups and reserves that the book was made with (02, a)
abbrev pub retention : ℕ → Grouping → Account → ℕ → ℕ
retention n grouping a = group_retention (month_in n a) grouping

-- what follows from retention, however it was reckoned: `retained a i` is A_i of the period with account a
module _ (n : ℕ) (retained : Account → ℕ → ℕ) (a : Account) where
  -- P and F
  abbrev pub payable : ℕ → ℕ
  payable = notice.payable (month_in n a) (retained a)

  abbrev pub full_claim : ℕ → ℕ
  full_claim = notice.full_claim (month_in n a) (retained a)

  -- unpaid cents, set-off, claims C and the arrears of step 1, with the receipts before the settle entry as received
  abbrev pub unpaid : ℕ → ℕ
  unpaid = step1.unpaid (month_in n a) (retained a) a.before

  abbrev pub set_off : ℕ → ℕ
  set_off = step1.set_off (month_in n a) (retained a) a.before

  abbrev pub claim : ℕ → ℕ
  claim = step1.claim (month_in n a) (retained a) a.before

  abbrev pub arrears_at_settlement : ℕ → ℕ
  arrears_at_settlement = step1.arrears (month_in n a) (retained a) a.before

  -- arrears now: those of step 1, each less that payer's later receipts
  abbrev pub arrears : ℕ → ℕ
  arrears i = arrears_at_settlement i - a.late i

  -- unpaid claims: C_i less what i was paid, over all i
  abbrev pub unpaid_claims : ℕ
  unpaid_claims = sum (λ i. claim i - a.paid i) n

-- what all entries so far come to: the account of every period, and the purse of every participant (02, c)
pub record Ledger : Type 0 where
  pub account : ℕ → Account
  pub purse : ℕ → ℕ

-- one more entry: in the account of the period that it names, or in the purse that it adds to
unfoldable pub with_entry : Accepted → Ledger → Ledger
with_entry x l = record {
  account = λ k. cond (names k x.entry) (entered x (l.account k)) (l.account k);
  purse = λ i. adds_to_purse i x.entry + l.purse i;
}

-- the entries of a list, one after the other
module _ (n : ℕ) (retained : Account → ℕ → ℕ) where
  -- the arrears of i in period k, once that is settled; 0 before
  unfoldable pub arrears_in : Ledger → ℕ → ℕ → ℕ
  arrears_in l i k = cond (eqb (l.account k).settlements 0) 0 (arrears n retained (l.account k) i)

  -- what is drawn from the purse of i when period k settles: the smaller of purse and unpaid, where i has no arrears in a
  -- settled period of a lower number, as in refusal 14 (02, c)
  unfoldable pub draws : Ledger → ℕ → ℕ → ℕ
  draws l k i = cond (eqb (sum (arrears_in l i) k) 0) (min (l.purse i) (unpaid n retained (l.account k) i)) 0

  -- moved from the purses into the period
  unfoldable pub with_draws : ℕ → Ledger → Ledger
  with_draws k l = record {
    account = λ j. cond (eqb j k) (moved_in (draws l k) (l.account j)) (l.account j);
    purse = λ i. l.purse i - draws l k i;
  }

  -- a settle entry draws on the purses before it is entered
  unfoldable pub ledger : Log → Ledger
  ledger [] = record { account = λ k. nothing; purse = λ i. 0 }
  ledger (x ∷ log) = with_entry x (cond (is_settle x.entry) (with_draws (period_of x.entry) (ledger log)) (ledger log))

  -- the account of period k, and the purse of i
  abbrev pub account : ℕ → Log → Account
  account k log = (ledger log).account k

  abbrev pub purse : ℕ → Log → ℕ
  purse i log = (ledger log).purse i
