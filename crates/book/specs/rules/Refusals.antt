-- The book's refusals, 3 to 16, in 01's order (01, Refused, by whoever causes it; 02, c, e and f).
use Rattle.std.specs.Prelude.{ℕ, ◌+◌, ◌-◌, Bool, false, cond, not, List, [], ◌∷◌, eqb, ltb, leb, length}
use Rattle.exact.specs.Rows.{at}
use Rattle.settlement.specs.Month.{side_limit}
use Rattle.book.specs.Checks.{Check, on}
use Rattle.book.specs.layouts.Allowed.{allowed}
use Rattle.book.specs.rules.Kinds.{period_of, is_open, is_purse, is_amount, is_notice, is_receipt, is_settle, addition, misdated, payer_of, receipt_cents, purse_of, purse_cents}
use Rattle.book.specs.rules.Periods.{is_opened, is_noticed, is_settled, side_total}
use Rattle.book.specs.rules.State.{State, find, period_at, earlier_arrears}
use Rattle.book.specs.rules.Purses.{purse_limit}
use Rattle.book.specs.declared.entries.Entry.{Entry}
use Rattle.book.specs.declared.kinds.Addition.{Addition}
use Rattle.book.specs.declared.Stage.{Stage}
use Rattle.book.specs.declared.Period.{Period}

-- an entry, and the payout words that are lent with it
pub record Input : Type 0 where
  pub entry : Entry
  pub words : List ℕ

-- what may still be received from i: P_i not yet received, or i's arrears once settled
unfoldable pub receivable : Period → ℕ → ℕ
receivable p i = cond (is_settled p.stage) (at p.arrears i) (at p.payable i - at p.received i)

-- n participants; cents added to a side of a total: 12, 9 unless before notice, 16 of a washup, 11
abbrev pub side_checks : ℕ → Stage → (total i : ℕ) (misdated : Bool) (cents : ℕ) → List Check
side_checks n stage total i misdated cents =
    on (leb n i) 12
    ∷ on (not (is_opened stage)) 9
    ∷ on misdated 16
    ∷ on (ltb side_limit (total + cents)) 11
    ∷ []

-- kinds 2, 3 and 8, by what the entry adds to the period that it names; 11 is about the side to which this is added
abbrev pub amount_checks : ℕ → Period → Bool → Addition → List Check
amount_checks n p misdated a = side_checks n p.stage (side_total n p a.side) a.participant misdated a.cents

-- kind 4: 9 unless before notice, 10
abbrev pub notice_checks : ℕ → Period → List Check
notice_checks n p = on (not (is_opened p.stage)) 9 ∷ on (not (eqb (side_total n p 0) (side_total n p 1))) 10 ∷ []

-- kind 5: 12, 9 before notice, 14 where `barred` says so, 13
abbrev pub receipt_checks : ℕ → Bool → Period → ℕ → ℕ → List Check
receipt_checks n barred p i cents =
    on (leb n i) 12
    ∷ on (is_opened p.stage) 9
    ∷ on barred 14
    ∷ on (ltb (receivable p i) cents) 13
    ∷ []

-- kind 6: 9 unless noticed and not settled
abbrev pub settle_checks : Period → List Check
settle_checks p = on (not (is_noticed p.stage)) 9 ∷ []

-- whether an earlier settled period has arrears of the payer: 14
abbrev pub barring : Entry → List Period → Bool
barring e ps = cond (is_receipt e) (earlier_arrears (payer_of e) (period_of e) ps) false

abbrev pub period_checks : ℕ → Bool → Entry → Period → List Check
period_checks n barred e p =
    cond (is_amount e) (amount_checks n p (misdated e) (addition e))
    (cond (is_notice e) (notice_checks n p)
    (cond (is_receipt e) (receipt_checks n barred p (payer_of e) (receipt_cents e))
    (cond (is_settle e) (settle_checks p) [])))

-- kind 1: 6, 7 where as many periods as the book's limit are in it (02, f)
abbrev pub open_checks : State → ℕ → List Check
open_checks s k = on (leb k s.highest) 6 ∷ on (leb s.limits.periods (length s.periods)) 7 ∷ []

-- kind 7: 12, 15
abbrev pub purse_checks : State → ℕ → ℕ → List Check
purse_checks s i cents = on (leb s.n i) 12 ∷ on (ltb purse_limit (at s.purses i + cents)) 15 ∷ []

-- the other kinds: 8, then those of the period
abbrev pub named_checks : State → Entry → List Check
named_checks s e =
    on (leb (length s.periods) (find (period_of e) s.periods)) 8
    ∷ period_checks s.n (barring e s.periods) e (period_at (period_of e) s.periods)

abbrev pub kind_checks : State → Entry → List Check
kind_checks s e =
    cond (is_open e) (open_checks s (period_of e))
    (cond (is_purse e) (purse_checks s (purse_of e) (purse_cents e)) (named_checks s e))

-- the book checks 4, 5, 3, then those of the kind
abbrev pub checks : State → Input → List Check
checks s x =
    on (eqb s.n 0) 4
    ∷ on (ltb (length x.words) s.n) 5
    ∷ on (not (allowed x.entry)) 3
    ∷ kind_checks s x.entry
