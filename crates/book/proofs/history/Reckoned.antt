-- What demand 3 reckons of a settled period, from the rows of a period that tracks its account.
use Prim.Native.Nat.{ℕ, ◌+◌, ◌-◌, ◌≤◌, ◌<◌}
use mathlib.Core.Path.{◌≡◌, ap, subst, ◌∙◌}
use mathlib.Core.List.{List}
use native.Mathlib.Omega.{arith}
use Rattle.exact.specs.Rows.{at, sum}
use Rattle.exact.proofs.RowLaws.{cells_at, sum_cong, sum_add}
use Rattle.settlement.specs.Month.{Month, tier_at}
use Rattle.settlement.specs.Notice as notice
use Rattle.settlement.specs.Groups.{group_retention}
use Rattle.settlement.specs.Claims as step1
use Rattle.settlement.proofs.Laws.{retention_sound, set_off_le, retained_le_full}
use Rattle.settlement.specs.declared.groups.Grouping.{Grouping}
use Rattle.book.specs.rules.Periods.{month_of}
use Rattle.book.specs.rules.Valid.{AfterSettlement}
use Rattle.book.specs.history.Log.{Account, month_in, retention, payable, claim, arrears, arrears_at_settlement, received, unpaid_claims, held_money}
use Rattle.book.specs.history.Demand3.{NothingCutOff}
use Rattle.book.specs.declared.Period.{Period}
use Rattle.book.proofs.history.Tracking.{Since, Tracks}

module _ (n : ℕ) {grouping : Grouping} (p : Period) (a : Account) (t : Tracks n grouping p a) where
  pub to_is : tier_at p.to ≡ a.to
  to_is = ap (λ (m : Month). m.to) t.month

  pub received_total : sum (at p.received) n ≡ sum (received n a) n
  received_total = sum_cong (at p.received) (received n a) n t.received

  pub paid_total : sum (at p.paid) n ≡ sum a.paid n
  paid_total = sum_cong (at p.paid) a.paid n t.paid

  module _ (since : Since n grouping p a) where
    pub claim_is : (i : ℕ) → i < n → at p.claim i ≡ claim n (retention n grouping) a i
    claim_is i h =
        ap (λ (l : List ℕ). at l i) since.claims
        ∙ cells_at (step1.claim (month_of n p) (group_retention (month_of n p) grouping) a.before) n i h
        ∙ ap (λ (m : Month). step1.claim m (group_retention m grouping) a.before i) t.month

    pub arrears_is : (i : ℕ) → i < n → at p.arrears i + a.late i ≡ arrears_at_settlement n (retention n grouping) a i
    arrears_is i h = since.arrears i h ∙ ap (λ (m : Month). step1.arrears m (group_retention m grouping) a.before i) t.month

    within_is : (i : ℕ) → i < n → a.before i ≤ payable n (retention n grouping) a i
    within_is i h = subst (λ (m : Month). a.before i ≤ notice.payable m (group_retention m grouping) i) t.month (since.within i h)

    pub none_held : 0 < sum a.late n → held_money n a ≡ 0
    none_held l = omega (arith, since.late_held l, received_total, paid_total)

    pub arrears_total : sum (at p.arrears) n ≡ sum (arrears n (retention n grouping) a) n
    arrears_total = sum_cong (at p.arrears) (arrears n (retention n grouping) a) n (λ i h. omega (arith, arrears_is i h))

    module _ (f : AfterSettlement n p) where
      paid_le : (i : ℕ) → i < n → a.paid i ≤ claim n (retention n grouping) a i
      paid_le i h = omega (arith, f.paid_le i h, t.paid i h, claim_is i h)

      pub cut_off : (i : ℕ) → i < n → NothingCutOff n (retention n grouping) a i
      cut_off i h = record {
        received_le = within_is i h;
        set_off_le = omega (arith, set_off_le (month_in n a) (retention n grouping a) a.before (retention_sound (month_in n a) grouping) i, retained_le_full (month_in n a) (retention n grouping a) (retention_sound (month_in n a) grouping) i);
        late_le = omega (arith, arrears_is i h);
        paid_le = paid_le i h;
      }

      -- unpaid claims are arrears and held money
      pub claims_balance : unpaid_claims n (retention n grouping) a ≡ sum (arrears n (retention n grouping) a) n + held_money n a
      claims_balance = omega (
        arith,
        f.balance,
        f.paid_within,
        arrears_total,
        received_total,
        paid_total,
        sum_cong (at p.claim) (claim n (retention n grouping) a) n claim_is,
        sum_add (λ i. claim n (retention n grouping) a i - a.paid i) a.paid n,
        sum_cong (λ i. claim n (retention n grouping) a i - a.paid i + a.paid i) (claim n (retention n grouping) a) n (λ i h. omega (arith, paid_le i h)),
      )

      pub little_held : held_money n a ≤ n - 1
      little_held = omega (arith, f.held_bound, received_total, paid_total)
