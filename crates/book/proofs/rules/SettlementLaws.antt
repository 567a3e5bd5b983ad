-- What a settlement and a late receipt make of a sound period. Of settlement its exported laws are used alone.
use Prim.Native.Nat.{ℕ, ◌+◌, ◌-◌, ◌≤◌, ◌<◌}
use mathlib.Core.Path.{◌≡◌, refl, sym, ap, subst, ◌∙◌}
use mathlib.Core.List.{List}
use native.Mathlib.Omega.{arith}
use lib.ListN.{set, length-set}
use Rattle.exact.specs.Rows.{at, sum, cells}
use Rattle.exact.proofs.RowLaws.{sum_zero, sum_add, sum_cong, cells_at, cells_length, Holds, holds, sum_holds}
use Rattle.settlement.specs.Month.{Month, tiers, tier_at}
use Rattle.settlement.specs.Notice.{payable, Due}
use Rattle.settlement.specs.Groups.{group_retention}
use Rattle.settlement.specs.declared.groups.Grouping.{Grouping}
use Rattle.settlement.specs.Claims.{claim, arrears}
use Rattle.settlement.specs.Settling.{paid, held}
use Rattle.settlement.specs.Late.{fill, tiers_of, shortage, late_payment}
use Rattle.settlement.proofs.Laws.{retention_sound, claim_le, claim_total, paid_le, paid_full, held_exact, held_le, late_exact, late_le, late_full, shortage_cong, tiers_in_order}
use Rattle.book.specs.rules.Periods.{month_of, side_total, raised, with_receipt, with_settlement, late_pays, with_late_receipt}
use Rattle.book.specs.rules.Periods as period
use Rattle.book.specs.rules.Refusals.{receivable}
use Rattle.book.specs.rules.Valid.{Sound, InBook, AtStage, BeforeSettlement, AfterSettlement}
use Rattle.book.specs.declared.Stage.TheVariants.{Noticed, Settled}
use Rattle.book.specs.declared.Period.{Period}
use Rattle.book.proofs.rules.CellLaws.{raised_length, raised_sum, lowered_sum}
use Rattle.book.proofs.rules.Passing.{PassesReceipt}
use Rattle.book.proofs.rules.ChangeLaws.{Changes, left_settled}

-- until settlement the payable row of a period in the book comes from retention over the book's groups
abbrev pub due_in_book : (n : ℕ) {grouping : Grouping} (p : Period) → InBook n grouping p → p.stage ≡ Noticed → Due (month_of n p) p.payable
due_in_book n {grouping} p b q = record { retained = group_retention (month_of n p) grouping; sound = retention_sound (month_of n p) grouping; row = b.row q }

-- a settlement, by whatever retention A the payable row has come from
module _ (n : ℕ) (p : Period) (s : Sound n p) (noticed : p.stage ≡ Noticed) (due : Due (month_of n p) p.payable) where
  abbrev m : Month
  m = month_of n p

  abbrev A : ℕ → ℕ
  A = due.retained

  abbrev r : ℕ → ℕ
  r = at p.received

  before : BeforeSettlement n p
  before = subst (AtStage n p) noticed s.at_stage

  pub within_payable : (i : ℕ) → i < n → at p.received i ≤ payable (month_of n p) due.retained i
  within_payable i h = omega (arith, before.within i h, ap (λ (l : List ℕ). at l i) due.row, cells_at (payable m A) n i h)

  claims : Holds (cells (claim m A r) n) (claim m A r) n
  claims = holds (claim m A r) n refl

  settles_full : sum (at (cells (arrears m A r) n)) n ≡ 0 → (i : ℕ) → i < n → at (cells (paid m A r) n) i ≡ at (cells (claim m A r) n) i
  settles_full z i h = omega (arith, cells_at (claim m A r) n i h, cells_at (paid m A r) n i h, paid_full m A r due.sound (omega (arith, z, sum_holds (holds (arrears m A r) n refl))) i)

  pub settle_changes : Changes n 0 p (with_settlement n due.retained p)
  unfolding with_settlement side_total
  settle_changes = record {
    sound = record {
      totals_size = s.totals_size;
      by_size = s.by_size;
      to_size = s.to_size;
      received_size = s.received_size;
      arrears_size = cells_length (arrears m A r) n s.bounded.few;
      kept = s.kept;
      bounded = s.bounded;
      at_stage = record {
        claim_le = λ i h. omega (arith, cells_at (claim m A r) n i h, claim_le m A r due.sound i);
        paid_le = λ i h. omega (arith, cells_at (claim m A r) n i h, cells_at (paid m A r) n i h, paid_le m A r due.sound i);
        balance = omega (arith, sum_holds claims, sum_holds (holds (arrears m A r) n refl), claim_total m A r due.sound before.equal within_payable);
        paid_within = omega (arith, sum_holds (holds (paid m A r) n refl), held_exact m A r due.sound before.equal within_payable);
        held_bound = omega (arith, sum_holds (holds (paid m A r) n refl), held_exact m A r due.sound before.equal within_payable, held_le m A r due.sound before.equal within_payable);
      };
    };
    number = refl;
    received = omega arith;
    paid = omega (arith, sum_zero (at p.paid) n before.nothing_paid_lem);
    full = λ l. settles_full (left_settled n (with_settlement n A p).period l).1;
  }

-- a late receipt of so many cents from i
module _ (n : ℕ) (p : Period) (s : Sound n p) (settled : p.stage ≡ Settled) (i cents : ℕ) (f : PassesReceipt n p i cents) where
  abbrev q : Period
  q = with_receipt p i cents

  since : AfterSettlement n p
  since = subst (AtStage n p) settled s.at_stage

  pub fits_arrears : cents ≤ at p.arrears i
  unfolding receivable
  fits_arrears = rw settled at f.fits

  abbrev received : List ℕ
  received = raised p.received i cents

  abbrev remaining : List ℕ
  remaining = set p.arrears i (at p.arrears i - cents)

  received_total : sum (at received) n ≡ sum (at p.received) n + cents
  received_total = raised_sum p.received i cents (omega (arith, s.received_size, s.bounded.few, f.member)) n f.member

  remaining_total : sum (at remaining) n + cents ≡ sum (at p.arrears) n
  remaining_total = lowered_sum p.arrears i cents (omega (arith, s.arrears_size, s.bounded.few, f.member)) fits_arrears n f.member

  abbrev money : ℕ
  money = period.holds n q

  abbrev pay : ℕ → ℕ
  pay = late_payment (tier_at p.to) (at p.claim) (at p.paid) n money

  balanced : sum (at p.claim) n ≡ sum (at p.paid) n + (money + sum (at remaining) n)
  unfolding period.holds held with_receipt
  balanced = omega (arith, since.balance, since.paid_within, received_total, remaining_total)

  pays_at : (j : ℕ) → j < n → at (late_pays n q) j ≡ pay j
  unfolding late_pays with_receipt
  pays_at j h = cells_at pay n j h

  paid_at_lem : (j : ℕ) → j < n → at (cells (λ k. at p.paid k + at (late_pays n q) k) n) j ≡ at p.paid j + pay j
  paid_at_lem j h = omega (arith, cells_at (λ k. at p.paid k + at (late_pays n q) k) n j h, pays_at j h)

  paid_total : sum (at (cells (λ k. at p.paid k + at (late_pays n q) k) n)) n ≡ sum (at p.paid) n + sum pay n
  paid_total = omega (arith, sum_cong _ (λ j. at p.paid j + pay j) n paid_at_lem, sum_add (at p.paid) pay n)

  all_paid : sum pay n ≡ money
  all_paid = late_exact (tier_at p.to) (at p.claim) (at p.paid) n money (sum (at remaining) n) since.paid_le since.claim_le balanced

  money_is : money + sum (at p.paid) n ≡ sum (at received) n
  unfolding period.holds held with_receipt
  money_is = omega (arith, since.paid_within, received_total)

  -- nothing is held after it
  pub none_held : sum (at (with_late_receipt n p i cents).period.received) n ≡ sum (at (with_late_receipt n p i cents).period.paid) n
  unfolding with_late_receipt
  none_held = omega (arith, paid_total, all_paid, money_is)

  late_standing : AfterSettlement n (with_late_receipt n p i cents).period
  unfolding with_late_receipt
  late_standing = record {
    claim_le = since.claim_le;
    paid_le = λ j h. omega (
      arith,
      paid_at_lem j h,
      late_le (tier_at p.to) (at p.claim) (at p.paid) n money (sum (at remaining) n) since.paid_le since.claim_le balanced j h,
    );
    balance = omega (arith, since.balance, received_total, remaining_total);
    paid_within = omega (arith, none_held);
    held_bound = omega (arith, none_held);
  }

  pub late_changes : Changes n cents p (with_late_receipt n p i cents)
  unfolding with_late_receipt side_total
  late_changes = record {
    sound = record {
      totals_size = s.totals_size;
      by_size = s.by_size;
      to_size = s.to_size;
      received_size = raised_length p.received i cents ∙ s.received_size;
      arrears_size = length-set p.arrears i (at p.arrears i - cents) ∙ s.arrears_size;
      kept = s.kept;
      bounded = s.bounded;
      at_stage = subst (AtStage n (with_late_receipt n p i cents).period) (sym settled) late_standing;
    };
    number = refl;
    received = received_total;
    paid = omega (arith, paid_total, sum_cong (at (late_pays n q)) pay n pays_at);
    full = λ l j h. paid_at_lem j h
        ∙ late_full (tier_at p.to) (at p.claim) (at p.paid) n money (sum (at remaining) n) since.paid_le since.claim_le balanced
        (left_settled n (with_late_receipt n p i cents).period l).1 j h;
  }

  -- nobody is paid more than its claim
  pub late_paid_le : (j : ℕ) → j < n → at p.paid j + at (late_pays n (with_receipt p i cents)) j ≤ at p.claim j
  late_paid_le j h = omega (
    arith,
    pays_at j h,
    late_le (tier_at p.to) (at p.claim) (at p.paid) n money (sum (at remaining) n) since.paid_le since.claim_le balanced j h,
  )

  -- tiers are met in order
  pub late_order : let after = at (with_late_receipt n p i cents).period.paid in
      (t j : ℕ) → t < tiers → j < n → fill (tiers_of (tier_at p.to) j) (at p.paid j) t < fill (tiers_of (tier_at p.to) j) (after j) t
      → (u k : ℕ) → u < t → k < n → shortage (tier_at p.to) (at p.claim) after u k ≡ 0
  unfolding with_late_receipt
  late_order t j lt lj more u k lu lk =
      shortage_cong (tier_at p.to) (at p.claim) (at (cells (λ k. at p.paid k + at (late_pays n q) k) n)) (at p.claim) (λ k. at p.paid k + pay k) u k refl (paid_at_lem k lk)
      ∙ tiers_in_order (tier_at p.to) (at p.claim) (at p.paid) n money (sum (at remaining) n) since.paid_le since.claim_le balanced t j lt lj
      (subst (λ z. fill (tiers_of (tier_at p.to) j) (at p.paid j) t < fill (tiers_of (tier_at p.to) j) z t) (paid_at_lem j lj) more) u k lu lk
