-- A settlement and a late receipt: the period has what its entries come to, and tiers are met in order.
use Prim.Native.Nat.{ℕ, ◌+◌, ◌-◌, ◌≤◌, ◌<◌}
use mathlib.Core.Path.{◌≡◌, refl, sym, ap, subst, subst₂, fun_ext, ◌∙◌}
use mathlib.Core.List.{List}
use native.Mathlib.Omega.{arith}
use lib.ListN.{set}
use Rattle.exact.specs.Rows.{at, cells}
use Rattle.exact.proofs.RowLaws.{cells_at, cells_cong, sum_zero}
use Rattle.settlement.specs.Month.{Month, tier_at}
use Rattle.settlement.specs.Notice.{payable}
use Rattle.settlement.specs.Groups.{group_retention}
use Rattle.settlement.specs.Claims.{claim, arrears}
use Rattle.settlement.specs.Late.{fill, tiers_of, shortage}
use Rattle.settlement.proofs.Laws.{claim_cong, arrears_cong, shortage_cong}
use Rattle.settlement.specs.declared.groups.Grouping.{Grouping}
use Rattle.book.specs.rules.Periods.{month_of, with_receipt, with_settlement, late_pays, with_late_receipt}
use Rattle.book.specs.rules.Valid.{Sound, InBook, AtStage, BeforeSettlement}
use Rattle.book.specs.history.Log.{Accepted, Account, entered, retention}
use Rattle.book.specs.history.Log as log
use Rattle.book.specs.history.Demand3.{TiersInOrder}
use Rattle.book.specs.declared.Stage.TheVariants.{Noticed, Settled}
use Rattle.book.specs.declared.entries.Entry.TheVariants.{Receipt, Settle}
use Rattle.book.specs.declared.Period.{Period}
use Rattle.book.proofs.rules.CellLaws.{raised_at, lowered_at}
use Rattle.book.proofs.rules.Passing.{PassesReceipt}
use Rattle.book.proofs.rules.SettlementLaws.{due_in_book, within_payable, fits_arrears, none_held, late_order}
use Rattle.book.proofs.history.LogLaws.{month_still, before_unsettled, late_unsettled, before_settled, late_settled, received_grows}
use Rattle.book.proofs.history.Reckoned.{to_is, claim_is}
use Rattle.book.proofs.history.Tracking.{Unsettled, Since, Staged, Tracks, with_entry_lem, Paid}

module _ (n : ℕ) {grouping : Grouping} (p : Period) (s : Sound n p) (a : Account) (t : Tracks n grouping p a) (words : List ℕ) where
  -- a settlement
  module _ (b : InBook n grouping p) (k : ℕ) (q : p.stage ≡ Noticed) (w : Paid n (with_settlement n (group_retention (month_of n p) grouping) p).pays words) where
    abbrev m : Month
    m = month_of n p

    abbrev x : Accepted
    x = record { entry = Settle k; words = words }

    abbrev A : ℕ → ℕ
    A = group_retention m grouping

    abbrev after : Account
    after = entered x a

    u : Unsettled a
    u = subst (Staged n grouping p a) q t.staged

    before_same : (i : ℕ) → i < n → at p.received i ≡ after.before i
    before_same i h = omega (arith, t.received i h, u.none_late i, before_unsettled n x a i u.unsettled)

    pub track_settle : Tracks n grouping (with_settlement n (group_retention (month_of n p) grouping) p).period (with_entry_lem (Settle k) words a)
    unfolding with_settlement entered
    track_settle = record {
      month = t.month ∙ month_still n x a (λ i. refl) (λ t i. refl);
      received = λ i h. omega (arith, t.received i h, received_grows n x a i);
      paid = λ i h. omega (arith, w i h, t.paid i h, f.nothing_paid_lem i h);
      staged = record {
        settled = omega (arith, u.unsettled);
        claims = cells_cong (claim m A (at p.received)) (claim m A after.before) n (λ i h. claim_cong m A (at p.received) after.before i (before_same i h));
        arrears = λ i h. omega (
          arith,
          cells_at (arrears m A (at p.received)) n i h,
          arrears_cong m A (at p.received) after.before i (before_same i h),
          late_unsettled n x a i u.unsettled,
          u.none_late i,
        );
        within = λ i h. omega (arith, before_same i h, within_payable n p s q (due_in_book n p b q) i h);
        late_held = λ l. absurd (omega (arith, l, sum_zero after.late n (λ i _. late_unsettled n x a i u.unsettled ∙ u.none_late i)));
      };
    }
      where
        f : BeforeSettlement n p
        f = subst (AtStage n p) q s.at_stage

  -- a late receipt
  module _ (k i cents : ℕ) (q : p.stage ≡ Settled) (f : PassesReceipt n p i cents) (w : Paid n (with_late_receipt n p i cents).pays words) where
    abbrev y : Accepted
    y = record { entry = Receipt k i cents; words = words }

    abbrev d : Account
    d = entered y a

    since : Since n grouping p a
    since = subst (Staged n grouping p a) q t.staged

    before_still : a.before ≡ d.before
    before_still = fun_ext (λ j. sym (before_settled n y a j (omega (arith, since.settled))))

    arrears_now : (j : ℕ) → j < n
        → at (set p.arrears i (at p.arrears i - cents)) j + d.late j ≡ arrears (month_of n p) (group_retention (month_of n p) grouping) d.before j
    arrears_now j h = omega (
      arith,
      since.arrears j h,
      lowered_at p.arrears i cents (omega (arith, s.arrears_size, s.bounded.few, f.member)) (fits_arrears n p s q i cents f) j,
      late_settled n y a j (omega (arith, since.settled)),
      ap (λ g. arrears (month_of n p) (group_retention (month_of n p) grouping) g j) before_still,
    )

    paid_now : (j : ℕ) → j < n → at (with_late_receipt n p i cents).period.paid j ≡ d.paid j
    unfolding with_late_receipt entered
    paid_now j h = omega (
      arith,
      cells_at (λ k. at p.paid k + at (late_pays n (with_receipt p i cents)) k) n j h,
      w j h,
      t.paid j h,
    )

    settled_now : d.settlements ≡ 1
    unfolding entered
    settled_now = omega (arith, since.settled)

    pub track_late : Tracks n grouping (with_late_receipt n p i cents).period (with_entry_lem (Receipt k i cents) words a)
    unfolding with_late_receipt
    track_late = record {
      month = t.month ∙ month_still n y a (λ i. refl) (λ t i. refl);
      received = λ j h. omega (
        arith,
        t.received j h,
        raised_at p.received i cents (omega (arith, s.received_size, s.bounded.few, f.member)) j,
        received_grows n y a j,
      );
      paid = paid_now;
      staged = subst (Staged n grouping (with_late_receipt n p i cents).period d) (sym q) (record {
        settled = settled_now;
        claims = since.claims ∙ ap (λ g. cells (claim (month_of n p) (group_retention (month_of n p) grouping) g) n) before_still;
        arrears = arrears_now;
        within = λ j h. subst (λ g. g j ≤ payable (month_of n p) (group_retention (month_of n p) grouping) j) before_still (since.within j h);
        late_held = λ _. none_held n p s q i cents f;
      });
    }

    pub late_in_order : TiersInOrder n (retention n grouping) a (with_entry_lem (Receipt k i cents) words a)
    unfolding with_late_receipt
    late_in_order u j lu lj more v l lv ll =
        let after : ℕ → ℕ = at (with_late_receipt n p i cents).period.paid in
        let now : Since n grouping (with_late_receipt n p i cents).period d = subst (Staged n grouping (with_late_receipt n p i cents).period d) q track_late.staged in
        let tiers_same : tier_at p.to ≡ d.to = to_is n (with_late_receipt n p i cents).period d track_late in
        let gains : fill (tiers_of (tier_at p.to) j) (at p.paid j) u < fill (tiers_of (tier_at p.to) j) (after j) u
        = subst₂ (λ x y. fill (tiers_of (tier_at p.to) j) x u < fill (tiers_of (tier_at p.to) j) y u) (sym (t.paid j lj)) (sym (paid_now j lj))
        (subst (λ (to : ℕ → ℕ → ℕ). fill (tiers_of to j) (a.paid j) u < fill (tiers_of to j) (d.paid j) u) (sym tiers_same) more) in
        subst (λ (to : ℕ → ℕ → ℕ). shortage to (log.claim n (retention n grouping) d) d.paid v l ≡ 0) tiers_same
        (shortage_cong (tier_at p.to) (log.claim n (retention n grouping) d) d.paid (at p.claim) after v l
        (sym (claim_is n (with_late_receipt n p i cents).period d track_late now l ll)) (sym (paid_now l ll))
        ∙ late_order n p s q i cents f u j lu lj gains v l lv ll)
