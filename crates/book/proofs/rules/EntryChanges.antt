-- What every accepted entry that names a period makes of it, and of the cents that it holds.
use Prim.Native.Nat.{ℕ, ◌+◌}
use mathlib.Core.Path.{◌≡◌, refl, sym, ap, subst, ◌∙◌}
use mathlib.Core.Bool.{Bool, true, false, true≢false}
use mathlib.Core.Logic.{◌⊎◌, inl, inr, ⊎_elim}
use native.Mathlib.Omega.{arith}
use Rattle.exact.specs.Rows.{at, sum}
use Rattle.exact.proofs.RowLaws.{sum_cong}
use Rattle.settlement.specs.Groups.{noticed}
use Rattle.settlement.specs.Settling.{held}
use Rattle.settlement.specs.declared.groups.Grouping.{Grouping}
use Rattle.book.specs.Checks.{refusal}
use Rattle.book.specs.layouts.Allowed.{allowed}
use Rattle.book.specs.rules.Kinds.{is_open, is_purse, is_amount, addition, misdated, receipt_cents}
use Rattle.book.specs.rules.Periods.{month_of, is_opened, is_settled, holds, leaves, Change, changed, pays_nothing, amounted, with_addition, with_notice, with_receipt, with_settlement, with_late_receipt}
use Rattle.book.specs.rules.Refusals.{amount_checks, period_checks}
use Rattle.book.specs.rules.Valid.{Sound, InBook, AtStage, AfterSettlement}
use Rattle.book.specs.declared.Stage.{Stage}
use Rattle.book.specs.declared.Stage.TheVariants.{Opened, Noticed, Settled}
use Rattle.book.specs.declared.entries.Entry.{Entry}
use Rattle.book.specs.declared.entries.Entry.TheVariants.{Open, Energy, Amount, Notice, Receipt, Settle, Purse, Washup}
use Rattle.book.specs.declared.Period.{Period}
use Rattle.book.proofs.rules.Passing.{amount_passes, notice_passes, receipt_passes, settle_passes, settled_stage}
use Rattle.book.proofs.rules.AdditionLaws.{amount_within}
use Rattle.book.proofs.rules.ChangeLaws.{Changes, amount_changes, notice_changes, receipt_changes, left_settled, paid_within}
use Rattle.book.proofs.rules.SettlementLaws.{due_in_book, settle_changes, late_changes}

-- a receipt before settlement, and a late one
module _ (n : ℕ) (grouping : Grouping) (p : Period) (k i cents : ℕ) where
  pub changed_receipt : p.stage ≡ Noticed → changed n grouping (Receipt k i cents) p ≡ pays_nothing (with_receipt p i cents)
  unfolding changed
  changed_receipt q = rw (ap is_settled q)

  pub changed_late : p.stage ≡ Settled → changed n grouping (Receipt k i cents) p ≡ with_late_receipt n p i cents
  unfolding changed
  changed_late q = rw (ap is_settled q)

-- a noticed period is neither opened nor settled
not_noticed : {s : Stage} → s ≡ Noticed → (s ≡ Opened) ⊎ (s ≡ Settled) → ⊥
not_noticed q (inl e) = true≢false (ap is_opened (sym e ∙ q))
not_noticed q (inr e) = true≢false (ap is_settled (sym e ∙ q))

module _ (n : ℕ) {grouping : Grouping} (p : Period) (b : InBook n grouping p) where
  abbrev s : Sound n p
  s = b.sound

  adds : (e : Entry) → is_amount e ≡ true → allowed e ≡ true → refusal (amount_checks n p (misdated e) (addition e)) ≡ 0
      → Changes n 0 p (pays_nothing (with_addition p (addition e)))
  adds e q a z =
      let d = addition e in
      amount_changes n p s d.participant d.tier d.cents d.side (amount_within e q a).placed (amount_passes n p (misdated e) d z)

  pub entry_changes : (e : Entry) (barred : Bool) → is_open e ≡ false → is_purse e ≡ false → allowed e ≡ true → refusal (period_checks n barred e p) ≡ 0
      → Changes n (receipt_cents e) p (changed n grouping e p)
  unfolding changed
  entry_changes (Open k) barred o u a e = absurd (true≢false o)
  entry_changes (Energy k i side quantity price) barred o u a e = adds (Energy k i side quantity price) refl a e
  entry_changes (Amount k i side tier cents) barred o u a e = adds (Amount k i side tier cents) refl a e
  entry_changes (Notice k) barred o u a e = notice_changes n p s grouping (notice_passes n p e)
  entry_changes (Receipt k i cents) barred o u a e =
      let f = receipt_passes n p barred i cents e in
      ⊎_elim
      (λ q. subst (Changes n cents p) (sym (changed_receipt n grouping p k i cents q)) (receipt_changes n p s i cents q f))
      (λ q. subst (Changes n cents p) (sym (changed_late n grouping p k i cents q)) (late_changes n p s q i cents f))
      f.stage
  entry_changes (Settle k) barred o u a e = let q = settle_passes p e in settle_changes n p s q (due_in_book n p b q)
  entry_changes (Purse i cents) barred o u a e = absurd (true≢false u)
  entry_changes (Washup k earlier i side old new price) barred o u a e = adds (Washup k earlier i side old new price) refl a e

  -- what adds to a side comes before notice
  adds_opened : (e : Entry) → refusal (amount_checks n p (misdated e) (addition e)) ≡ 0 → p.stage ≡ Noticed → ⊥
  adds_opened e z q = not_noticed q (inl (amount_passes n p (misdated e) (addition e) z).stage)

  -- from notice to settlement what is payable is what a notice reckons
  pub entry_row : (e : Entry) (barred : Bool) → is_open e ≡ false → is_purse e ≡ false → refusal (period_checks n barred e p) ≡ 0
      → (changed n grouping e p).period.stage ≡ Noticed → (changed n grouping e p).period.payable ≡ (noticed (month_of n (changed n grouping e p).period) grouping).payable
  unfolding changed amounted with_notice with_receipt with_settlement with_late_receipt
  entry_row (Open k) barred o u e q = absurd (true≢false o)
  entry_row (Energy k i side quantity price) barred o u e q = absurd (adds_opened (Energy k i side quantity price) e q)
  entry_row (Amount k i side tier cents) barred o u e q = absurd (adds_opened (Amount k i side tier cents) e q)
  entry_row (Notice k) barred o u e q = refl
  entry_row (Receipt k i cents) barred o u e q = ⊎_elim
      (λ t. subst (λ (c : Change). c.period.payable ≡ (noticed (month_of n c.period) grouping).payable) (sym (changed_receipt n grouping p k i cents t)) (b.row t))
      (λ t. absurd (not_noticed q (inr (ap (λ (c : Change). c.period.stage) (changed_late n grouping p k i cents t) ∙ t))))
      (receipt_passes n p barred i cents e).stage
  entry_row (Settle k) barred o u e q = absurd (not_noticed q (inr refl))
  entry_row (Purse i cents) barred o u e q = absurd (true≢false u)
  entry_row (Washup k earlier i side old new price) barred o u e q = absurd (adds_opened (Washup k earlier i side old new price) e q)

-- cents in are cents out and cents held
module _ (n : ℕ) (p : Period) (s : Sound n p) (cents : ℕ) (c : Change) (d : Changes n cents p c) where
  pub change_cents : holds n c.period + sum (at c.pays) n ≡ holds n p + cents
  unfolding holds held
  change_cents = omega (arith, paid_within n p s, paid_within n c.period d.sound, d.received, d.paid)

  -- a period that leaves holds nothing
  pub left_empty : leaves n c.period ≡ true → holds n c.period ≡ 0
  unfolding holds held
  left_empty l =
      let z = left_settled n c.period l in
      let after : AfterSettlement n c.period = subst (AtStage n c.period) (settled_stage c.period.stage z.0) d.sound.at_stage in
      omega (arith, z.1, after.balance, sum_cong (at c.period.paid) (at c.period.claim) n (d.full l))
