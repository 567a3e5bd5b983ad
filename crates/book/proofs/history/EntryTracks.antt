-- Every accepted entry that names a period leaves it with what the log then comes to, and every late receipt meets tiers in
-- order.
use Prim.Native.Nat.{ℕ, ◌<◌}
use mathlib.Core.Path.{◌≡◌, refl, sym, subst}
use mathlib.Core.Bool.{Bool, true, false, true≢false}
use mathlib.Core.List.{List}
use mathlib.Core.Logic.{⊎_elim}
use native.Mathlib.Omega.{arith}
use borrow.Author.Tests.{eqb-true}
use Rattle.exact.specs.Rows.{places}
use Rattle.settlement.specs.declared.groups.Grouping.{Grouping}
use Rattle.book.specs.Checks.{refusal}
use Rattle.book.specs.layouts.Entries.{kind_of, entry_of, field}
use Rattle.book.specs.layouts.Allowed.{allowed}
use Rattle.book.specs.rules.Kinds.{is_open, is_purse, is_amount, is_receipt, addition, misdated}
use Rattle.book.specs.rules.Periods.{zeros, Change, with_addition, changed}
use Rattle.book.specs.rules.Refusals.{amount_checks, period_checks}
use Rattle.book.specs.rules.Valid.{Sound, InBook}
use Rattle.book.specs.history.Log.{Account, retention}
use Rattle.book.specs.history.Demand3.{TiersInOrder}
use Rattle.book.specs.declared.entries.Entry.{Entry}
use Rattle.book.specs.declared.entries.Entry.TheVariants.{Open, Energy, Amount, Notice, Receipt, Settle, Purse, Washup}
use Rattle.book.specs.declared.Period.{Period}
use Rattle.book.proofs.layouts.EntryLaws.{of_kind}
use Rattle.book.proofs.rules.Passing.{amount_passes, notice_passes, receipt_passes, settle_passes}
use Rattle.book.proofs.rules.AdditionLaws.{amount_other, amount_within}
use Rattle.book.proofs.rules.EntryChanges.{changed_receipt, changed_late}
use Rattle.book.proofs.history.Tracking.{Staged, Tracks, with_entry_lem, Paid, track_notice, track_amount, track_receipt}
use Rattle.book.proofs.history.LateTracking.{track_settle, track_late, late_in_order}

module _ (n : ℕ) {grouping : Grouping} (p : Period) (b : InBook n grouping p) (a : Account) (t : Tracks n grouping p a) (words : List ℕ) where
  abbrev s : Sound n p
  s = b.sound

  adds : (e : Entry) → is_amount e ≡ true → allowed e ≡ true → refusal (amount_checks n p (misdated e) (addition e)) ≡ 0
      → Paid n (zeros places) words → Tracks n grouping (with_addition p (addition e)) (with_entry_lem e words a)
  adds e q l z w =
      let d = addition e in
      let o = amount_other e q in
      track_amount n p s a t words w e d.participant d.cents d.side d.tier (amount_within e q l).placed (amount_passes n p (misdated e) d z)
      (record { by = λ j. rw q; to = λ u j. rw q; no_receipt = λ j. rw o.not_receipt; no_settle = o.not_settle })

  pub entry_tracks : (e : Entry) (barred : Bool) → is_open e ≡ false → is_purse e ≡ false → allowed e ≡ true → refusal (period_checks n barred e p) ≡ 0
      → Paid n (changed n grouping e p).pays words → Tracks n grouping (changed n grouping e p).period (with_entry_lem e words a)
  unfolding changed
  entry_tracks (Open k) barred o u l e w = absurd (true≢false o)
  entry_tracks (Energy k i side quantity price) barred o u l e w = adds (Energy k i side quantity price) refl l e w
  entry_tracks (Amount k i side tier cents) barred o u l e w = adds (Amount k i side tier cents) refl l e w
  entry_tracks (Notice k) barred o u l e w = track_notice n p s a t words w k (notice_passes n p e).stage
  entry_tracks (Receipt k i cents) barred o u l e w =
      let f = receipt_passes n p barred i cents e in
      ⊎_elim
      (λ q. subst (λ (c : Change). Tracks n grouping c.period (with_entry_lem (Receipt k i cents) words a)) (sym (changed_receipt n grouping p k i cents q))
      (track_receipt n p s a t words (subst (λ (c : Change). Paid n c.pays words) (changed_receipt n grouping p k i cents q) w) k i cents q f.member))
      (λ q. subst (λ (c : Change). Tracks n grouping c.period (with_entry_lem (Receipt k i cents) words a)) (sym (changed_late n grouping p k i cents q))
      (track_late n p s a t words k i cents q f (subst (λ (c : Change). Paid n c.pays words) (changed_late n grouping p k i cents q) w)))
      f.stage
  entry_tracks (Settle k) barred o u l e w = track_settle n p s a t words b k (settle_passes p e) w
  entry_tracks (Purse i cents) barred o u l e w = absurd (true≢false u)
  entry_tracks (Washup k earlier i side old new price) barred o u l e w = adds (Washup k earlier i side old new price) refl l e w

  receipt_in_order : (k i cents : ℕ) (barred : Bool) → 0 < a.settlements → refusal (period_checks n barred (Receipt k i cents) p) ≡ 0
      → Paid n (changed n grouping (Receipt k i cents) p).pays words → TiersInOrder n (retention n grouping) a (with_entry_lem (Receipt k i cents) words a)
  receipt_in_order k i cents barred x e w =
      let f = receipt_passes n p barred i cents e in
      ⊎_elim
      (λ q. absurd (omega (arith, x, (subst (Staged n grouping p a) q t.staged).unsettled)))
      (λ q. late_in_order n p s a t words k i cents q f (subst (λ (c : Change). Paid n c.pays words) (changed_late n grouping p k i cents q) w))
      f.stage

  pub entry_in_order : (e : Entry) (barred : Bool) → refusal (period_checks n barred e p) ≡ 0 → Paid n (changed n grouping e p).pays words
      → is_receipt e ≡ true → 0 < a.settlements → TiersInOrder n (retention n grouping) a (with_entry_lem e words a)
  unfolding entry_of
  entry_in_order e barred z w r x =
      of_kind (λ (e : Entry). refusal (period_checks n barred e p) ≡ 0 → Paid n (changed n grouping e p).pays words → TiersInOrder n (retention n grouping) a (with_entry_lem e words a)) 5 e
      (eqb-true (kind_of e) 5 r) (receipt_in_order (field e 0) (field e 1) (field e 2) barred x) z w
