-- A period in the book has what its entries in the log, and what was drawn into it, come to: amounts, notices, receipts before
-- settlement and cents drawn.
use Prim.Native.Nat.{ℕ, zero, suc, ◌+◌, ◌-◌, ◌*◌, ◌≤◌, ◌<◌}
use mathlib.Core.Path.{◌≡◌, refl, sym, ap, subst, ◌∙◌}
use mathlib.Core.Bool.{false, cond}
use mathlib.Core.List.{List}
use mathlib.Core.Logic.{inl, inr}
use native.Mathlib.Omega.{arith}
use lib.Dec.{eqb, eqb-suc-suc}
use Rattle.exact.specs.Rows.{places, at, sum, cells}
use Rattle.exact.proofs.RowLaws.{cells_at}
use Rattle.settlement.specs.Month.{Month, tiers, tier_at}
use Rattle.settlement.specs.Notice.{payable}
use Rattle.settlement.specs.Groups.{group_retention}
use Rattle.settlement.specs.Claims.{claim, arrears}
use Rattle.settlement.specs.declared.groups.Grouping.{Grouping}
use Rattle.book.specs.rules.Periods.{month_of, zeros, raised, amounted, with_notice, with_receipt}
use Rattle.book.specs.rules.Kinds.{is_settle}
use Rattle.book.specs.rules.Purses.{with_drawn}
use Rattle.book.specs.rules.Valid.{Sound}
use Rattle.book.specs.history.Log.{Account, entered, moved_in, adds_by, adds_to, received_from, month_in}
use Rattle.book.specs.declared.Stage.{Stage}
use Rattle.book.specs.declared.Stage.TheVariants.{Opened, Noticed, Settled}
use Rattle.book.specs.declared.entries.Entry.{Entry}
use Rattle.book.specs.declared.entries.Entry.TheVariants.{Notice, Receipt}
use Rattle.book.specs.declared.Period.{Period}
use Rattle.book.proofs.rules.CellLaws.{zeros_at, raised_at, raised_tier}
use Rattle.book.proofs.rules.Passing.{PassesAmount, Placed}
use Rattle.book.proofs.history.LogLaws.{month_still, late_unsettled, received_grows}

-- before its settle entry no receipt is late
pub record Unsettled (a : Account) : Type 0 where
  pub unsettled : a.settlements ≡ 0
  pub none_late : (i : ℕ) → a.late i ≡ 0

-- from its settle entry on the period has the claims of step 1, and those arrears less the late receipts; once one came it holds
-- nothing
pub record Since (n : ℕ) (grouping : Grouping) (p : Period) (a : Account) : Type 0 where
  pub settled : a.settlements ≡ 1
  pub claims : p.claim ≡ cells (claim (month_of n p) (group_retention (month_of n p) grouping) a.before) n
  pub arrears : (i : ℕ) → i < n → at p.arrears i + a.late i ≡ arrears (month_of n p) (group_retention (month_of n p) grouping) a.before i
  pub within : (i : ℕ) → i < n → a.before i ≤ payable (month_of n p) (group_retention (month_of n p) grouping) i
  pub late_held : 0 < sum a.late n → sum (at p.received) n ≡ sum (at p.paid) n

abbrev pub Staged : ℕ → Grouping → Period → Account → Stage → Type 0
Staged n grouping p a Opened = Unsettled a
Staged n grouping p a Noticed = Unsettled a
Staged n grouping p a Settled = Since n grouping p a

pub record Tracks (n : ℕ) (grouping : Grouping) (p : Period) (a : Account) : Type 0 where
  pub month : month_of n p ≡ month_in n a
  pub received : (i : ℕ) → i < n → at p.received i ≡ a.before i + a.late i
  pub paid : (i : ℕ) → i < n → at p.paid i ≡ a.paid i
  pub staged : Staged n grouping p a p.stage

-- an account with one more entry, which left the words as they are
abbrev pub with_entry_lem : Entry → List ℕ → Account → Account
with_entry_lem e words a = entered (record { entry = e; words = words }) a

-- the words are what is paid, below n
abbrev pub Paid : ℕ → List ℕ → List ℕ → Type 0
Paid n pays words = (i : ℕ) → i < n → at words i ≡ at pays i

module _ (n : ℕ) {grouping : Grouping} (p : Period) (s : Sound n p) (a : Account) (t : Tracks n grouping p a) (words : List ℕ) (w : Paid n (zeros places) words) where
  -- an entry that pays nothing and settles nothing
  still_paid : (e : Entry) (i : ℕ) → i < n → at p.paid i ≡ (with_entry_lem e words a).paid i
  unfolding entered
  still_paid e i h = omega (arith, t.paid i h, w i h, zeros_at places i)

  still_unsettled : (e : Entry) → is_settle e ≡ false → Unsettled a → Unsettled (with_entry_lem e words a)
  unfolding entered
  still_unsettled e q u = record {
    unsettled = rw q (omega (arith, u.unsettled));
    none_late = λ i. late_unsettled n (record { entry = e; words = words }) a i u.unsettled ∙ u.none_late i;
  }

  pub track_notice : (k : ℕ) → p.stage ≡ Opened → Tracks n grouping (with_notice n grouping p) (with_entry_lem (Notice k) words a)
  unfolding with_notice
  track_notice k q = record {
    month = t.month ∙ month_still n (record { entry = Notice k; words = words }) a (λ i. refl) (λ t i. refl);
    received = λ i h. omega (arith, t.received i h, received_grows n (record { entry = Notice k; words = words }) a i);
    paid = still_paid (Notice k);
    staged = still_unsettled (Notice k) refl (subst (Staged n grouping p a) q t.staged);
  }

  -- an amount, of either kind
  module _ (e : Entry) (i c : ℕ) where
    -- what the entry adds to the sums of each participant
    pub record Adds (side tier : ℕ) : Type 0 where
      pub by : (j : ℕ) → adds_by j e ≡ cond (eqb side 0) (cond (eqb i j) c 0) 0
      pub to : (u j : ℕ) → adds_to u j e ≡ cond (eqb side 0) 0 (cond (eqb tier (suc u)) (cond (eqb i j) c 0) 0)
      pub no_receipt : (j : ℕ) → received_from j e ≡ 0
      pub no_settle : is_settle e ≡ false

    same_by : (j : ℕ) → at p.by j ≡ a.by j
    same_by j = ap (λ (m : Month). m.by j) t.month

    same_to : (u j : ℕ) → tier_at p.to u j ≡ a.to u j
    same_to u j = ap (λ (m : Month). m.to u j) t.month

    month_by : (tier : ℕ) → i < n → Adds 0 tier → month_of n (amounted p i 0 tier c) ≡ month_in n (with_entry_lem e words a)
    unfolding amounted entered
    month_by tier h d = λ z. record { n = n; by = λ j. by j z; to = λ u j. to u j z }
      where
        by : (j : ℕ) → at (raised p.by i c) j ≡ adds_by j e + a.by j
        by j = omega (arith, raised_at p.by i c (omega (arith, s.by_size, s.bounded.few)) j, d.by j, same_by j)

        to : (u j : ℕ) → tier_at p.to u j ≡ adds_to u j e + a.to u j
        to u j = omega (arith, d.to u j, same_to u j)

    month_to : (v : ℕ) → v < tiers → i < n → Adds 1 (suc v) → month_of n (amounted p i 1 (suc v) c) ≡ month_in n (with_entry_lem e words a)
    unfolding amounted entered
    month_to v l h d = λ z. record { n = n; by = λ j. by j z; to = λ u j. to u j z }
      where
        by : (j : ℕ) → at p.by j ≡ adds_by j e + a.by j
        by j = omega (arith, d.by j, same_by j)

        place : tiers * i + (suc v - 1) ≡ tiers * i + v
        place = omega arith

        to : (u j : ℕ) → tier_at (raised p.to (tiers * i + (suc v - 1)) c) u j ≡ adds_to u j e + a.to u j
        to u j = rw place (omega (
          arith,
          raised_tier p.to i v c (omega (arith, s.to_size, s.bounded.few)) l u j,
          rw (eqb-suc-suc v u) at (d.to u j),
          same_to u j,
        ))

    month_amount : (side tier : ℕ) → Placed side tier → i < n → Adds side tier → month_of n (amounted p i side tier c) ≡ month_in n (with_entry_lem e words a)
    month_amount side tier (inl q) h d =
        subst (λ (k : ℕ). month_of n (amounted p i k tier c) ≡ month_in n (with_entry_lem e words a)) (sym q) (month_by tier h (subst (λ (k : ℕ). Adds k tier) q d))
    month_amount side zero (inr q) h d = absurd (omega (arith, q.1))
    month_amount side (suc v) (inr q) h d =
        subst (λ (k : ℕ). month_of n (amounted p i k (suc v) c) ≡ month_in n (with_entry_lem e words a)) (sym q.0)
        (month_to v q.2 h (subst (λ (k : ℕ). Adds k (suc v)) q.0 d))

    pub track_amount : (side tier : ℕ) → Placed side tier → PassesAmount n p i side c → Adds side tier
        → Tracks n grouping (amounted p i side tier c) (with_entry_lem e words a)
    unfolding amounted
    track_amount side tier l f d = record {
      month = month_amount side tier l f.member d;
      received = λ j h. omega (arith, t.received j h, received_grows n (record { entry = e; words = words }) a j, d.no_receipt j);
      paid = still_paid e;
      staged = subst (Staged n grouping (amounted p i side tier c) (with_entry_lem e words a)) (sym f.stage)
          (still_unsettled e d.no_settle (subst (Staged n grouping p a) f.stage t.staged));
    }

  -- a receipt before settlement
  pub track_receipt : (k i cents : ℕ) → p.stage ≡ Noticed → i < n → Tracks n grouping (with_receipt p i cents) (with_entry_lem (Receipt k i cents) words a)
  unfolding with_receipt
  track_receipt k i cents q h = record {
    month = t.month ∙ month_still n (record { entry = Receipt k i cents; words = words }) a (λ i. refl) (λ t i. refl);
    received = λ j l. omega (
      arith,
      t.received j l,
      raised_at p.received i cents (omega (arith, s.received_size, s.bounded.few)) j,
      received_grows n (record { entry = Receipt k i cents; words = words }) a j,
    );
    paid = still_paid (Receipt k i cents);
    staged = subst (Staged n grouping (with_receipt p i cents) (with_entry_lem (Receipt k i cents) words a)) (sym q)
        (still_unsettled (Receipt k i cents) refl (subst (Staged n grouping p a) q t.staged));
  }

-- cents drawn from purses before settlement, moved into the period and into its account
pub track_drawn : (n : ℕ) {grouping : Grouping} (p : Period) (a : Account) → Tracks n grouping p a → p.stage ≡ Noticed
    → (drawn draws : ℕ → ℕ) → ((i : ℕ) → i < n → drawn i ≡ draws i) → Tracks n grouping (with_drawn n drawn p) (moved_in draws a)
unfolding with_drawn moved_in
track_drawn n {grouping} p a t q drawn draws same =
    let u : Unsettled a = subst (Staged n grouping p a) q t.staged in
    record {
      month = t.month;
      received = λ i h. omega (arith, cells_at (λ i. at p.received i + drawn i) n i h, t.received i h, same i h);
      paid = t.paid;
      staged = subst (Staged n grouping (with_drawn n drawn p) (moved_in draws a)) (sym q) (record { unsettled = u.unsettled; none_late = u.none_late });
    }
