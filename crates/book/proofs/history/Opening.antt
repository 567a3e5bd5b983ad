-- An open entry and a purse entry keep the invariant.
use Prim.Native.Nat.{ℕ, ◌+◌, ◌*◌, ◌≤◌, ◌<◌}
use mathlib.Core.Path.{◌≡◌, refl, sym, ap, subst, ◌∙◌}
use mathlib.Core.Bool.{true, false, false≢true}
use mathlib.Core.List.{List, [], ◌∷◌, ◌++◌}
use mathlib.Core.Logic.{◌⊎◌, inl, inr, ⊎_elim}
use native.Mathlib.Omega.{arith}
use lib.ListN.{length}
use borrow.Author.Tests.{eqb-true}
use Rattle.exact.specs.Rows.{places, at}
use Rattle.exact.proofs.Cases.{eq_or_ne}
use Rattle.settlement.specs.Month.{tiers, tier_at}
use Rattle.settlement.specs.declared.groups.Grouping.{Grouping}
use Rattle.book.specs.layouts.Entries.{kind_of}
use Rattle.book.specs.rules.Kinds.{period_of, is_open, is_settle, is_purse, purse_of, purse_cents}
use Rattle.book.specs.rules.Periods.{zeros, raised, fresh}
use Rattle.book.specs.rules.State.{numbers}
use Rattle.book.specs.rules.Valid.{All}
use Rattle.book.specs.history.Log.{Accepted, Account, Ledger, nothing, entered, with_entry, adds_by, adds_to, received_from}
use Rattle.book.specs.history.Demand3.{Has}
use Rattle.book.specs.declared.entries.Entry.{Entry}
use Rattle.book.specs.declared.Period.{Period}
use Rattle.book.proofs.rules.CellLaws.{zeros_at, zeros_tier, raised_at}
use Rattle.book.proofs.rules.KindLaws.{names_none, named_period}
use Rattle.book.proofs.rules.ListLaws.{all_join, all_both, rising_more, has_more, has_it}
use Rattle.book.proofs.history.LogLaws.{account_same, account_other, purse_same, purse_grows}
use Rattle.book.proofs.history.Tracking.{Tracks, Paid}
use Rattle.book.proofs.history.Invariant.{Closed, Kept, Inv}

-- an open entry
record AddsNothing (e : Entry) : Type 0 where
  pub by : (i : ℕ) → adds_by i e ≡ 0
  pub to : (t i : ℕ) → adds_to t i e ≡ 0
  pub none_received : (i : ℕ) → received_from i e ≡ 0
  pub no_settle : is_settle e ≡ false
  pub no_purse : is_purse e ≡ false

open_adds_nothing : (e : Entry) → is_open e ≡ true → AddsNothing e
open_adds_nothing e o =
    let k = eqb-true (kind_of e) 1 o in
    record { by = λ i. rw k; to = λ t i. rw k; none_received = λ i. rw k; no_settle = rw k; no_purse = rw k }

module _ (n : ℕ) {grouping : Grouping} (highest : ℕ) (ps : List Period) (purses : List ℕ) (g : Ledger) (inv : Inv n grouping highest ps purses g) (x : Accepted) (o : is_open x.entry ≡ true)
    (above : highest < period_of x.entry) (w : Paid n (zeros places) x.words) where
  abbrev k : ℕ
  k = period_of x.entry

  d : AddsNothing x.entry
  d = open_adds_nothing x.entry o

  abbrev g' : Ledger
  g' = with_entry x g

  own : g'.account k ≡ entered x nothing
  own = account_same k x g d.no_purse refl ∙ ap (entered x) (inv.above k above)

  other : (j : ℕ) → (k ≡ j → ⊥) → g'.account j ≡ g.account j
  other j ne = account_other j x g (λ q. ne (named_period j x.entry q))

  fresh_tracks : Tracks n grouping (fresh k) (entered x nothing)
  unfolding fresh entered nothing
  fresh_tracks = record {
    month = λ z. record { n = n; by = λ i. by i z; to = λ t i. to t i z };
    received = λ i _. omega (arith, zeros_at places i, d.none_received i);
    paid = λ i h. omega (arith, zeros_at places i, w i h);
    staged = record { unsettled = rw d.no_settle (omega arith); none_late = λ i. omega arith };
  }
    where
      by : (i : ℕ) → at (zeros places) i ≡ adds_by i x.entry + 0
      by i = omega (arith, zeros_at places i, d.by i)

      to : (t i : ℕ) → tier_at (zeros (tiers * places)) t i ≡ adds_to t i x.entry + 0
      to t i = omega (arith, zeros_tier (tiers * places) t i, d.to t i)

  opened_once : (entered x nothing).openings ≡ 1
  unfolding entered nothing
  opened_once = rw o (omega arith)

  fresh_kept : Kept n grouping g' (fresh k)
  unfolding fresh
  fresh_kept = record {
    tracks = subst (Tracks n grouping (fresh k)) (sym own) fresh_tracks;
    opened = ap (λ (a : Account). a.openings) own ∙ opened_once;
  }

  below : All (λ (q : Period). q.number < k) ps
  below = all_both (λ (q : Period). q.number ≤ highest) (λ (q : Period). q.number ≤ highest) _ (λ q u _. omega arith) ps inv.tops inv.tops

  kept_other : (q : Period) → q.number < k → Kept n grouping g q → Kept n grouping g' q
  kept_other q u c =
      let e = other q.number (λ e. omega arith) in
      record { tracks = subst (Tracks n grouping q) (sym e) c.tracks; opened = ap (λ (a : Account). a.openings) e ∙ c.opened }

  known : (j : ℕ) → (g'.account j ≡ nothing) ⊎ (Has j (numbers (ps ++ (fresh k ∷ []))) ⊎ Closed n grouping (g'.account j))
  unfolding fresh
  known j = ⊎_elim (λ e. inr (inl (subst (λ (j : ℕ). Has j (numbers (ps ++ (fresh k ∷ [])))) e (has_it (fresh k) [] ps)))) (λ ne. go ne (inv.known j)) (eq_or_ne k j)
    where
      go : (k ≡ j → ⊥) → (g.account j ≡ nothing) ⊎ (Has j (numbers ps) ⊎ Closed n grouping (g.account j))
          → (g'.account j ≡ nothing) ⊎ (Has j (numbers (ps ++ (fresh k ∷ []))) ⊎ Closed n grouping (g'.account j))
      go ne (inl q) = inl (other j ne ∙ q)
      go ne (inr (inl q)) = inr (inl (has_more (fresh k) j ps q))
      go ne (inr (inr q)) = inr (inr (subst (Closed n grouping) (sym (other j ne)) q))

  pub opens_inv : Inv n grouping (period_of x.entry) (ps ++ (fresh (period_of x.entry) ∷ [])) purses (with_entry x g)
  unfolding fresh
  opens_inv = record {
    rising = rising_more (fresh k) ps below inv.rising;
    tops = all_join _ ps (fresh k ∷ [])
        (all_both (λ (q : Period). q.number < k) (λ (q : Period). q.number < k) (λ (q : Period). q.number ≤ k) (λ q u _. omega arith) ps below below)
        (omega arith, tt);
    each = all_join (Kept n grouping g') ps (fresh k ∷ []) (all_both (λ (q : Period). q.number < k) (Kept n grouping g) (Kept n grouping g') kept_other ps below inv.each) (fresh_kept, tt);
    above = λ j h. other j (λ e. omega arith) ∙ inv.above j (omega arith);
    known = known;
    purse = λ i h. inv.purse i h ∙ sym (purse_same i x g d.no_purse);
  }

-- a purse entry
module _ (n : ℕ) {grouping : Grouping} (highest : ℕ) (ps : List Period) (purses : List ℕ) (g : Ledger) (inv : Inv n grouping highest ps purses g) (x : Accepted)
    (u : is_purse x.entry ≡ true) (member : purse_of x.entry < length purses) where
  still : (k : ℕ) → (with_entry x g).account k ≡ g.account k
  still k = account_other k x g (λ q. false≢true (sym (names_none k x.entry u) ∙ q))

  kept_still : (p : Period) → Kept n grouping g p → Kept n grouping (with_entry x g) p
  kept_still p c = record {
    tracks = subst (Tracks n grouping p) (sym (still p.number)) c.tracks;
    opened = ap (λ (a : Account). a.openings) (still p.number) ∙ c.opened;
  }

  pub raises_inv : Inv n grouping highest ps (raised purses (purse_of x.entry) (purse_cents x.entry)) (with_entry x g)
  raises_inv = record {
    rising = inv.rising;
    tops = inv.tops;
    each = all_both (Kept n grouping g) (Kept n grouping g) (Kept n grouping (with_entry x g)) (λ p c _. kept_still p c) ps inv.each inv.each;
    above = λ k h. still k ∙ inv.above k h;
    known = λ k. subst (λ (a : Account). (a ≡ nothing) ⊎ (Has k (numbers ps) ⊎ Closed n grouping a)) (sym (still k)) (inv.known k);
    purse = λ i h. omega (arith, raised_at purses (purse_of x.entry) (purse_cents x.entry) member i, inv.purse i h, purse_grows i x g u);
  }
