-- An entry that names a period in the book keeps the invariant.
use Prim.Native.Nat.{ℕ, suc, ◌+◌, ◌≤◌, ◌<◌}
use mathlib.Core.Path.{◌≡◌, sym, ap, subst, ◌∙◌}
use mathlib.Core.Bool.{true, false, cond, true≢false}
use mathlib.Core.List.{List, ◌∷◌, ◌++◌}
use native.Mathlib.Omega.{arith}
use lib.ListN.{take, drop}
use Rattle.exact.specs.Rows.{at}
use Rattle.exact.proofs.Cases.{cases}
use Rattle.exact.proofs.RowLaws.{sum_term}
use Rattle.settlement.specs.declared.groups.Grouping.{Grouping}
use Rattle.book.specs.rules.Kinds.{period_of, names, is_receipt, is_settle, receipt_cents}
use Rattle.book.specs.rules.Periods.{leaves, Change, changed}
use Rattle.book.specs.rules.State.{State, find, period_at, replaced, removed}
use Rattle.book.specs.rules.Purses.{settles, periods_after, purses_after, after_drawing}
use Rattle.book.specs.rules.Refusals.{Input}
use Rattle.book.specs.rules.Step.{stored, payout_words, acted}
use Rattle.book.specs.rules.Valid.{Sound, InBook, AtStage, SoundState, AfterSettlement}
use Rattle.book.specs.history.Log.{Accepted, Account, Ledger, entered, with_entry, draws, with_draws, payable, retention}
use Rattle.book.specs.history.Demand3.{TiersInOrder}
use Rattle.book.specs.inner.Ways.{Entered}
use Rattle.book.specs.declared.Stage.TheVariants.{Settled}
use Rattle.book.specs.declared.entries.Entry.{Entry}
use Rattle.book.specs.declared.Period.{Period}
use Rattle.book.proofs.rules.Passing.{settled_stage}
use Rattle.book.proofs.rules.ChangeLaws.{Changes, left_settled}
use Rattle.book.proofs.rules.DrawingLaws.{settling, settle_settles, by_drawing, no_drawing, after_fit, after_names, after_entered}
use Rattle.book.proofs.rules.KindLaws.{receipt_not_settle, named_period}
use Rattle.book.proofs.rules.ListLaws.{all_right, find_number, find_split}
use Rattle.book.proofs.rules.StepLaws.{Names}
use Rattle.book.proofs.rules.ValidLaws.{named_in_book, named_changes}
use Rattle.book.proofs.rules.WordLaws.{payout_at}
use Rattle.book.proofs.history.LogLaws.{account_same, account_other, purse_same}
use Rattle.book.proofs.history.Tracking.{Tracks, Since, Staged, Paid}
use Rattle.book.proofs.history.Reckoned.{claim_is, arrears_is, cut_off, received_total, paid_total}
use Rattle.book.proofs.history.EntryTracks.{entry_tracks, entry_in_order}
use Rattle.book.proofs.history.Invariant.{Closed, Kept, Inv, stays, goes}
use Rattle.book.proofs.history.Drawing.{draws_within, drawn_inv}

-- the account of a period that leaves is closed
closes : (n : ℕ) {grouping : Grouping} (p : Period) (a : Account) → Sound n p → Tracks n grouping p a → a.openings ≡ 1 → leaves n p ≡ true
    → ((i : ℕ) → i < n → at p.paid i ≡ at p.claim i) → Closed n grouping a
closes n {grouping} p a s t o l full =
    let z = left_settled n p l in
    let q : p.stage ≡ Settled = settled_stage p.stage z.0 in
    let since : Since n grouping p a = subst (Staged n grouping p a) q t.staged in
    let f : AfterSettlement n p = subst (AtStage n p) q s.at_stage in
    record {
      opened = o;
      settled = since.settled;
      clear = λ i h. omega (arith, arrears_is n p a t since i h, z.1, sum_term (at p.arrears) n i h);
      paid_in_full = λ i h. sym (t.paid i h) ∙ full i h ∙ claim_is n p a t since i h;
      exact = cut_off n p a t since f;
      paid_within = omega (arith, f.paid_within, received_total n p a t, paid_total n p a t);
    }

-- an entry that names a period in the book, with no more to draw
module _ (s : State) (x : Input) (f : SoundState s) (i : Entered s x) (o : Names s x) (g : Ledger) (inv : Inv s.n s.grouping s.highest s.periods s.purses g) where
  abbrev p : Period
  p = period_at (period_of x.entry) s.periods

  abbrev l : List Period
  l = take (find (period_of x.entry) s.periods) s.periods

  abbrev r : List Period
  r = drop (suc (find (period_of x.entry) s.periods)) s.periods

  abbrev c : Change
  c = changed s.n s.grouping x.entry (period_at (period_of x.entry) s.periods)

  abbrev y : Accepted
  y = record { entry = x.entry; words = payout_words s.n c.pays x.words }

  abbrev a : Account
  a = g.account (period_at (period_of x.entry) s.periods).number

  in_book : InBook s.n s.grouping p
  in_book = named_in_book s x f i o

  changes : Changes s.n (receipt_cents x.entry) p c
  changes = named_changes s x f i o

  paid : Paid s.n c.pays y.words
  paid = payout_at s.n c.pays x.words

  split : Inv s.n s.grouping s.highest (l ++ p ∷ r) s.purses g
  split = subst (λ ps. Inv s.n s.grouping s.highest ps s.purses g) (find_split (period_of x.entry) s.periods o.found) inv

  kept : Kept s.n s.grouping g p
  kept = (all_right (Kept s.n s.grouping g) l (p ∷ r) split.each).0

  here : period_of x.entry ≡ p.number
  here = sym (find_number (period_of x.entry) s.periods o.found)

  own : (with_entry y g).account p.number ≡ entered y a
  own = account_same p.number y g o.not_purse here

  other : (k : ℕ) → (p.number ≡ k → ⊥) → (with_entry y g).account k ≡ g.account k
  other k ne = account_other k y g (λ q. ne (sym here ∙ named_period k x.entry q))

  tracks : Tracks s.n s.grouping c.period ((with_entry y g).account p.number)
  tracks = subst (Tracks s.n s.grouping c.period) (sym own)
      (entry_tracks s.n p in_book a kept.tracks y.words x.entry _ o.not_open o.not_purse i.fields o.passed paid)

  opened_once : ((with_entry y g).account p.number).openings ≡ 1
  unfolding entered
  opened_once = ap (λ (a : Account). a.openings) own ∙ rw o.not_open (omega (arith, kept.opened))

  purse : (i : ℕ) → i < s.n → at s.purses i ≡ (with_entry y g).purse i
  purse i h = inv.purse i h ∙ sym (purse_same i y g o.not_purse)

  acted_inv : let y : Accepted = record { entry = x.entry; words = (acted s x).words } in let t = (acted s x).state in
      Inv s.n s.grouping t.highest t.periods t.purses (with_entry y g)
  unfolding acted stored replaced removed
  acted_inv =
      cases (λ (t : State). Inv s.n s.grouping t.highest t.periods t.purses (with_entry y g)) (leaves s.n c.period)
      (λ q. goes s.n s.highest g l p r s.purses split (with_entry y g) other s.purses purse
      (closes s.n c.period ((with_entry y g).account p.number) changes.sound tracks opened_once q (changes.full q)))
      (λ q. stays s.n s.highest g l p r s.purses split (with_entry y g) other s.purses purse c.period changes.number tracks opened_once)

  -- tiers are in order where it is a late receipt
  acted_in_order : let y : Accepted = record { entry = x.entry; words = (acted s x).words } in let R = retention s.n s.grouping in
      (k : ℕ) → names k x.entry ≡ true → is_receipt x.entry ≡ true → 0 < (g.account k).settlements → TiersInOrder s.n R (g.account k) ((with_entry y g).account k)
  unfolding acted
  acted_in_order k q u z =
      let e : p.number ≡ k = sym here ∙ named_period k x.entry q in
      let R : Account → ℕ → ℕ = retention s.n s.grouping in
      subst (λ (k : ℕ). 0 < (g.account k).settlements → TiersInOrder s.n R (g.account k) ((with_entry y g).account k)) e
      (λ z. subst (TiersInOrder s.n R a) (sym own) (entry_in_order s.n p in_book a kept.tracks y.words x.entry _ o.passed paid u z)) z

-- what an entry that names a period in the book draws is moved, and then it is entered
module _ (s : State) (x : Input) (f : SoundState s) (i : Entered s x) (o : Names s x) (g : Ledger) (inv : Inv s.n s.grouping s.highest s.periods s.purses g) where
  abbrev e : Entry
  e = x.entry

  abbrev R : Account → ℕ → ℕ
  R = retention s.n s.grouping

  -- a settle entry that is accepted settles its period
  settles_it : is_settle e ≡ true → settles e (period_at (period_of e) s.periods) ≡ true
  settles_it q = settle_settles s.n _ e (period_at (period_of e) s.periods) q o.passed

  -- what it draws is moved in the book and in what the log comes to
  drawing_inv : Inv s.n s.grouping s.highest (periods_after s x.entry) (purses_after s x.entry)
      (cond (is_settle x.entry) (with_draws s.n (retention s.n s.grouping) (period_of x.entry) g) g)
  drawing_inv = by_drawing s e (λ ps purses. Inv s.n s.grouping s.highest ps purses (cond (is_settle e) (with_draws s.n R (period_of e) g) g))
      (λ q. rw (settling e (period_at (period_of e) s.periods) q).0 (drawn_inv s x f i o g inv q))
      (λ q. cases (Inv s.n s.grouping s.highest s.periods s.purses) (is_settle e) (λ u. absurd (true≢false (sym (settles_it u) ∙ q))) (λ _. inv))

  pub names_inv : let t = after_drawing s x.entry in let y : Accepted = record { entry = x.entry; words = (acted t x).words } in
      Inv s.n s.grouping (acted t x).state.highest (acted t x).state.periods (acted t x).state.purses
      (with_entry y (cond (is_settle x.entry) (with_draws s.n (retention s.n s.grouping) (period_of x.entry) g) g))
  names_inv = acted_inv (after_drawing s e) x (after_fit s e f o.found) (after_entered s x i) (after_names s x f o) _ drawing_inv

  -- tiers are in order where it is a late receipt, and what it draws is within purse and unpaid where it settles
  pub names_in_order : let y : Accepted = record { entry = x.entry; words = (acted (after_drawing s x.entry) x).words } in let R = retention s.n s.grouping in
      (k : ℕ) → names k x.entry ≡ true → is_receipt x.entry ≡ true → 0 < (g.account k).settlements
      → TiersInOrder s.n R (g.account k) ((with_entry y (cond (is_settle x.entry) (with_draws s.n R (period_of x.entry) g) g)).account k)
  names_in_order k q u z =
      let v : is_settle e ≡ false = receipt_not_settle e u in
      subst (λ (t : State). TiersInOrder s.n R (g.account k) ((with_entry (record { entry = e; words = (acted t x).words }) (cond (is_settle e) (with_draws s.n R (period_of e) g) g)).account k)) (sym (no_drawing s e v))
      (rw v (acted_in_order s x f i o g inv k q u z))

  pub names_within : let k = period_of x.entry in let R = retention s.n s.grouping in
      is_settle x.entry ≡ true → (i : ℕ) → i < s.n → (draws s.n R g k i ≤ g.purse i) × ((g.account k).before i + draws s.n R g k i ≤ payable s.n R (g.account k) i)
  names_within q = draws_within s x f i o g inv (settles_it q)
