-- The invariant holds after every list of entries from a book just made.
use Prim.Native.Nat.{ℕ, ◌+◌, ◌≤◌, ◌<◌}
use mathlib.Core.Path.{◌≡◌, refl, sym, ap, subst, subst₂, ◌∙◌}
use mathlib.Core.Bool.{Bool, true, false, cond, false≢true}
use mathlib.Core.List.{List, [], ◌∷◌}
use mathlib.Core.Logic.{◌⊎◌, inl, inr, ⊎_elim}
use native.Mathlib.Omega.{arith}
use borrow.Author.Tests.{eqb-true, eq-eqb, ne_eqb}
use lib.Dec.{eqb}
use Rattle.exact.specs.Rows.{places}
use Rattle.exact.proofs.Cases.{cases, eq_or_ne}
use Rattle.settlement.specs.declared.groups.Grouping.{Grouping}
use Rattle.book.specs.Checks.{refusal}
use Rattle.book.specs.layouts.Entries.{kind_of}
use Rattle.book.specs.rules.Kinds.{period_of, names, is_open, is_receipt, is_settle, is_purse, purse_of, purse_cents}
use Rattle.book.specs.rules.Periods.{zeros, raised, fresh, leaves}
use Rattle.book.specs.rules.State.{State, view, pack, held_in, held_by, replaced, removed, added, with_purses}
use Rattle.book.specs.rules.Makings.{making_checks, made, grouping_of, kept, no_making, empty_state}
use Rattle.book.specs.rules.Refusals.{Input, checks}
use Rattle.book.specs.rules.Step.{Outcome, stored, payout_words, acted, accepted, step, reply}
use Rattle.book.specs.rules.Valid.{SoundState}
use Rattle.book.specs.history.Log.{Accepted, Log, Account, with_entry, draws, ledger, account, purse, money_received, money_paid, payable, retention}
use Rattle.book.specs.history.Demand3.{History, begun, next, after, WasSettled, TiersInOrder, LateInOrder, DrawnWithin}
use Rattle.book.specs.declared.entries.Entry.{Entry}
use Rattle.book.specs.declared.makings.Making.{Making}
use Rattle.book.proofs.rules.CellLaws.{zeros_at}
use Rattle.book.proofs.rules.ChangeLaws.{no_pays}
use Rattle.book.proofs.rules.CentsLaws.{step_cents}
use Rattle.book.proofs.rules.LimitLaws.{many_places}
use Rattle.book.proofs.rules.StepLaws.{Opens, Raises, Names, enters, by_kind, step_accepted, step_refused, step_answer, accepted_opens, accepted_raises, accepted_names}
use Rattle.book.proofs.rules.ValidLaws.{made_fit, step_fit, view_pack}
use Rattle.book.proofs.rules.WordLaws.{payout_at}
use Rattle.book.proofs.history.Invariant.{Inv}
use Rattle.book.proofs.history.Opening.{opens_inv, raises_inv}
use Rattle.book.proofs.history.Naming.{names_inv, names_in_order, names_within}

-- the log after an entry
abbrev pub logged : Input → Outcome → Log → Log
logged x o log = cond (eqb o.answer 0) (record { entry = x.entry; words = o.words } ∷ log) log

-- what is told of the log beside the state: late receipts in order, what was drawn, and cents in are cents out and cents held
pub record Told (n : ℕ) (grouping : Grouping) (held : ℕ) (log : Log) : Type 0 where
  pub order : LateInOrder n (retention n grouping) log
  pub drawn_within : DrawnWithin n (retention n grouping) log
  pub cents : money_received log ≡ money_paid n log + held

-- an open entry and a purse entry are no receipts, and settle nothing
record Other (e : Entry) : Type 0 where
  not_receipt : is_receipt e ≡ false
  not_settle : is_settle e ≡ false

open_other : (e : Entry) → is_open e ≡ true → Other e
open_other e q = let k = eqb-true (kind_of e) 1 q in record { not_receipt = rw k; not_settle = rw k }

purse_other : (e : Entry) → is_purse e ≡ true → Other e
purse_other e q = let k = eqb-true (kind_of e) 7 q in record { not_receipt = rw k; not_settle = rw k }

-- an entry that settles nothing draws nothing
module _ (n : ℕ) (R : Account → ℕ → ℕ) (y : Accepted) (log : Log) (u : is_settle y.entry ≡ false) where
  ledger_more : ledger n R (y ∷ log) ≡ with_entry y (ledger n R log)
  unfolding ledger
  ledger_more = rw u

module _ (s : State) (x : Input) (f : SoundState s) (log : Log) where
  abbrev R : Account → ℕ → ℕ
  R = retention s.n s.grouping

  -- what holds of a state t with a log
  abbrev Holds : State → Log → Type 0
  Holds t log = Inv s.n s.grouping t.highest t.periods t.purses (ledger s.n (retention s.n s.grouping) log)

  module _ (inv : Holds s log) where
    abbrev quiet : Accepted
    quiet = record { entry = x.entry; words = payout_words s.n (zeros places) x.words }

    opened_inv : Opens s x → Holds (added s (fresh (period_of x.entry))) (quiet ∷ log)
    unfolding added fresh
    opened_inv o = subst (Inv s.n s.grouping (period_of x.entry) _ s.purses) (sym (ledger_more s.n R quiet log (open_other x.entry o.is_open_lem).not_settle))
        (opens_inv s.n s.highest s.periods s.purses (ledger s.n R log) inv quiet o.is_open_lem o.above (payout_at s.n (zeros places) x.words))

    raised_inv : Raises s x → Holds (with_purses s (raised s.purses (purse_of x.entry) (purse_cents x.entry))) (quiet ∷ log)
    raised_inv o = subst (Inv s.n s.grouping s.highest s.periods _) (sym (ledger_more s.n R quiet log (purse_other x.entry o.is_purse_lem).not_settle))
        (raises_inv s.n s.highest s.periods s.purses (ledger s.n R log) inv quiet o.is_purse_lem (omega (arith, o.member, many_places f, f.purses_size)))

    accepted_inv : refusal (checks s x) ≡ 0 → Holds (step s x).state (logged x (step s x) log)
    unfolding ledger acted
    accepted_inv e =
        let i = enters s x e in
        ⊎_elim
        (λ (o : Opens s x). rw (step_accepted s x e, accepted_opens s x o) (opened_inv o))
        (⊎_elim
        (λ (o : Raises s x). rw (step_accepted s x e, accepted_raises s x o) (raised_inv o))
        (λ (o : Names s x). rw (step_accepted s x e, accepted_names s x o) (names_inv s x f i.0 o (ledger s.n R log) inv)))
        (by_kind s x i.1)

  -- what is told of the log with one more entry
  module _ (inv : Holds s log) (told : Told s.n s.grouping (held_by s) log) (e : refusal (checks s x) ≡ 0) where
    abbrev y : Accepted
    y = record { entry = x.entry; words = (step s x).words }

    abbrev InOrder : Accepted → Type 0
    InOrder y = (k : ℕ) → names k y.entry ≡ true → is_receipt y.entry ≡ true → WasSettled s.n R k log → TiersInOrder s.n R (account s.n R k log) (account s.n R k (y ∷ log))

    abbrev Within : Type 0
    Within = is_settle x.entry ≡ true → (i : ℕ) → i < s.n
        → let k = period_of x.entry in
        (draws s.n R (ledger s.n R log) k i ≤ purse s.n R i log)
        × ((account s.n R k log).before i + draws s.n R (ledger s.n R log) k i ≤ payable s.n R (account s.n R k log) i)

    in_order : InOrder y
    unfolding ledger
    in_order =
        let i = enters s x e in
        ⊎_elim
        (λ (o : Opens s x). λ k q r. absurd (false≢true (sym (open_other x.entry o.is_open_lem).not_receipt ∙ r)))
        (⊎_elim
        (λ (o : Raises s x). λ k q r. absurd (false≢true (sym (purse_other x.entry o.is_purse_lem).not_receipt ∙ r)))
        (λ (o : Names s x). subst (λ (w : List ℕ). InOrder (record { entry = x.entry; words = w })) (sym (ap (λ (o : Outcome). o.words) (step_accepted s x e ∙ accepted_names s x o)))
        (names_in_order s x f i.0 o (ledger s.n R log) inv)))
        (by_kind s x i.1)

    within : Within
    within =
        let i = enters s x e in
        ⊎_elim
        (λ (o : Opens s x). λ r. absurd (false≢true (sym (open_other x.entry o.is_open_lem).not_settle ∙ r)))
        (⊎_elim
        (λ (o : Raises s x). λ r. absurd (false≢true (sym (purse_other x.entry o.is_purse_lem).not_settle ∙ r)))
        (λ (o : Names s x). names_within s x f i.0 o (ledger s.n R log) inv))
        (by_kind s x i.1)

    told_more : Told s.n s.grouping (held_by (step s x).state) (y ∷ log)
    unfolding money_received money_paid
    told_more = record {
      order = (in_order, told.order);
      drawn_within = (within, told.drawn_within);
      cents = omega (arith, told.cents, step_cents s x f e);
    }

    accepted_told : Told s.n s.grouping (held_by (step s x).state) (logged x (step s x) log)
    accepted_told = rw (eq-eqb (step s x).answer 0 (step_answer s x ∙ e)) told_more

-- the same participants, in the same groups
abbrev SameGroups : State → State → Type 0
SameGroups s t = (t.n ≡ s.n) × (t.grouping ≡ s.grouping)

-- an entry leaves these
pub step_groups : (s : State) (x : Input) → SameGroups s (step s x).state
unfolding step accepted acted stored replaced removed added
step_groups s x =
    cases (λ (o : Outcome). SameGroups s o.state) (eqb (refusal (checks s x)) 0)
    (λ _. cases (λ (o : Outcome). SameGroups s o.state) (is_open x.entry) (λ _. (refl, refl))
    (λ _. cases (λ (o : Outcome). SameGroups s o.state) (is_purse x.entry) (λ _. (refl, refl))
    (λ _. cases (SameGroups s) (leaves s.n _) (λ _. (refl, refl)) (λ _. (refl, refl)))))
    (λ _. (refl, refl))

-- the state of a refused book
pub record Empty (s : State) : Type 0 where
  pub none : s.n ≡ 0
  pub no_periods : s.periods ≡ []
  pub no_purses : s.purses ≡ zeros places

-- a book has n participants in these groups, or was refused, and then it stays empty
abbrev pub MadeWith : ℕ → Grouping → State → Type 0
MadeWith n grouping s = Empty s ⊎ ((s.n ≡ n) × (s.grouping ≡ grouping))

-- what holds of a state and a log
pub record Stands (n : ℕ) (grouping : Grouping) (s : State) (log : Log) : Type 0 where
  pub made_with : MadeWith n grouping s
  pub inv : Inv n grouping s.highest s.periods s.purses (ledger n (retention n grouping) log)
  pub told : Told n grouping (held_by s) log

-- the book of a history is the record of a state, of which that holds
pub record Reached (n : ℕ) (grouping : Grouping) (h : History) : Type 0 where
  pub state : State
  pub book : h.book ≡ pack state
  pub fit : SoundState state
  pub stands : Stands n grouping state h.log

module _ (n : ℕ) (grouping : Grouping) (s : State) (x : Input) (log : Log) (f : SoundState s) (stands : Stands n grouping s log) where
  refused_after : (refusal (checks s x) ≡ 0 → ⊥) → Stands n grouping (step s x).state (logged x (step s x) log)
  refused_after e = rw (step_refused s x e, ne_eqb (refusal (checks s x)) 0 e) stands

  same_after : (s.n ≡ n) × (s.grouping ≡ grouping) → refusal (checks s x) ≡ 0 → Stands n grouping (step s x).state (logged x (step s x) log)
  same_after q e =
      let own : Stands s.n s.grouping s log = subst₂ (λ (m : ℕ) (g : Grouping). Stands m g s log) (sym q.0) (sym q.1) stands in
      subst₂ (λ (m : ℕ) (g : Grouping). Stands m g (step s x).state (logged x (step s x) log)) q.0 q.1 (record {
        made_with = inr (step_groups s x);
        inv = accepted_inv s x f log own.inv e;
        told = accepted_told s x f log own.inv own.told e;
      })

  step_stands : Stands n grouping (step s x).state (logged x (step s x) log)
  step_stands = ⊎_elim
      (λ e. ⊎_elim (λ (q : Empty s). absurd (omega (arith, (enters s x e).0.some, q.none))) (λ (q : (s.n ≡ n) × (s.grouping ≡ grouping)). same_after q e) stands.made_with)
      refused_after
      (eq_or_ne (refusal (checks s x)) 0)

pub next_reached : (n : ℕ) {grouping : Grouping} (h : History) (x : Input) → Reached n grouping h → Reached n grouping (next h x)
unfolding next reply
next_reached n {grouping} h x r =
    let same : view h.book ≡ r.state = ap view r.book ∙ view_pack r.state in
    record {
      state = (step r.state x).state;
      book = ap (λ (s : State). pack (step s x).state) same;
      fit = step_fit r.state x r.fit;
      stands = subst (λ (s : State). Stands n grouping (step r.state x).state (logged x (step s x) h.log)) (sym same) (step_stands n grouping r.state x h.log r.fit r.stands);
    }

begun_reached : (m : Making) → Reached m.n (grouping_of m) (begun m)
unfolding begun made ledger money_received money_paid held_by held_in
begun_reached m = record {
  state = (made m).state;
  book = refl;
  fit = made_fit m;
  stands = record {
    made_with = go (eqb (refusal (making_checks m)) 0);
    inv = record {
      rising = tt;
      tops = tt;
      each = tt;
      above = λ k _. refl;
      known = λ k. inl refl;
      purse = λ i _. zeros_at places i;
    };
    told = record { order = tt; drawn_within = tt; cents = omega (arith, no_pays (made m).state.n) };
  };
}
  where
    go : (t : Bool) → MadeWith m.n (grouping_of m) (empty_state (cond t (kept m) no_making))
    go true = inr (refl, refl)
    go false = inl (record { none = refl; no_periods = refl; no_purses = refl })

after_reached : (n : ℕ) {grouping : Grouping} (h : History) → Reached n grouping h → (inputs : List Input) → Reached n grouping (after h inputs)
unfolding after
after_reached n h r [] = r
after_reached n h r (x ∷ inputs) = after_reached n (next h x) (next_reached n h x r) inputs

pub reached : (m : Making) (inputs : List Input) → Reached m.n (grouping_of m) (after (begun m) inputs)
reached m inputs = after_reached m.n (begun m) (begun_reached m) inputs
