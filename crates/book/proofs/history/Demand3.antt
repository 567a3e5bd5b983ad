-- Demand 3, from the invariant after the list.
use Prim.Native.Nat.{ℕ, ◌+◌, ◌-◌, ◌≤◌, ◌<◌}
use mathlib.Core.Path.{◌≡◌, refl, sym, ap, subst, subst₂, fun_ext, ◌∙◌}
use mathlib.Core.Bool.{true≢false}
use mathlib.Core.List.{List, [], ◌∷◌}
use mathlib.Core.Logic.{◌⊎◌, inl, inr, ⊎_elim}
use native.Mathlib.Omega.{arith}
use Rattle.exact.specs.Rows.{at, sum}
use Rattle.exact.proofs.RowLaws.{sum_zero, sum_mono, sum_cong}
use Rattle.settlement.specs.Settling.{held}
use Rattle.settlement.specs.declared.groups.Grouping.{Grouping}
use Rattle.book.specs.rules.Periods.{is_settled, holds}
use Rattle.book.specs.rules.State.{State, view, held_in, held_by, numbers, numbers_in}
use Rattle.book.specs.rules.Makings.{grouping_of}
use Rattle.book.specs.rules.Valid.{All, AtStage, InBook, Valid, AfterSettlement}
use Rattle.book.specs.history.Log.{Log, Account, Ledger, nothing, ledger, purse, received, held_money, unpaid_claims, arrears, retention, month_in}
use Rattle.book.specs.history.Demand3.{History, begun, after, Has, held_over, money_held, WasOpened, WasSettled, WithoutArrears, NothingCutOff, Clauses, Demand3}
use Rattle.book.specs.declared.Stage.{Stage}
use Rattle.book.specs.declared.Stage.TheVariants.{Opened, Noticed, Settled}
use Rattle.book.specs.declared.Period.{Period}
use Rattle.book.specs.declared.makings.Making.{Making}
use Rattle.book.specs.declared.Book.{Book}
use Rattle.book.proofs.rules.ChangeLaws.{no_pays, paid_within, clear_leaves}
use Rattle.book.proofs.rules.MakingLaws.{kept_retention}
use Rattle.book.proofs.rules.ListLaws.{rising_numbers, all_both, all_has}
use Rattle.book.proofs.history.Tracking.{Since, Staged}
use Rattle.book.proofs.history.Reckoned.{received_total, paid_total, arrears_total, cut_off, claims_balance, none_held, little_held}
use Rattle.book.proofs.rules.ValidLaws.{view_pack, pack_valid}
use Rattle.book.proofs.records.Packing.{kept_held}
use Rattle.book.proofs.history.Invariant.{Closed, Kept, Inv}
use Rattle.book.proofs.history.Histories.{Empty, Stands, Reached, reached}

-- a period in the book, sound and with what the log comes to
record Present (n : ℕ) (grouping : Grouping) (g : Ledger) (p : Period) : Type 0 where
  in_book : InBook n grouping p
  kept : Kept n grouping g p

-- its account is settled only at the stage of a settled period
settled_since : (n : ℕ) (grouping : Grouping) (p : Period) (a : Account) → 0 < a.settlements → (s : Stage) → Staged n grouping p a s → s ≡ Settled
settled_since n grouping p a x Opened u = absurd (omega (arith, u.unsettled))
settled_since n grouping p a x Noticed u = absurd (omega (arith, u.unsettled))
settled_since n grouping p a x Settled u = refl

settled_once : (n : ℕ) (grouping : Grouping) (p : Period) (a : Account) (s : Stage) → Staged n grouping p a s → a.settlements ≤ 1
settled_once n grouping p a Opened u = omega (arith, u.unsettled)
settled_once n grouping p a Noticed u = omega (arith, u.unsettled)
settled_once n grouping p a Settled u = omega (arith, u.settled)

module _ (n : ℕ) {grouping : Grouping} (g : Ledger) (p : Period) (h : Present n grouping g p) where
  abbrev a : Account
  a = g.account p.number

  holds_is : holds n p ≡ held_money n (g.account p.number)
  unfolding holds held
  holds_is = omega (arith, received_total n p a h.kept.tracks, paid_total n p a h.kept.tracks)

  solvent_there : sum (g.account p.number).paid n ≤ sum (received n (g.account p.number)) n
  solvent_there = omega (arith, paid_within n p h.in_book.sound, received_total n p a h.kept.tracks, paid_total n p a h.kept.tracks)

  -- a settled one
  module _ (x : 0 < (g.account p.number).settlements) where
    stage : p.stage ≡ Settled
    stage = settled_since n grouping p a x p.stage h.kept.tracks.staged

    since : Since n grouping p (g.account p.number)
    since = subst (Staged n grouping p a) stage h.kept.tracks.staged

    at_stage : AfterSettlement n p
    at_stage = subst (AtStage n p) stage h.in_book.sound.at_stage

    in_arrears_lem : ((i : ℕ) → i < n → arrears n (retention n grouping) (g.account p.number) i ≡ 0) → ⊥
    in_arrears_lem z =
        let none = sum_zero (arrears n (retention n grouping) a) n z in
        true≢false (sym (clear_leaves n p (ap is_settled stage) (arrears_total n p a h.kept.tracks since ∙ none)) ∙ h.in_book.stays)

    cut_off_there : (i : ℕ) → i < n → NothingCutOff n (retention n grouping) (g.account p.number) i
    cut_off_there = cut_off n p a h.kept.tracks since at_stage

    claims_there : unpaid_claims n (retention n grouping) (g.account p.number) ≡ sum (arrears n (retention n grouping) (g.account p.number)) n + held_money n (g.account p.number)
    claims_there = claims_balance n p a h.kept.tracks since at_stage

    little_there : held_money n (g.account p.number) ≤ n - 1
    little_there = little_held n p a h.kept.tracks since at_stage

    none_there : 0 < sum (g.account p.number).late n → held_money n (g.account p.number) ≡ 0
    none_there l = none_held n p a h.kept.tracks since l

held_listed : (n : ℕ) (grouping : Grouping) (log : Log) (ps : List Period) → All (Present n grouping (ledger n (retention n grouping) log)) ps
    → held_in n ps ≡ held_over n (retention n grouping) log (numbers ps)
unfolding held_in held_over
held_listed n grouping log [] u = refl
held_listed n grouping log (p ∷ ps) u = omega (arith, holds_is n (ledger n (retention n grouping) log) p u.0, held_listed n grouping log ps u.1)

-- of the book b with a log
module _ (n : ℕ) {grouping : Grouping} (b : Book) (log : Log) (valid : Valid b) (stands : Stands n grouping (view b) log) where
  abbrev R : Account → ℕ → ℕ
  R = retention n grouping

  abbrev g : Ledger
  g = ledger n (retention n grouping) log

  inv : Inv n grouping b.highest (view b).periods b.purses (ledger n (retention n grouping) log)
  inv = stands.inv

  present : All (Present n grouping (ledger n (retention n grouping) log)) (view b).periods
  present = all_both (InBook n grouping) (Kept n grouping g) (Present n grouping g) (λ p i k. record { in_book = i; kept = k }) (view b).periods books inv.each
    where
      books : All (InBook n grouping) (view b).periods
      books = ⊎_elim
          (λ (q : Empty (view b)). subst (All (InBook n grouping)) (sym q.no_periods) tt)
          (λ (q : (b.n ≡ n) × (b.grouping ≡ grouping)). subst₂ (λ (m : ℕ) (g : Grouping). All (InBook m g) (view b).periods) q.0 q.1 valid.fit.each)
          stands.made_with

  -- a refused book holds nothing, by any n
  empty_held : Empty (view b) → (m : ℕ) → held_in m (view b).periods + sum (at b.purses) m ≡ 0
  unfolding held_in
  empty_held q m = rw (q.no_periods, q.no_purses) (omega (arith, no_pays m))

  held_there : held_by (view b) ≡ held_in n (view b).periods + sum (at b.purses) n
  unfolding held_by
  held_there = ⊎_elim
      (λ (q : Empty (view b)). empty_held q b.n ∙ sym (empty_held q n))
      (λ (q : (b.n ≡ n) × (b.grouping ≡ grouping)). ap (λ (m : ℕ). held_in m (view b).periods + sum (at b.purses) m) q.0)
      stands.made_with

  -- the cents that the book holds are the money held, in its periods and its purses
  held_is : held_by (view b) ≡ money_held n (retention n grouping) log (numbers_in b)
  held_is = omega (arith, held_there, held_listed n grouping log (view b).periods present, sum_cong (at b.purses) (λ i. purse n R i log) n inv.purse)

  -- a fact of every period in the book, by its number
  there : (P : ℕ → Type 0) → ((p : Period) → Present n grouping (ledger n (retention n grouping) log) p → P p.number) → (k : ℕ) → Has k (numbers_in b) → P k
  there P f k q =
      let found = all_has (Present n grouping g) k (view b).periods present q in
      subst P found.1 (f found.0 found.2)

  -- a fact of every period: one never named, one in the book, one that has left
  anywhere : (P : Account → Type 0) → P nothing → ((p : Period) → Present n grouping (ledger n (retention n grouping) log) p → P ((ledger n (retention n grouping) log).account p.number))
      → ((a : Account) → Closed n grouping a → P a) → (k : ℕ) → P ((ledger n (retention n grouping) log).account k)
  anywhere P f there_too c k = go (inv.known k)
    where
      go : (g.account k ≡ nothing) ⊎ (Has k (numbers_in b) ⊎ Closed n grouping (g.account k)) → P (g.account k)
      go (inl q) = subst P (sym q) f
      go (inr (inl q)) = there (λ k. P (g.account k)) there_too k q
      go (inr (inr q)) = c (g.account k) q

  -- an opened period that is not in the book has left
  gone : (k : ℕ) → WasOpened n (retention n grouping) k log → (Has k (numbers_in b) → ⊥) → Closed n grouping ((ledger n (retention n grouping) log).account k)
  unfolding nothing
  gone k o ne = go (inv.known k)
    where
      go : (g.account k ≡ nothing) ⊎ (Has k (numbers_in b) ⊎ Closed n grouping (g.account k)) → Closed n grouping (g.account k)
      go (inl q) = absurd (omega (arith, ap (λ (a : Account). a.openings) q))
      go (inr (inl q)) = absurd (ne q)
      go (inr (inr q)) = q

  clauses : Clauses n (retention n grouping) (record { book = b; log = log })
  unfolding nothing
  clauses = record {
    valid = valid;
    cents = omega (arith, stands.told.cents, held_is);
    listed = kept_held valid ∙ held_is;
    claims = there _ (claims_there n g);
    held_bound = there _ (little_there n g);
    late_held = there _ (none_there n g);
    left = λ k o ne. let c = gone k o ne in (omega (arith, c.settled), c.clear);
    leaves = λ k o x z q. there (λ k. WasSettled n R k log → WithoutArrears n R k log → ⊥) (in_arrears_lem n g) k q x z;
    paid_in_full = λ k o ne. (gone k o ne).paid_in_full;
    present = there _ (λ p h. omega (arith, h.kept.opened));
    rising = rising_numbers (view b).periods inv.rising;
    once = anywhere (λ a. (a.openings ≤ 1) × (a.settlements ≤ 1)) (omega arith, omega arith)
        (λ p h. (omega (arith, h.kept.opened), settled_once n grouping p (g.account p.number) p.stage h.kept.tracks.staged))
        (λ a c. (omega (arith, c.opened), omega (arith, c.settled)));
    order = stands.told.order;
    drawn_within = stands.told.drawn_within;
    nothing_cut_off = anywhere (λ a. 0 < a.settlements → (i : ℕ) → i < n → NothingCutOff n R a i) (λ x. absurd (omega arith)) (cut_off_there n g) (λ a c _. c.exact);
    paid_within = anywhere (λ a. sum a.paid n ≤ sum (received n a) n) (sum_mono (λ i. 0) (λ i. 0 + 0) n (λ i _. omega arith)) (solvent_there n g) (λ a c. c.paid_within);
  }

-- the account's retention over the groups that the book keeps is that over those it was given
given_retention : (m : Making) → retention m.n (grouping_of m) ≡ retention m.n m.grouping
given_retention m = fun_ext (λ a. fun_ext (λ i. kept_retention m (month_in m.n a) refl i))

pub demand3 : Demand3
demand3 m inputs =
    let h : History = after (begun m) inputs in
    let r : Reached m.n (grouping_of m) h = reached m inputs in
    let same : view h.book ≡ r.state = ap view r.book ∙ view_pack r.state in
    subst (λ (retained : Account → ℕ → ℕ). Clauses m.n retained h) (given_retention m)
    (clauses m.n h.book h.log
    (subst Valid (sym r.book) (pack_valid r.state r.fit))
    (subst (λ (s : State). Stands m.n (grouping_of m) s h.log) (sym same) r.stands))
