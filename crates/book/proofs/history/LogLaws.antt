-- Laws of accounts and purses: an entry enters the account of the period that it names, and no other.
use Prim.Native.Nat.{ℕ, ◌+◌, ◌<◌}
use mathlib.Core.Path.{◌≡◌, refl, sym}
use mathlib.Core.Bool.{true, false, cond}
use native.Mathlib.Omega.{arith}
use borrow.Author.Tests.{eq-eqb, ne_eqb}
use lib.Dec.{eqb}
use Rattle.exact.proofs.Cases.{cases, cases_eq}
use Rattle.book.specs.rules.Kinds.{is_purse, period_of, names, purse_of, purse_cents}
use Rattle.book.specs.history.Log.{Accepted, Account, Ledger, entered, moved_in, with_entry, draws, with_draws, adds_by, adds_to, received_from, month_in}
use Rattle.book.proofs.rules.KindLaws.{names_same}

module _ (k : ℕ) (x : Accepted) (g : Ledger) where
  pub account_same : is_purse x.entry ≡ false → period_of x.entry ≡ k → (with_entry x g).account k ≡ entered x (g.account k)
  unfolding with_entry
  account_same u q = rw (names_same k x.entry u q)

  pub account_other : (names k x.entry ≡ true → ⊥) → (with_entry x g).account k ≡ g.account k
  unfolding with_entry
  account_other ne = cases (λ (a : Account). a ≡ g.account k) (names k x.entry) (λ q. absurd (ne q)) (λ _. refl)

-- a purse grows by the entries that add to it
module _ (i : ℕ) (x : Accepted) (g : Ledger) where
  pub purse_same : is_purse x.entry ≡ false → (with_entry x g).purse i ≡ g.purse i
  unfolding with_entry
  purse_same u = rw u (omega arith)

  pub purse_grows : is_purse x.entry ≡ true → (with_entry x g).purse i ≡ cond (eqb (purse_of x.entry) i) (purse_cents x.entry) 0 + g.purse i
  unfolding with_entry
  purse_grows u = rw u

pub moved_openings : (drawn : ℕ → ℕ) (a : Account) → (moved_in drawn a).openings ≡ a.openings
unfolding moved_in
moved_openings drawn a = refl

-- what a settle entry draws enters its period, and no other
module _ (n : ℕ) (retained : Account → ℕ → ℕ) (k : ℕ) (g : Ledger) where
  pub moved_own : (with_draws n retained k g).account k ≡ moved_in (draws n retained g k) (g.account k)
  unfolding with_draws
  moved_own = rw (eq-eqb k k refl)

  pub moved_other : (j : ℕ) → (k ≡ j → ⊥) → (with_draws n retained k g).account j ≡ g.account j
  unfolding with_draws
  moved_other j ne = rw (ne_eqb j k (λ q. ne (sym q)))

module _ (n : ℕ) (x : Accepted) (a : Account) where
  -- an entry without an amount leaves the month
  pub month_still : ((i : ℕ) → adds_by i x.entry ≡ 0) → ((t i : ℕ) → adds_to t i x.entry ≡ 0) → month_in n a ≡ month_in n (entered x a)
  unfolding entered
  month_still f g = λ z. record { n = n; by = λ i. by i z; to = λ t i. to t i z }
    where
      by : (i : ℕ) → a.by i ≡ adds_by i x.entry + a.by i
      by i = omega (arith, f i)

      to : (t i : ℕ) → a.to t i ≡ adds_to t i x.entry + a.to t i
      to t i = omega (arith, g t i)

  -- receipts before the settle entry, and late ones
  module _ (i : ℕ) where
    pub before_unsettled : a.settlements ≡ 0 → (entered x a).before i ≡ received_from i x.entry + a.before i
    unfolding entered
    before_unsettled e = rw (eq-eqb a.settlements 0 e)

    pub late_unsettled : a.settlements ≡ 0 → (entered x a).late i ≡ a.late i
    unfolding entered
    late_unsettled e = rw (eq-eqb a.settlements 0 e) (omega arith)

    pub before_settled : 0 < a.settlements → (entered x a).before i ≡ a.before i
    unfolding entered
    before_settled e = rw (ne_eqb a.settlements 0 (λ q. omega arith)) (omega arith)

    pub late_settled : 0 < a.settlements → (entered x a).late i ≡ received_from i x.entry + a.late i
    unfolding entered
    late_settled e = rw (ne_eqb a.settlements 0 (λ q. omega arith))

    pub received_grows : (entered x a).before i + (entered x a).late i ≡ received_from i x.entry + (a.before i + a.late i)
    unfolding entered
    received_grows =
        cases_eq (λ z. z + a.before i + (cond (eqb a.settlements 0) 0 (received_from i x.entry) + a.late i) ≡ received_from i x.entry + (a.before i + a.late i)) a.settlements 0
        (λ e. rw (eq-eqb a.settlements 0 e) (omega arith))
        (λ e. rw (ne_eqb a.settlements 0 e) (omega arith))
