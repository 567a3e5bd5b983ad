-- What a book is made with: groups of one, makings that agree, and what an accepted one ensures.
use Prim.Native.Nat.{ℕ, ◌≤◌, ◌<◌}
use mathlib.Core.Path.{◌≡◌, refl, sym, ap, subst, ◌∙◌}
use mathlib.Core.Bool.{true, cond, not}
use mathlib.Core.List.{[], ◌∷◌, ◌++◌}
use native.Mathlib.Omega.{arith}
use borrow.Author.Tests.{eq-eqb, ne_eqb, not-false}
use lib.Dec.{eqb}
use Rattle.exact.specs.Rows.{places, at, cells}
use Rattle.exact.proofs.RowLaws.{cells_at, cells_cong}
use Rattle.settlement.specs.Month.{Month}
use Rattle.settlement.specs.Notice.{retention}
use Rattle.settlement.specs.Groups.{group_count, grouping_allowed, group_retention, Separate}
use Rattle.settlement.proofs.Laws.{group_within, reserve_within, grouping_allowed_lem, allowed_cong, retention_cong, separate_retention}
use Rattle.book.specs.Checks.{on, refusal}
use Rattle.book.specs.rules.Limits.{market, UpTo}
use Rattle.book.specs.rules.Step.{step}
use Rattle.book.specs.rules.Makings.{limit_checks, making_checks, grouping_of, no_making, empty_state, made, RefusedBook, SameBooks, SeparateBooks}
use Rattle.book.specs.declared.makings.Making.{Making}
use Rattle.book.proofs.rules.CheckLaws.{AllFalse, tests, all_pass}
use Rattle.book.proofs.rules.CellLaws.{zeros_at}
use Rattle.book.proofs.rules.LimitLaws.{within_both, both_within}

-- the groups that the book keeps are those that it was given, below n
kept_group : (m : Making) (i : ℕ) → i < m.n → at (grouping_of m).groups i ≡ at m.grouping.groups i
kept_group m i h = cells_at (at m.grouping.groups) m.n i h

-- a making that is accepted has limits up to the market's, participants within them, and groups and reserves within their values
module _ (m : Making) (e : refusal (making_checks m) ≡ 0) where
  abbrev passed : AllFalse (tests (making_checks m))
  passed = all_pass (making_checks m) refl e

  pub accepted_limited : UpTo market m.limits
  accepted_limited = record {
    participants = (within_both market.participants m.limits.participants (not-false _ passed.0)).1;
    periods = (within_both market.periods m.limits.periods (not-false _ passed.1.0)).1;
  }

  -- n and the period limit are not 0
  pub accepted_some : (1 ≤ m.n) × (1 ≤ m.limits.periods)
  accepted_some = ((within_both m.limits.participants m.n (not-false _ passed.1.1.0)).0, (within_both market.periods m.limits.periods (not-false _ passed.1.0)).0)

  pub accepted_many : m.n ≤ m.limits.participants
  accepted_many = (within_both m.limits.participants m.n (not-false _ passed.1.1.0)).1

  pub accepted_allowed : grouping_allowed m.n m.grouping ≡ true
  accepted_allowed = not-false _ passed.1.1.1.0

  pub accepted_grouped : grouping_allowed m.n (grouping_of m) ≡ true
  accepted_grouped =
      let allowed = accepted_allowed in
      grouping_allowed_lem m.n (grouping_of m)
      (λ i h. omega (arith, kept_group m i h, group_within m.n m.grouping allowed i h))
      (reserve_within m.n m.grouping allowed)

-- so retention over them is retention over those that it was given
pub kept_retention : (m : Making) (month : Month) → month.n ≡ m.n → (i : ℕ) → group_retention month (grouping_of m) i ≡ group_retention month m.grouping i
kept_retention m month q = retention_cong month (grouping_of m) m.grouping (λ i h. kept_group m i (omega arith)) (λ k _. refl)

-- and one that has these is accepted
pub makes : (m : Making) → 1 ≤ m.n → m.n ≤ m.limits.participants → 1 ≤ m.limits.periods → UpTo market m.limits → grouping_allowed m.n m.grouping ≡ true
    → refusal (making_checks m) ≡ 0
makes m some many room limited allowed = rw (
  both_within market.participants m.limits.participants (omega arith) limited.participants,
  both_within market.periods m.limits.periods room limited.periods,
  both_within m.limits.participants m.n some many,
  allowed,
)

module _ (m : Making) (alone : Separate m.n m.grouping) where
  separate_accepted : 1 ≤ m.n → m.n ≤ m.limits.participants → 1 ≤ m.limits.periods → UpTo market m.limits → (made m).answer ≡ 0
  unfolding made
  separate_accepted some many room limited =
      makes m some many room limited (grouping_allowed_lem m.n m.grouping alone.numbered (λ k h. omega (arith, alone.no_reserve k h)))

  separate_retained : (made m).answer ≡ 0 → (month : Month) → month.n ≡ m.n → (i : ℕ) → group_retention month (made m).state.grouping i ≡ retention month i
  unfolding made
  separate_retained e month q i =
      rw (eq-eqb (refusal (making_checks m)) 0 e) (kept_retention m month q i ∙ separate_retention month m.grouping (subst (λ (n : ℕ). Separate n m.grouping) (sym q) alone) i)

pub separate_books : SeparateBooks
separate_books = record {
  accepted = separate_accepted;
  retained = separate_retained;
  listed = λ n limits few. record {
    numbered = λ i h. omega (arith, own i (omega arith));
    differ = λ i j h l e. sym (own i (omega arith)) ∙ e ∙ own j (omega arith);
    no_reserve = λ k _. zeros_at group_count k;
  };
}
  where
    own : (i : ℕ) → i < places → at (cells (λ i. i) places) i ≡ i
    own i h = cells_at (λ i. i) places i h

refused_same : (m : Making) → ((made m).answer ≡ 0 → ⊥) → (made m).state ≡ empty_state no_making
unfolding made
refused_same m h = rw (ne_eqb (refusal (making_checks m)) 0 h)

pub refused_book : RefusedBook
unfolding step
refused_book = record { same = refused_same; answers = λ m h x. rw (refused_same m h) refl }

pub same_books : SameBooks
unfolding made
same_books a b h l =
    let rows : cells (at a.grouping.groups) a.n ≡ cells (at b.grouping.groups) b.n =
    cells_cong (at a.grouping.groups) (at b.grouping.groups) a.n h.groups ∙ ap (cells (at b.grouping.groups)) h.n in
    let allowed : grouping_allowed a.n a.grouping ≡ grouping_allowed b.n b.grouping =
    allowed_cong a.n a.grouping b.grouping h.groups h.reserves ∙ ap (λ (n : ℕ). grouping_allowed n b.grouping) h.n in
    let answer : refusal (making_checks a) ≡ refusal (making_checks b) =
    λ z. refusal (limit_checks (h.n z) (l z) ++ (on (not (allowed z)) 3 ∷ [])) in
    λ z. record {
      answer = answer z;
      state = empty_state (cond (eqb (answer z) 0) (record { n = h.n z; grouping = record { groups = rows z; reserves = h.reserves z }; limits = l z }) no_making);
    }
