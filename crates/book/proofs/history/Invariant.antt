-- What holds of a state and of what its log comes to, after every list of entries; and that it stays so where one period
-- and its account change.
use Prim.Native.Nat.{ℕ, ◌≤◌, ◌<◌}
use mathlib.Core.Path.{◌≡◌, sym, ap, subst, ◌∙◌}
use mathlib.Core.List.{List, ◌∷◌, ◌++◌}
use mathlib.Core.Logic.{◌⊎◌, inl, inr, ⊎_elim}
use native.Mathlib.Omega.{arith}
use Rattle.exact.specs.Rows.{at, sum}
use Rattle.exact.proofs.Cases.{eq_or_ne}
use Rattle.settlement.specs.declared.groups.Grouping.{Grouping}
use Rattle.book.specs.rules.State.{numbers}
use Rattle.book.specs.rules.Valid.{All}
use Rattle.book.specs.history.Log.{Account, Ledger, nothing, received, claim, arrears, retention}
use Rattle.book.specs.history.Demand3.{Has, NothingCutOff}
use Rattle.book.specs.declared.Period.{Period}
use Rattle.book.proofs.rules.ListLaws.{Ascending, all_join, all_left, all_right, all_both, rising_left, rising_right, rising_without, rising_with, has_with, has_without, has_it}
use Rattle.book.proofs.history.Tracking.{Tracks}

-- the account of a period that was opened and has left: settled, without arrears, its claims paid
pub record Closed (n : ℕ) (grouping : Grouping) (a : Account) : Type 0 where
  pub opened : a.openings ≡ 1
  pub settled : a.settlements ≡ 1
  pub clear : (i : ℕ) → i < n → arrears n (retention n grouping) a i ≡ 0
  pub paid_in_full : (i : ℕ) → i < n → a.paid i ≡ claim n (retention n grouping) a i
  pub exact : (i : ℕ) → i < n → NothingCutOff n (retention n grouping) a i
  pub paid_within : sum a.paid n ≤ sum (received n a) n

-- a period in the book has what the log comes to, and was opened once
pub record Kept (n : ℕ) (grouping : Grouping) (g : Ledger) (p : Period) : Type 0 where
  pub tracks : Tracks n grouping p (g.account p.number)
  pub opened : (g.account p.number).openings ≡ 1

pub record Inv (n : ℕ) (grouping : Grouping) (highest : ℕ) (ps : List Period) (purses : List ℕ) (g : Ledger) : Type 0 where
  pub rising : Ascending ps
  pub tops : All (λ (p : Period). p.number ≤ highest) ps
  pub each : All (Kept n grouping g) ps
  -- every period was never named, is in the book, or has left
  pub above : (k : ℕ) → highest < k → g.account k ≡ nothing
  pub known : (k : ℕ) → (g.account k ≡ nothing) ⊎ (Has k (numbers ps) ⊎ Closed n grouping (g.account k))
  -- the purses are what the log comes to
  pub purse : (i : ℕ) → i < n → at purses i ≡ g.purse i

-- period p, between l and r, and its account change, and the purses
module _ (n : ℕ) {grouping : Grouping} (highest : ℕ) (g : Ledger) (l : List Period) (p : Period) (r : List Period) (purses : List ℕ)
    (inv : Inv n grouping highest (l ++ p ∷ r) purses g) (g' : Ledger) (other : (k : ℕ) → (p.number ≡ k → ⊥) → g'.account k ≡ g.account k)
    (purses' : List ℕ) (purse : (i : ℕ) → i < n → at purses' i ≡ g'.purse i) where
  kept_other : (q : Period) → (p.number ≡ q.number → ⊥) → Kept n grouping g q → Kept n grouping g' q
  kept_other q ne k = record {
    tracks = subst (Tracks n grouping q) (sym (other q.number ne)) k.tracks;
    opened = ap (λ (a : Account). a.openings) (other q.number ne) ∙ k.opened;
  }

  before : All (Kept n grouping g') l
  before = all_both (λ (q : Period). q.number < p.number) (Kept n grouping g) (Kept n grouping g') (λ q u k. kept_other q (λ e. omega arith) k) l
      (rising_left p r l inv.rising) (all_left (Kept n grouping g) l (p ∷ r) inv.each)

  behind : All (Kept n grouping g') r
  behind = all_both (λ (q : Period). p.number < q.number) (Kept n grouping g) (Kept n grouping g') (λ q u k. kept_other q (λ e. omega arith) k) r
      (rising_right p r l inv.rising) (all_right (Kept n grouping g) l (p ∷ r) inv.each).1

  above : (k : ℕ) → highest < k → g'.account k ≡ nothing
  above k h = other k (λ e. omega (arith, (all_right (λ (q : Period). q.number ≤ highest) l (p ∷ r) inv.tops).0)) ∙ inv.above k h

  -- what is known of the other periods
  known_other : (k : ℕ) → (p.number ≡ k → ⊥) → (ps : List Period) → (Has k (numbers (l ++ p ∷ r)) → Has k (numbers ps))
      → (g'.account k ≡ nothing) ⊎ (Has k (numbers ps) ⊎ Closed n grouping (g'.account k))
  known_other k ne ps f = go (inv.known k)
    where
      go : (g.account k ≡ nothing) ⊎ (Has k (numbers (l ++ p ∷ r)) ⊎ Closed n grouping (g.account k))
          → (g'.account k ≡ nothing) ⊎ (Has k (numbers ps) ⊎ Closed n grouping (g'.account k))
      go (inl q) = inl (other k ne ∙ q)
      go (inr (inl q)) = inr (inl (f q))
      go (inr (inr q)) = inr (inr (subst (Closed n grouping) (sym (other k ne)) q))

  -- the period stays, as p'
  pub stays : (p' : Period) → p'.number ≡ p.number → Tracks n grouping p' (g'.account p.number) → (g'.account p.number).openings ≡ 1
      → Inv n grouping highest (l ++ p' ∷ r) purses' g'
  stays p' number tracks opened = record {
    rising = rising_with p r p' (sym number) l inv.rising;
    tops = all_join _ l (p' ∷ r) (all_left _ l (p ∷ r) inv.tops) (
      subst (λ (k : ℕ). k ≤ highest) (sym number) (all_right _ l (p ∷ r) inv.tops).0,
      (all_right _ l (p ∷ r) inv.tops).1,
    );
    each = all_join (Kept n grouping g') l (p' ∷ r) before (kept_own, behind);
    above = above;
    known = λ k. ⊎_elim
        (λ e. inr (inl (subst (λ (k : ℕ). Has k (numbers (l ++ p' ∷ r))) (number ∙ e) (has_it p' r l))))
        (λ ne. known_other k ne (l ++ p' ∷ r) (has_with p r p' (sym number) k l))
        (eq_or_ne p.number k);
    purse = purse;
  }
    where
      kept_own : Kept n grouping g' p'
      kept_own = record {
        tracks = subst (λ (k : ℕ). Tracks n grouping p' (g'.account k)) (sym number) tracks;
        opened = subst (λ (k : ℕ). (g'.account k).openings ≡ 1) (sym number) opened;
      }

  -- the period leaves
  pub goes : Closed n grouping (g'.account p.number) → Inv n grouping highest (l ++ r) purses' g'
  goes closed = record {
    rising = rising_without p r l inv.rising;
    tops = all_join _ l r (all_left _ l (p ∷ r) inv.tops) (all_right _ l (p ∷ r) inv.tops).1;
    each = all_join (Kept n grouping g') l r before behind;
    above = above;
    known = λ k. ⊎_elim
        (λ e. inr (inr (subst (λ (k : ℕ). Closed n grouping (g'.account k)) e closed)))
        (λ ne. known_other k ne (l ++ r) (λ q. has_without p r k l q ne))
        (eq_or_ne p.number k);
    purse = purse;
  }
