-- Laws of lists of periods: what holds of each, rising numbers, which periods are there, and where one stands.
use Prim.Native.Nat.{ℕ, zero, suc, ◌+◌, ◌<◌}
use mathlib.Core.Path.{◌≡◌, refl, sym, ap, subst, ◌∙◌}
use mathlib.Core.List.{List, [], ◌∷◌, ◌++◌}
use mathlib.Core.Logic.{inl, inr}
use native.Mathlib.Nat.{not-suc-le-zero}
use native.Mathlib.Omega.{arith}
use lib.ListN.{length, get_or, take, drop, set}
use lib.Seq.{split_at, set_split, get_or-set_same, take-set-le, drop-set-lt}
use Rattle.exact.proofs.Cases.{cases_eq}
use Rattle.book.specs.rules.State.{held_in, numbers, find, no_period, period_at}
use Rattle.book.specs.rules.Valid.{All}
use Rattle.book.specs.history.Demand3.{Has, Rising}
use Rattle.book.specs.declared.Period.{Period}

module _ {A : Type 0} (P : A → Type 0) where
  pub all_join : (l r : List A) → All P l → All P r → All P (l ++ r)
  all_join [] r u v = v
  all_join (x ∷ l) r u v = (u.0, all_join l r u.1 v)

  pub all_left : (l r : List A) → All P (l ++ r) → All P l
  all_left [] r u = tt
  all_left (x ∷ l) r u = (u.0, all_left l r u.1)

  pub all_right : (l r : List A) → All P (l ++ r) → All P r
  all_right [] r u = u
  all_right (x ∷ l) r u = all_right l r u.1

pub all_at : {A : Type 0} (P : A → Type 0) (l : List A) (j : ℕ) (d : A) → j < length l → All P l → P (get_or l j d)
all_at P [] j d h u = absurd (not-suc-le-zero h)
all_at P (x ∷ l) zero d h u = u.0
all_at P (x ∷ l) (suc j) d h u = all_at P l j d (omega arith) u.1

-- from two facts of each element a third
pub all_both : {A : Type 0} (P Q R : A → Type 0) → ((x : A) → P x → Q x → R x) → (l : List A) → All P l → All Q l → All R l
all_both P Q R f [] u v = tt
all_both P Q R f (x ∷ l) u v = (f x u.0 v.0, all_both P Q R f l u.1 v.1)

-- periods of rising numbers
abbrev pub Ascending : List Period → Type 0
Ascending [] = Unit {0}
Ascending (p ∷ ps) = All (λ (q : Period). p.number < q.number) ps × Ascending ps

pub all_numbers : (P : ℕ → Type 0) (l : List Period) → All (λ (p : Period). P p.number) l → All P (numbers l)
all_numbers P [] u = tt
all_numbers P (p ∷ l) u = (u.0, all_numbers P l u.1)

pub rising_numbers : (l : List Period) → Ascending l → Rising (numbers l)
rising_numbers [] u = tt
rising_numbers (p ∷ l) u = (all_numbers (λ k. p.number < k) l u.0, rising_numbers l u.1)

-- a list with a period p between l and r
module _ (p : Period) (r : List Period) where
  pub rising_left : (l : List Period) → Ascending (l ++ p ∷ r) → All (λ (q : Period). q.number < p.number) l
  rising_left [] s = tt
  rising_left (q ∷ l) s = ((all_right (λ (x : Period). q.number < x.number) l (p ∷ r) s.0).0, rising_left l s.1)

  pub rising_right : (l : List Period) → Ascending (l ++ p ∷ r) → All (λ (q : Period). p.number < q.number) r
  rising_right [] s = s.0
  rising_right (q ∷ l) s = rising_right l s.1

  pub rising_without : (l : List Period) → Ascending (l ++ p ∷ r) → Ascending (l ++ r)
  rising_without [] s = s.1
  rising_without (q ∷ l) s = (
    all_join _ l r (all_left _ l (p ∷ r) s.0) (all_right _ l (p ∷ r) s.0).1,
    rising_without l s.1,
  )

  pub rising_with : (p' : Period) → p.number ≡ p'.number → (l : List Period) → Ascending (l ++ p ∷ r) → Ascending (l ++ p' ∷ r)
  rising_with p' e [] s = (subst (λ z. All (λ (q : Period). z < q.number) r) e s.0, s.1)
  rising_with p' e (q ∷ l) s = (
    all_join _ l (p' ∷ r) (all_left _ l (p ∷ r) s.0) (subst (λ z. q.number < z) e (all_right _ l (p ∷ r) s.0).0, (all_right _ l (p ∷ r) s.0).1),
    rising_with p' e l s.1,
  )

  pub has_with : (p' : Period) → p.number ≡ p'.number → (k : ℕ) (l : List Period) → Has k (numbers (l ++ p ∷ r)) → Has k (numbers (l ++ p' ∷ r))
  has_with p' e k [] (inl q) = inl (sym e ∙ q)
  has_with p' e k [] (inr q) = inr q
  has_with p' e k (x ∷ l) (inl q) = inl q
  has_with p' e k (x ∷ l) (inr q) = inr (has_with p' e k l q)

  pub has_without : (k : ℕ) (l : List Period) → Has k (numbers (l ++ p ∷ r)) → (p.number ≡ k → ⊥) → Has k (numbers (l ++ r))
  has_without k [] (inl q) ne = absurd (ne q)
  has_without k [] (inr q) ne = q
  has_without k (x ∷ l) (inl q) ne = inl q
  has_without k (x ∷ l) (inr q) ne = inr (has_without k l q ne)

  pub has_it : (l : List Period) → Has p.number (numbers (l ++ p ∷ r))
  has_it [] = inl refl
  has_it (x ∷ l) = inr (has_it l)

-- one more period, the youngest
pub rising_more : (p : Period) (l : List Period) → All (λ (q : Period). q.number < p.number) l → Ascending l → Ascending (l ++ (p ∷ []))
rising_more p [] u s = (tt, tt)
rising_more p (q ∷ l) u s = (all_join _ l (p ∷ []) s.0 (u.0, tt), rising_more p l u.1 s.1)

pub has_more : (p : Period) (k : ℕ) (l : List Period) → Has k (numbers l) → Has k (numbers (l ++ (p ∷ [])))
has_more p k [] h = elim h [ ]
has_more p k (x ∷ l) (inl q) = inl q
has_more p k (x ∷ l) (inr q) = inr (has_more p k l q)

-- what holds of each period holds of the one of number k
pub all_has : (P : Period → Type 0) (k : ℕ) (l : List Period) → All P l → Has k (numbers l) → (p : Period) × (p.number ≡ k) × P p
all_has P k [] u h = elim h [ ]
all_has P k (x ∷ l) u (inl q) = (x, q, u.0)
all_has P k (x ∷ l) u (inr q) = all_has P k l u.1 q

-- a period that is in the list is found with its number, and the list is what stands before it, it, and what follows
pub find_number : (k : ℕ) (l : List Period) → find k l < length l → (period_at k l).number ≡ k
unfolding find
find_number k [] h = absurd (omega arith)
find_number k (p ∷ l) h =
    cases_eq (λ (j : ℕ). j < suc (length l) → (get_or (p ∷ l) j no_period).number ≡ k) p.number k (λ e _. e) (λ _ l'. find_number k l (omega arith)) h

pub find_split : (k : ℕ) (l : List Period) → find k l < length l → l ≡ take (find k l) l ++ period_at k l ∷ drop (suc (find k l)) l
find_split k l h = split_at l (find k l) no_period h

-- a period stored over one of its number is found where that one was
pub find_set : (k : ℕ) (l : List Period) (j : ℕ) (p : Period) → p.number ≡ (get_or l j no_period).number → find k (set l j p) ≡ find k l
unfolding find
find_set k [] j p e = refl
find_set k (q ∷ l) zero p e = rw e
find_set k (q ∷ l) (suc j) p e = rw (find_set k l j p e)

-- a period replaced by another: those before and behind it are the same
module _ (j : ℕ) (l : List Period) (p : Period) (h : j < length l) where
  pub take_replaced : take j (take j l ++ p ∷ drop (suc j) l) ≡ take j l
  take_replaced = ap (take j) (sym (set_split l j p h)) ∙ take-set-le j l j p (omega arith)

  pub drop_replaced : drop (suc j) (take j l ++ p ∷ drop (suc j) l) ≡ drop (suc j) l
  drop_replaced = ap (drop (suc j)) (sym (set_split l j p h)) ∙ drop-set-lt (suc j) l j p (omega arith)

-- so the period of number k, replaced by another of its number, is that one
module _ (k : ℕ) (l : List Period) (p : Period) (h : find k l < length l) (e : p.number ≡ (period_at k l).number) where
  pub find_replaced : find k (take (find k l) l ++ p ∷ drop (suc (find k l)) l) ≡ find k l
  find_replaced = ap (find k) (sym (set_split l (find k l) p h)) ∙ find_set k l (find k l) p e

  pub period_replaced : period_at k (take (find k l) l ++ p ∷ drop (suc (find k l)) l) ≡ p
  period_replaced = rw find_replaced (rw (← set_split l (find k l) p h) (get_or-set_same l (find k l) p no_period h))

-- cents held over two lists of periods
pub held_join : (n : ℕ) (l r : List Period) → held_in n (l ++ r) ≡ held_in n l + held_in n r
unfolding held_in
held_join n [] r = omega arith
held_join n (p ∷ l) r = omega (arith, held_join n l r)
