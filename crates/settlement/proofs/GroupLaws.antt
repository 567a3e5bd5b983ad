-- Sums over groups, and retention where each participant is in a group of its own.
use Prim.Native.Nat.{ℕ, zero, suc, ◌+◌, ◌-◌, ◌≤◌, ◌<◌}
use mathlib.Core.Path.{◌≡◌, refl, sym, ap, ◌∙◌}
use mathlib.Core.Bool.{Bool, true, false, cond, true≢false}
use mathlib.Core.Logic.{◌⊎◌, inl, inr, ⊎_elim}
use native.Mathlib.Nat.{eq-or-lt_of_le, le_of_suc-le-suc}
use native.Mathlib.Omega.{arith}
use borrow.Author.Tests.{eq-eqb, ne_eqb, lt-ltb, le-leb, ltb-true, ltb-false, leb-true}
use lib.Dec.{eqb, ltb, leb}
use lib.ListN.{set}
use Rattle.exact.specs.Rows.{at, sum, largest, cells}
use Rattle.exact.proofs.Cases.{cases, cases_eq, eq_or_ne}
use Rattle.exact.proofs.RowLaws.{sum_none, sum_more, sum_part, sum_cong, sum_add, sum_zero, sum_single, largest_le, largest_term, largest_cong, cells_at, cells_set}
use Rattle.settlement.specs.Month.{Month, owing_to, tier5}
use Rattle.settlement.specs.Notice.{gives, shortfall, others_tier5, retention}
use Rattle.settlement.specs.Groups.{group_count, reserve_limit, grouping_allowed, group_sum, outside_sum, shortfall_with_reserve, group_shortfall, outside_tier5, group_retention, Separate, SeparateRetention}
use Rattle.settlement.specs.declared.groups.Grouping.{Grouping}
use Rattle.settlement.proofs.RetentionLaws.{gives_nothing}

-- group numbers and reserves that are allowed are within their values ..
module _ (n : ℕ) (grouping : Grouping) where
  module _ (h : grouping_allowed n grouping ≡ true) where
    largest_within : (largest (at grouping.groups) n < group_count) × (largest (at grouping.reserves) group_count ≤ reserve_limit)
    unfolding grouping_allowed
    largest_within = go (ltb (largest (at grouping.groups) n) group_count) refl h
      where
        go : (t : Bool) → ltb (largest (at grouping.groups) n) group_count ≡ t → cond t (leb (largest (at grouping.reserves) group_count) reserve_limit) false ≡ true
            → (largest (at grouping.groups) n < group_count) × (largest (at grouping.reserves) group_count ≤ reserve_limit)
        go true q e = (ltb-true _ _ q, leb-true _ _ e)
        go false q e = absurd (true≢false (sym e))

    pub group_within : (i : ℕ) → i < n → at grouping.groups i < group_count
    group_within i l = omega (arith, largest_within.0, largest_term (at grouping.groups) n i l)

    pub reserve_within : (k : ℕ) → k < group_count → at grouping.reserves k ≤ reserve_limit
    reserve_within k l = omega (arith, largest_within.1, largest_term (at grouping.reserves) group_count k l)

  -- .. and those within them are allowed
  pub grouping_allowed_lem : ((i : ℕ) → i < n → at grouping.groups i < group_count) → ((k : ℕ) → k < group_count → at grouping.reserves k ≤ reserve_limit)
      → grouping_allowed n grouping ≡ true
  unfolding grouping_allowed
  grouping_allowed_lem numbers reserves =
      let few : largest (at grouping.groups) n < group_count = omega (arith, largest_le (at grouping.groups) 63 n (λ i l. omega (arith, numbers i l))) in
      rw (lt-ltb _ group_count few) (le-leb _ _ (largest_le (at grouping.reserves) reserve_limit group_count reserves))

-- group numbers below n and reserves decide it
pub allowed_cong : (n : ℕ) (a b : Grouping) → ((i : ℕ) → i < n → at a.groups i ≡ at b.groups i) → a.reserves ≡ b.reserves
    → grouping_allowed n a ≡ grouping_allowed n b
unfolding grouping_allowed
allowed_cong n a b numbers reserves =
    let top = largest_cong (at a.groups) (at b.groups) n numbers in
    λ z. cond (ltb (top z) group_count) (leb (largest (at (reserves z)) group_count) reserve_limit) false

-- a choice and its opposite are the whole
split : (t : Bool) (c : ℕ) → cond t c 0 + cond t 0 c ≡ c
split true c = omega arith
split false c = omega arith

module _ (groups : ℕ → ℕ) (f : ℕ → ℕ) (k : ℕ) where
  -- the sum over a group as a loop over participants forms it
  pub group_none : group_sum groups 0 f k ≡ 0
  unfolding group_sum
  group_none = sum_none _

  pub group_more : (n : ℕ) → group_sum groups (n + 1) f k ≡ group_sum groups n f k + cond (eqb (groups n) k) (f n) 0
  unfolding group_sum
  group_more n = sum_more _ n

  module _ (n : ℕ) where
    -- what is in a group and what is outside it is all there is
    pub group_outside : group_sum groups n f k + outside_sum groups n f k ≡ sum f n
    unfolding group_sum outside_sum
    group_outside =
        sym (sum_add (λ i. cond (eqb (groups i) k) (f i) 0) (λ i. cond (eqb (groups i) k) 0 (f i)) n)
        ∙ sum_cong _ f n (λ i _. split (eqb (groups i) k) (f i))

    -- a group without members has nothing
    nobody : ((i : ℕ) → i < n → groups i ≡ k → ⊥) → group_sum groups n f k ≡ 0
    unfolding group_sum
    nobody none = sum_zero _ n (λ i l. cases_eq (λ z. z ≡ 0) (groups i) k (λ e. absurd (none i l e)) (λ _. refl))

-- a loop over participants adds each one's cell to its group's sum
module _ (groups : ℕ → ℕ) (f : ℕ → ℕ) (n : ℕ) (h : groups n < group_count) where
  grown : at (cells (group_sum groups n f) group_count) (groups n) + f n ≡ group_sum groups (n + 1) f (groups n)
  grown = rw (group_more groups f (groups n) n, eq-eqb (groups n) (groups n) refl, cells_at (group_sum groups n f) group_count (groups n) h)

  pub group_step : set (cells (group_sum groups n f) group_count) (groups n) (at (cells (group_sum groups n f) group_count) (groups n) + f n)
      ≡ cells (group_sum groups (n + 1) f) group_count
  group_step =
      rw grown (cells_set (group_sum groups n f) (group_sum groups (n + 1) f) (groups n) h
      (λ k ne. sym (rw (group_more groups f k n, ne_eqb (groups n) k (λ e. ne (sym e))) (omega arith))))

  -- and stays within the sum of all
  pub group_room : (m : ℕ) → n < m → at (cells (group_sum groups n f) group_count) (groups n) + f n ≤ sum f m
  group_room m l = omega (arith, grown, group_outside groups f (groups n) (n + 1), sum_part f (n + 1) m (omega arith))

-- sums by group go by the group numbers and the cells below n
module _ (n k : ℕ) {groups numbers f g : ℕ → ℕ} (same : (i : ℕ) → i < n → groups i ≡ numbers i) (cell : (i : ℕ) → i < n → f i ≡ g i) where
  pub group_cong : group_sum groups n f k ≡ group_sum numbers n g k
  unfolding group_sum
  group_cong = sum_cong _ _ n (λ i h z. cond (eqb (same i h z) k) (cell i h z) 0)

  pub outside_cong : outside_sum groups n f k ≡ outside_sum numbers n g k
  unfolding outside_sum
  outside_cong = sum_cong _ _ n (λ i h z. cond (eqb (same i h z) k) 0 (cell i h z))

-- a group has a member below n, or none
member : (groups : ℕ → ℕ) (k n : ℕ) → ((p : ℕ) × (p < n) × (groups p ≡ k)) ⊎ ((i : ℕ) → i < n → groups i ≡ k → ⊥)
member groups k zero = inr (λ i l _. omega arith)
member groups k (suc n) = go (eq_or_ne (groups n) k) (member groups k n)
  where
    go : (groups n ≡ k) ⊎ (groups n ≡ k → ⊥) → ((p : ℕ) × (p < n) × (groups p ≡ k)) ⊎ ((i : ℕ) → i < n → groups i ≡ k → ⊥)
        → ((p : ℕ) × (p < suc n) × (groups p ≡ k)) ⊎ ((i : ℕ) → i < suc n → groups i ≡ k → ⊥)
    go (inl e) _ = inl (n, omega arith, e)
    go (inr ne) (inl found) = inl (found.0, omega (arith, found.1), found.2)
    go (inr ne) (inr none) = inr (λ i l e.
        ⊎_elim (λ (q : i ≡ n). ne (ap groups (sym q) ∙ e)) (λ (l : i < n). none i l e) (eq-or-lt_of_le (le_of_suc-le-suc l)))

-- without a reserve s is what B has above O
no_reserve : (by to : ℕ) → shortfall_with_reserve by to 0 ≡ by - to
unfolding shortfall_with_reserve
no_reserve by to = cases (λ z. z ≡ by - to) (ltb to by) (λ _. omega arith) (λ e. omega (arith, ltb-false to by e))

-- each of n participants is in a group of its own, without a reserve
module _ (m : Month) (grouping : Grouping) (alone : Separate m.n grouping) where
  abbrev group : ℕ → ℕ
  group = at grouping.groups

  -- i is in the group of p just where i is p
  module _ (p : ℕ) (here : p < m.n) (f : ℕ → ℕ) where
    own_sum : group_sum group m.n f (group p) ≡ f p
    unfolding group_sum
    own_sum =
        sum_cong _ (λ i. cond (eqb p i) (f p) 0) m.n
        (λ i l. cases_eq (λ z. z ≡ cond (eqb p i) (f p) 0) (group i) (group p)
        (λ e. let q : i ≡ p = alone.differ i p l here e in rw (q, eq-eqb p p refl))
        (λ ne. sym (rw (ne_eqb p i (λ q. ne (ap group (sym q)))) refl)))
        ∙ sum_single p (f p) m.n here

    own_outside : outside_sum group m.n f (group p) ≡ sum (λ i. cond (eqb i p) 0 (f i)) m.n
    unfolding outside_sum
    own_outside =
        sum_cong _ _ m.n
        (λ i l. cases_eq (λ z. z ≡ cond (eqb i p) 0 (f i)) (group i) (group p)
        (λ e. sym (rw (eq-eqb i p (alone.differ i p l here e)) refl))
        (λ ne. sym (rw (ne_eqb i p (λ q. ne (ap group q))) refl)))

  abbrev given : ℕ → ℕ → ℕ
  given i k = gives (group_shortfall m grouping k) (outside_tier5 m grouping k) (tier5 m i)

  -- the group of p gives what p gives by itself
  own_gift : (i p : ℕ) → p < m.n → given i (group p) ≡ gives (shortfall m p) (others_tier5 m p) (tier5 m i)
  unfolding group_shortfall outside_tier5 shortfall others_tier5
  own_gift i p h =
      rw (own_sum p h m.by, own_sum p h (owing_to m), alone.no_reserve (group p) (alone.numbered p h), no_reserve (m.by p) (owing_to m p), own_outside p h (tier5 m))

  -- a group without members gives nothing
  no_gift : (i k : ℕ) → k < group_count → ((j : ℕ) → j < m.n → group j ≡ k → ⊥) → given i k ≡ 0
  unfolding group_shortfall
  no_gift i k h none =
      rw (nobody group m.by k m.n none, nobody group (owing_to m) k m.n none, alone.no_reserve k h, no_reserve 0 0)
      (gives_nothing (outside_tier5 m grouping k) (tier5 m i))

  most : (i k : ℕ) → k < group_count → given i k ≤ retention m i
  unfolding retention
  most i k h =
      ⊎_elim
      (λ found. let p = found.0 in
      rw (← found.2, own_gift i p found.1) (largest_term (λ p. gives (shortfall m p) (others_tier5 m p) (tier5 m i)) m.n p found.1))
      (λ none. omega (arith, no_gift i k h none))
      (member group k m.n)

  least : (i p : ℕ) → p < m.n → gives (shortfall m p) (others_tier5 m p) (tier5 m i) ≤ group_retention m grouping i
  unfolding group_retention
  least i p h = omega (arith, own_gift i p h, largest_term (given i) group_count (group p) (alone.numbered p h))

pub separate_retention : SeparateRetention
unfolding group_retention retention
separate_retention m grouping alone i = omega (
  arith,
  largest_le (given m grouping alone i) (retention m i) group_count (most m grouping alone i),
  largest_le (λ p. gives (shortfall m p) (others_tier5 m p) (tier5 m i)) (group_retention m grouping i) m.n (least m grouping alone i),
)

-- group numbers below n and reserves decide retention
pub retention_cong : (m : Month) (a b : Grouping) → ((i : ℕ) → i < m.n → at a.groups i ≡ at b.groups i)
    → ((k : ℕ) → k < group_count → at a.reserves k ≡ at b.reserves k) → (i : ℕ) → group_retention m a i ≡ group_retention m b i
unfolding group_retention group_shortfall outside_tier5
retention_cong m a b numbers reserves i =
    largest_cong _ _ group_count (λ k h z. gives
    (shortfall_with_reserve (group_cong m.n k {f = m.by} numbers (λ _ _. refl) z) (group_cong m.n k {f = owing_to m} numbers (λ _ _. refl) z) (reserves k h z))
    (outside_cong m.n k {f = tier5 m} numbers (λ _ _. refl) z)
    (tier5 m i))
