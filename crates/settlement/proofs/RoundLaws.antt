-- Laws of the rounds: they end, they take what they take from the balances, and their rounding up is worth at most n - 1.
use mathlib.Core.Path.{◌≡◌, refl, ap, ap₂, sym, ◌∙◌}
use mathlib.Core.Logic.{⊎_elim}
use mathlib.Core.Bool.{Bool, true, false, cond}
use mathlib.Core.List.{List}
use Prim.Native.Nat.{ℕ, zero, suc, ◌+◌, ◌-◌, ◌*◌, ◌≤◌, ◌<◌, min}
use native.Mathlib.Nat.{eq-zero-or-pos, mul-zero}
use native.Mathlib.Omega.{arith}
use lib.Dec.{eqb}
use borrow.Author.Tests.{ne_eqb}
use Rattle.exact.specs.Rows.{sum, cells}
use Rattle.exact.specs.Division.{ceil_div}
use Rattle.exact.proofs.Cases.{cases_eq, le_or_lt}
use Rattle.exact.proofs.Ceiling.{ceil_zero}
use Rattle.exact.proofs.RowLaws.{cells_cong, sum_cong, sum_mono, sum_add, sum_const, sum_term, sum_zero, sum_same_or_less}
use Rattle.exact.proofs.Shares.{weighted, ceil_sum}
use Rattle.settlement.specs.Rounds.{Standing, weight, loss, round, run, start, spread}
use Rattle.settlement.proofs.LossLaws.{balances_le, loss_cong}

module _ (n : ℕ) (v : ℕ → ℕ) where
  -- 1 for each balance that is positive, and how many are
  abbrev positive : Standing → ℕ → ℕ
  positive s i = min (s.balance i) 1

  unfoldable pub positives : Standing → ℕ
  positives s = sum (positive s) n

  -- no balance is above its revised amount
  abbrev pub Backed : Standing → Type 0
  Backed s = (i : ℕ) → i < n → s.balance i ≤ v i

  -- one round, with some balance positive
  module _ (s : Standing) (backed : Backed s) (some : 0 < sum s.balance n) where
    -- W is not 0
    weights_some : 0 < sum (weight v s.balance) n
    weights_some = omega (arith, balances_le n v s.balance backed)

    abbrev share_of : ℕ → ℕ
    share_of i = ceil_div (s.deficit * weight v s.balance i) (sum (weight v s.balance) n)

    -- what a round takes, it takes from the balances
    kept : sum (round n v s).balance n + sum (loss n v s.balance s.deficit) n ≡ sum s.balance n
    unfolding round loss
    kept = sym (sum_add (round n v s).balance (loss n v s.balance s.deficit) n) ∙ sum_cong (λ i. (round n v s).balance i + loss n v s.balance s.deficit i) s.balance n (λ i _. omega arith)

    share_spent : (i : ℕ) → s.balance i ≡ 0 → share_of i ≡ 0
    unfolding weight
    share_spent i e =
        cases_eq (λ z. ceil_div (s.deficit * z) (sum (weight v s.balance) n) ≡ 0) (s.balance i) 0
        (λ _. ceil_zero _ _ weights_some (mul-zero s.deficit))
        (λ k. absurd (k e))

    -- a balance that stays positive, or was 0, lost its whole share
    whole : (i : ℕ) → positive (round n v s) i ≡ positive s i → share_of i ≤ loss n v s.balance s.deficit i
    unfolding round loss
    whole i e =
        ⊎_elim (λ z. omega (arith, share_spent i z)) (λ (p : 0 < s.balance i). omega arith) (eq-zero-or-pos (s.balance i))

    weighted_le : weighted (weight v s.balance) s.deficit n weights_some ≤ n
    weighted_le = omega (arith, sum_const 1 n, sum_mono (λ i. min (weight v s.balance i) 1) (λ i. 1) n (λ i _. omega arith))

    -- all lose at most n - 1 above the deficit
    pub lost_near : sum (loss n v s.balance s.deficit) n ≤ s.deficit + (n - 1)
    unfolding loss
    lost_near = omega (
      arith,
      weighted_le,
      ceil_sum (weight v s.balance) s.deficit n weights_some,
      sum_mono (loss n v s.balance s.deficit) share_of n (λ i _. omega arith),
    )

    fewer : (i : ℕ) → i < n → positive (round n v s) i ≤ positive s i
    unfolding round
    fewer i h = omega arith

    -- a round that does not end the deficit spends a balance
    pub round_spends : sum (loss n v s.balance s.deficit) n < s.deficit → positives (round n v s) < positives s
    unfolding positives
    round_spends more =
        ⊎_elim
        (λ e. absurd (omega (arith, ceil_sum (weight v s.balance) s.deficit n weights_some, sum_mono share_of (loss n v s.balance s.deficit) n (λ i h. whole i (e i h)))))
        (λ less. less)
        (sum_same_or_less (positive (round n v s)) (positive s) n fewer)

  pub round_deficit : (s : Standing) → (round n v s).deficit ≡ s.deficit - sum (loss n v s.balance s.deficit) n
  unfolding round
  round_deficit s = refl

  pub round_counts : (s : Standing) → (round n v s).rounds ≡ s.rounds + 1
  unfolding round
  round_counts s = refl

  pub round_le : (s : Standing) (i : ℕ) → (round n v s).balance i ≤ s.balance i
  unfolding round
  round_le s i = omega arith

  pub round_backed : (s : Standing) → Backed s → Backed (round n v s)
  round_backed s backed i h = omega (arith, backed i h, round_le s i)

  -- the rounds stop where the deficit or all balances are 0
  pub run_done : (k : ℕ) (s : Standing) → s.deficit ≡ 0 → run n v k s ≡ s
  unfolding run
  run_done zero s e = refl
  run_done (suc k) s e = cases_eq (λ z. z ≡ s) s.deficit 0 (λ _. refl) (λ k. absurd (k e))

  pub run_spent : (k : ℕ) (s : Standing) → sum s.balance n ≡ 0 → run n v k s ≡ s
  unfolding run
  run_spent zero s e = refl
  run_spent (suc k) s e =
      cases_eq (λ z. z ≡ s) s.deficit 0 (λ _. refl) (λ _.
      cases_eq (λ z. z ≡ s) (sum s.balance n) 0 (λ _. refl) (λ k. absurd (k e)))

  pub run_more : (k : ℕ) (s : Standing) → 0 < s.deficit → 0 < sum s.balance n → run n v (suc k) s ≡ run n v k (round n v s)
  unfolding run
  run_more k s d b = rw (ne_eqb s.deficit 0 (λ e. omega arith), ne_eqb (sum s.balance n) 0 (λ e. omega arith))

  -- what the rounds come to, from s to r
  pub record Ended (s r : Standing) : Type 0 where
    pub done : min r.deficit (sum r.balance n) ≡ 0
    pub low : sum r.balance n + s.deficit ≤ sum s.balance n + r.deficit
    pub high : sum s.balance n ≤ sum r.balance n + s.deficit + (n - 1)
    pub counted : r.rounds ≤ s.rounds + positives s

  none_positive : (s : Standing) → positives s ≤ 0 → sum s.balance n ≡ 0
  unfolding positives
  none_positive s h = sum_zero s.balance n (λ i k. omega (arith, sum_term (positive s) n i k))

  pub some_positive : (s : Standing) → 0 < sum s.balance n → 0 < positives s
  some_positive s h = ⊎_elim (λ (z : positives s ≡ 0). absurd (omega (arith, none_positive s (omega arith)))) (λ p. p) (eq-zero-or-pos (positives s))

  -- a round that ends the deficit is the last
  last_round : (k : ℕ) (s : Standing) → Backed s → 0 < sum s.balance n → s.deficit ≤ sum (loss n v s.balance s.deficit) n → Ended s (run n v k (round n v s))
  last_round k s backed some h =
      rw (run_done k (round n v s) (omega (arith, round_deficit s)))
      (omega (arith, round_deficit s, round_counts s, kept s backed some, lost_near s backed some, some_positive s some))

  -- one that does not leaves the rest of the deficit to those after it
  earlier_round : (s r : Standing) → Backed s → 0 < sum s.balance n → sum (loss n v s.balance s.deficit) n < s.deficit
      → positives (round n v s) < positives s → Ended (round n v s) r → Ended s r
  earlier_round s r backed some more less e =
      let lost = sum (loss n v s.balance s.deficit) n in
      let d : (round n v s).deficit + lost ≡ s.deficit = omega (arith, round_deficit s) in
      let b = kept s backed some in
      record {
        done = e.done;
        low = omega (arith, d, b, e.low);
        high = omega (arith, d, b, e.high);
        counted = omega (arith, round_counts s, e.counted);
      }

  run_ended : (k : ℕ) (s : Standing) → Backed s → positives s ≤ k → Ended s (run n v k s)
  unfolding run
  run_ended zero s backed h = omega (arith, none_positive s h)
  run_ended (suc k) s backed h =
      ⊎_elim
      (λ (e : s.deficit ≡ 0). rw (run_done (suc k) s e) (omega arith))
      (λ (d : 0 < s.deficit).
      ⊎_elim
      (λ (z : sum s.balance n ≡ 0). rw (run_spent (suc k) s z) (omega arith))
      (λ (b : 0 < sum s.balance n). rw (run_more k s d b) (
      ⊎_elim
      (λ (all : s.deficit ≤ sum (loss n v s.balance s.deficit) n). last_round k s backed b all)
      (λ (more : sum (loss n v s.balance s.deficit) n < s.deficit).
      let less = round_spends s backed b more in
      earlier_round s _ backed b more less (run_ended k (round n v s) (round_backed s backed) (omega arith)))
      (le_or_lt s.deficit (sum (loss n v s.balance s.deficit) n))))
      (eq-zero-or-pos (sum s.balance n)))
      (eq-zero-or-pos s.deficit)

  pub positives_le : (s : Standing) → positives s ≤ n
  unfolding positives
  positives_le s = omega (arith, sum_const 1 n, sum_mono (positive s) (λ i. 1) n (λ i _. omega arith))

  pub run_le : (k : ℕ) (s : Standing) (i : ℕ) → (run n v k s).balance i ≤ s.balance i
  unfolding run
  run_le zero s i = omega arith
  run_le (suc k) s i =
      cases_eq (λ (z : Standing). z.balance i ≤ s.balance i) s.deficit 0 (λ _. omega arith) (λ _.
      cases_eq (λ (z : Standing). z.balance i ≤ s.balance i) (sum s.balance n) 0 (λ _. omega arith) (λ _.
      omega (arith, run_le k (round n v s) i, round_le s i)))

  module _ (balance : ℕ → ℕ) (deficit : ℕ) where
    pub spread_le : (i : ℕ) → (spread n v balance deficit).balance i ≤ balance i
    unfolding spread
    spread_le i = run_le n (start balance deficit) i

    pub spread_none : deficit ≡ 0 → spread n v balance deficit ≡ start balance deficit
    unfolding spread
    spread_none e = run_done n (start balance deficit) e

    module _ (backed : Backed (start balance deficit)) where
      pub spread_ended : Ended (start balance deficit) (spread n v balance deficit)
      unfolding spread
      spread_ended = run_ended n (start balance deficit) backed (positives_le (start balance deficit))

      pub spread_rounds : (spread n v balance deficit).rounds ≤ n
      unfolding spread
      spread_rounds = omega (arith, run_ended n (start balance deficit) backed (positives_le (start balance deficit)), positives_le (start balance deficit))

-- two standings that agree below n
pub record Alike (n : ℕ) (s t : Standing) : Type 0 where
  pub balances : (i : ℕ) → i < n → s.balance i ≡ t.balance i
  pub deficits : s.deficit ≡ t.deficit
  pub counts : s.rounds ≡ t.rounds

-- a count and an array that hold a standing's
abbrev pub HoldsStanding : ℕ → Standing → ℕ → List ℕ → Type 0
HoldsStanding n s count left = (count ≡ s.rounds) × (left ≡ cells s.balance n)

-- they hold each standing that agrees with it below n
pub holds_alike : {n : ℕ} {s t : Standing} {count : ℕ} {left : List ℕ} → Alike n s t → HoldsStanding n s count left → HoldsStanding n t count left
holds_alike {n = n} a e = (e.0 ∙ a.counts, e.1 ∙ cells_cong _ _ n a.balances)

-- the rounds go by the revised amounts and the balances below n
module _ (n : ℕ) (v u : ℕ → ℕ) (same : (i : ℕ) → i < n → v i ≡ u i) where
  round_alike : (s t : Standing) → Alike n s t → Alike n (round n v s) (round n u t)
  unfolding round
  round_alike s t a = record {
    balances = λ i h. ap₂ ◌-◌ (a.balances i h) (lost i h);
    deficits = ap₂ ◌-◌ a.deficits (sum_cong _ _ n lost);
    counts = ap (λ (k : ℕ). k + 1) a.counts;
  }
    where
      lost : (i : ℕ) → i < n → loss n v s.balance s.deficit i ≡ loss n u t.balance t.deficit i
      lost i h = rw a.deficits (loss_cong n v u s.balance t.balance t.deficit same a.balances i h)

  run_alike : (k : ℕ) (s t : Standing) → Alike n s t → Alike n (run n v k s) (run n u k t)
  unfolding run
  run_alike zero s t a = a
  run_alike (suc k) s t a =
      rw (ap (λ (d : ℕ). eqb d 0) a.deficits, ap (λ (d : ℕ). eqb d 0) (sum_cong s.balance t.balance n a.balances))
      (both (eqb t.deficit 0) (eqb (sum t.balance n) 0) (run_alike k (round n v s) (round n u t) (round_alike s t a)))
    where
      both : (p q : Bool) {s' t' : Standing} → Alike n s' t' → Alike n (cond p s (cond q s s')) (cond p t (cond q t t'))
      both true q b = a
      both false true b = a
      both false false b = b

  pub spread_alike : (f g : ℕ → ℕ) (deficit : ℕ) → ((i : ℕ) → i < n → f i ≡ g i) → Alike n (spread n v f deficit) (spread n u g deficit)
  unfolding spread
  spread_alike f g deficit h = run_alike n _ _ (record { balances = h; deficits = refl; counts = refl })
