-- Laws of one round's sums and losses: the weights of the balances, whose sum is W, and what each balance loses.
use mathlib.Core.Path.{◌≡◌, refl, ap₂}
use mathlib.Core.Bool.{cond}
use Prim.Native.Nat.{ℕ, ◌*◌, ◌≤◌, ◌<◌, min}
use native.Mathlib.Omega.{arith}
use lib.Dec.{eqb}
use Rattle.exact.specs.Rows.{sum}
use Rattle.exact.specs.Division.{ceil_div, Proportional}
use Rattle.exact.proofs.Cases.{cases_eq}
use Rattle.exact.proofs.RowLaws.{sum_cong, sum_mono, sum_term, sum_zero}
use Rattle.settlement.specs.Rounds.{Backing, weight, loss}

pub weight_le : (v balance : ℕ → ℕ) (i : ℕ) → weight v balance i ≤ v i
unfolding weight
weight_le v balance i = cases_eq (λ z. z ≤ v i) (balance i) 0 (λ _. omega arith) (λ _. omega arith)

weight_positive : (v balance : ℕ → ℕ) (i : ℕ) → 0 < balance i → weight v balance i ≡ v i
unfolding weight
weight_positive v balance i some = cases_eq (λ z. z ≡ v i) (balance i) 0 (λ e. absurd (omega (arith, e))) (λ _. refl)

-- W is 0 where no balance is positive
pub weights_none : (n : ℕ) (v balance : ℕ → ℕ) → sum balance n ≡ 0 → sum (weight v balance) n ≡ 0
unfolding weight
weights_none n v balance none =
    sum_zero (weight v balance) n (λ i h. cases_eq (λ z. z ≡ 0) (balance i) 0 (λ _. refl) (λ some. absurd (some (omega (arith, sum_term balance n i h)))))

-- the balances sum to at most W where none is above its revised amount, so that W is 0 only there
pub balances_le : (n : ℕ) (v balance : ℕ → ℕ) → ((i : ℕ) → i < n → balance i ≤ v i) → sum balance n ≤ sum (weight v balance) n
unfolding weight
balances_le n v balance backed =
    sum_mono balance (weight v balance) n (λ i h. cases_eq (λ z. balance i ≤ z) (balance i) 0 (λ e. omega arith) (λ _. backed i h))

-- nobody loses more than its balance
pub loss_le : (n : ℕ) (v balance : ℕ → ℕ) (deficit i : ℕ) → loss n v balance deficit i ≤ balance i
unfolding loss
loss_le n v balance deficit i = omega arith

-- V_i may stand for the weight in i's loss: a balance of 0 loses nothing either way
pub loss_own : (n : ℕ) (v balance : ℕ → ℕ) (deficit i : ℕ) → loss n v balance deficit i ≡ min (balance i) (ceil_div (deficit * v i) (sum (weight v balance) n))
unfolding loss weight
loss_own n v balance deficit i =
    cases_eq (λ z. min (balance i) (ceil_div (deficit * z) (sum (weight v balance) n)) ≡ min (balance i) (ceil_div (deficit * v i) (sum (weight v balance) n))) (balance i) 0 (λ e. omega arith) (λ _. refl)

-- of a positive balance the deficit, V_i and W are within the bounds of an exact proportion
pub loss_proportional : (n : ℕ) (v balance : ℕ → ℕ) (deficit : ℕ) → Backing n v balance deficit
    → (i : ℕ) → i < n → 0 < balance i → Proportional deficit (v i) (sum (weight v balance) n)
loss_proportional n v balance deficit b i h some =
    let own = weight_positive v balance i some in
    let part = sum_term (weight v balance) n i h in
    record {
      some = omega (arith, own, part, b.backed i h);
      within = omega (arith, own, part);
      whole_fits = omega (arith, b.revised_total, sum_mono (weight v balance) v n (λ j _. weight_le v balance j));
      amount_fits = omega (arith, b.deficit_bound);
    }

-- losses go by the revised amounts and the balances below n
pub loss_cong : (n : ℕ) (v u f g : ℕ → ℕ) (deficit : ℕ) → ((i : ℕ) → i < n → v i ≡ u i) → ((i : ℕ) → i < n → f i ≡ g i)
    → (i : ℕ) → i < n → loss n v f deficit i ≡ loss n u g deficit i
unfolding loss weight
loss_cong n v u f g deficit a b i l =
    rw (sum_cong (weight v f) (weight u g) n (λ j k. ap₂ (λ (x y : ℕ). cond (eqb x 0) 0 y) (b j k) (a j k)), a i l, b i l)
