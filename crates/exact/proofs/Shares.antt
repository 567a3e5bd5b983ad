-- A row's shares of an amount, in proportion to weights, rounded up: they sum to at least the amount, and each rounding is worth
-- less than a cent.
use mathlib.Core.Path.{◌≡◌, refl, ap}
use mathlib.Core.Logic.{⊎_elim}
use Prim.Native.Nat.{ℕ, ◌+◌, ◌-◌, ◌*◌, ◌≤◌, ◌<◌, min}
use native.Mathlib.Nat.{add-mul, le_of_mul-le-mul_right, lt_of_mul-lt-mul_right, mul-zero, eq-zero-or-pos}
use native.Mathlib.Omega.{arith}
use Rattle.exact.specs.Rows.{sum}
use Rattle.exact.specs.Division.{ceil_div}
use Rattle.exact.proofs.RowLaws.{sum_mono, sum_add, sum_times, sum_term}
use Rattle.exact.proofs.Ceiling.{ceil_ge, ceil_lt, ceil_zero}

-- what is given of an amount, all but at most `slack` of it
pub record Near (given amount slack : ℕ) : Type 0 where
  pub within : given ≤ amount
  pub near : amount ≤ given + slack

-- where each term passes by at most c times its count, the sum does by at most c times all counts
sum_slack : (f g k : ℕ → ℕ) (c n : ℕ) → ((i : ℕ) → i < n → f i ≤ g i + k i * c) → sum f n ≤ sum g n + sum k n * c
sum_slack f g k c n h =
    omega (arith, sum_mono f (λ i. g i + k i * c) n h, sum_add g (λ i. k i * c) n, sum_times k c n)

module _ (w : ℕ → ℕ) (d n : ℕ) (some : 0 < sum w n) where
  -- how many weights are not 0
  abbrev pub weighted : ℕ
  weighted = sum (λ i. min (w i) 1) n

  -- a weight of 0 has nothing to round
  rounding : (i : ℕ) → i < n → ceil_div (d * w i) (sum w n) * sum w n + min (w i) 1 ≤ w i * d + min (w i) 1 * sum w n
  rounding i h =
      ⊎_elim
      (λ (z : w i ≡ 0). rw (z, mul-zero d, ceil_zero 0 (sum w n) some refl) (omega arith))
      (λ (p : 0 < w i).
      let one : min (w i) 1 ≡ 1 = omega arith in
      rw one (omega (arith, ceil_lt (d * w i) (sum w n) some)))
      (eq-zero-or-pos (w i))

  within : (i : ℕ) → i < n → w i ≤ min (w i) 1 * sum w n
  within i h =
      ⊎_elim (λ (z : w i ≡ 0). omega arith)
      (λ (p : 0 < w i). let one : min (w i) 1 ≡ 1 = omega arith in rw one (omega (arith, sum_term w n i h)))
      (eq-zero-or-pos (w i))

  weighted_some : 0 < weighted
  weighted_some =
      ⊎_elim
      (λ (z : weighted ≡ 0). absurd (omega (arith, sum_times (λ i. min (w i) 1) (sum w n) n, ap (λ (k : ℕ). k * sum w n) z, sum_mono w (λ i. min (w i) 1 * sum w n) n within)))
      (λ p. p)
      (eq-zero-or-pos weighted)

  -- rounded up, the shares pass the amount by at most one cent less than weights are not 0
  pub ceil_sum : Near d (sum (λ i. ceil_div (d * w i) (sum w n)) n) (weighted - 1)
  ceil_sum =
      let low : d ≤ sum (λ i. ceil_div (d * w i) (sum w n)) n =
      le_of_mul-le-mul_right
      (omega (
        arith,
        sum_mono (λ i. w i * d) (λ i. ceil_div (d * w i) (sum w n) * sum w n) n (λ i _. omega (arith, ceil_ge (d * w i) (sum w n) some)),
        sum_times (λ i. ceil_div (d * w i) (sum w n)) (sum w n) n,
        sum_times w d n,
      ))
      some in
      let high : sum (λ i. ceil_div (d * w i) (sum w n)) n < d + weighted =
      lt_of_mul-lt-mul_right (sum w n) (omega (
        arith,
        sum_slack (λ i. ceil_div (d * w i) (sum w n) * sum w n + min (w i) 1) (λ i. w i * d) (λ i. min (w i) 1) (sum w n) n rounding,
        sum_add (λ i. ceil_div (d * w i) (sum w n) * sum w n) (λ i. min (w i) 1) n,
        weighted_some,
        sum_times (λ i. ceil_div (d * w i) (sum w n)) (sum w n) n,
        sum_times w d n,
        add-mul d weighted (sum w n),
      )) in
      omega arith
