-- Laws of an amount that is shared by weights to the last cent.
use mathlib.Core.Path.{◌≡◌, ap, ◌∙◌}
use mathlib.Core.Bool.{cond}
use mathlib.Core.Logic.{◌⊎◌, inl, inr, ⊎_elim}
use Prim.Native.Nat.{ℕ, ◌+◌, ◌-◌, ◌*◌, ◌≤◌, ◌<◌}
use native.Mathlib.Nat.{eq-zero-or-pos, div-add-mod', mod-lt, mul_comm, add-mul, mul-le-mul_left, le_of_mul-le-mul_right, lt_of_mul-lt-mul_right}
use native.Mathlib.Omega.{arith}
use mathlib.Core.List.{List}
use lib.Dec.{leb}
use Rattle.exact.specs.Rows.{at, sum, cells}
use Rattle.exact.proofs.Cases.{cases_le}
use Rattle.exact.proofs.RowLaws.{sum_cong, sum_mono, sum_add, sum_times, cells_cong, holds, sum_holds}
use Rattle.settlement.specs.Sharing.{leftover_cent, floor_share, remainder, leftover, share_by_weight, Shareable, SharesAreExact}
use Rattle.settlement.specs.inner.Cuts.{count_from}
use Rattle.settlement.proofs.Ranks.{cent_is, cents_total, cent_cong, count_le, rank_past}

module _ (w : ℕ → ℕ) (amount total n : ℕ) (can : Shareable w amount total n) where
  abbrev rest : ℕ → ℕ
  rest = remainder w amount total

  -- how many divisions have a remainder
  abbrev uneven : ℕ
  uneven = count_from rest n 1

  divided : (i : ℕ) → floor_share w amount total i * total + rest i ≡ w i * amount
  unfolding floor_share remainder
  divided i = div-add-mod' (w i * amount) total

  pub rest_lt : (i : ℕ) → remainder w amount total i < total
  unfolding remainder
  rest_lt i = mod-lt (w i * amount) can.some

  -- shares rounded down and remainders make up the amount
  divided_all : sum (floor_share w amount total) n * total + sum rest n ≡ amount * total
  divided_all = omega (
    arith,
    sum_cong (λ i. floor_share w amount total i * total + rest i) (λ i. w i * amount) n (λ i _. divided i),
    sum_add (λ i. floor_share w amount total i * total) rest n,
    sum_times (floor_share w amount total) total n,
    sum_times w amount n,
    ap (λ (t : ℕ). t * amount) can.whole,
    mul_comm amount total,
  )

  pub floors_le : sum (floor_share w amount total) n ≤ amount
  floors_le = le_of_mul-le-mul_right (omega (arith, divided_all)) can.some

  leftover_is : sum (floor_share w amount total) n + leftover w amount total n ≡ amount
  unfolding leftover
  leftover_is = omega (arith, floors_le)

  -- a remainder is below the total, and counts where it is not 0
  uneven_some : (i : ℕ) → rest i ≤ cond (leb 1 (rest i)) 1 0 * total
  uneven_some i =
      cases_le (λ z. rest i ≤ z * total) 1 (rest i) (λ p. omega (arith, rest_lt i)) (λ z. omega arith)

  -- not more cents are left over than divisions have a remainder
  leftover_le_uneven : leftover w amount total n ≤ uneven
  unfolding count_from
  leftover_le_uneven =
      le_of_mul-le-mul_right
      (omega (
        arith,
        divided_all,
        add-mul (sum (floor_share w amount total) n) (leftover w amount total n) total,
        ap (λ (a : ℕ). a * total) leftover_is,
        sum_mono rest (λ i. cond (leb 1 (rest i)) 1 0 * total) n (λ i _. uneven_some i),
        sum_times (λ i. cond (leb 1 (rest i)) 1 0) total n,
      ))
      can.some

  pub leftover_le : leftover w amount total n ≤ n
  leftover_le = omega (arith, leftover_le_uneven, count_le rest n 1)

  -- a share is rounded down, or it has a cent more where the division has a remainder
  share_cases : (i : ℕ) → (share_by_weight w amount total n i ≡ floor_share w amount total i)
      ⊎ ((share_by_weight w amount total n i ≡ floor_share w amount total i + 1) × (0 < rest i))
  unfolding share_by_weight
  share_cases i =
      let is = cent_is rest n (leftover w amount total n) i in
      ⊎_elim
      (λ (z : rest i ≡ 0). inl (omega (arith, is, leftover_le_uneven, rank_past rest n 1 i (omega arith))))
      (λ (p : 0 < rest i).
      ⊎_elim (λ (z : leftover_cent rest n (leftover w amount total n) i ≡ 0). inl (omega (arith, z)))
      (λ (o : 0 < leftover_cent rest n (leftover w amount total n) i). inr (omega (arith, is, o), p))
      (eq-zero-or-pos _))
      (eq-zero-or-pos (rest i))

  share_within : (i : ℕ) → share_by_weight w amount total n i ≤ w i
  share_within i =
      let under = mul-le-mul_left (w i) can.within in
      ⊎_elim
      (λ (e : share_by_weight w amount total n i ≡ floor_share w amount total i).
      rw e (le_of_mul-le-mul_right (omega (arith, divided i, under)) can.some))
      (λ (e : (share_by_weight w amount total n i ≡ floor_share w amount total i + 1) × (0 < rest i)).
      let l : floor_share w amount total i < w i = lt_of_mul-lt-mul_right total (omega (arith, divided i, under, e.1)) in
      omega (arith, l, e.0))
      (share_cases i)

  share_near : (i : ℕ) → let s = share_by_weight w amount total n i in
      (s * total < w i * amount + total) × (w i * amount < s * total + total)
  share_near i =
      ⊎_elim
      (λ (e : share_by_weight w amount total n i ≡ floor_share w amount total i).
      rw e (omega (arith, divided i, can.some), omega (arith, divided i, rest_lt i)))
      (λ (e : (share_by_weight w amount total n i ≡ floor_share w amount total i + 1) × (0 < rest i)).
      let more = add-mul (floor_share w amount total i) 1 total in
      rw e.0 (omega (arith, divided i, more, e.1), omega (arith, divided i, more, rest_lt i)))
      (share_cases i)

  share_total : sum (share_by_weight w amount total n) n ≡ amount
  unfolding share_by_weight
  share_total = omega (
    arith,
    leftover_is,
    sum_add (floor_share w amount total) (leftover_cent rest n (leftover w amount total n)) n,
    cents_total rest n (leftover w amount total n) leftover_le,
  )

pub shares_are_exact : SharesAreExact
shares_are_exact w amount total n can = record {
  all_shared = share_total w amount total n can;
  within = share_within w amount total n can;
  less_above = λ i. (share_near w amount total n can i).0;
  less_below = λ i. (share_near w amount total n can i).1;
}

-- shares go by the weights below n
module _ (w u : ℕ → ℕ) (amount total n : ℕ) (same : (i : ℕ) → i < n → w i ≡ u i) where
  floor_cong : (i : ℕ) → i < n → floor_share w amount total i ≡ floor_share u amount total i
  unfolding floor_share
  floor_cong i h = rw (same i h)

  remainder_cong : (i : ℕ) → i < n → remainder w amount total i ≡ remainder u amount total i
  unfolding remainder
  remainder_cong i h = rw (same i h)

  pub by_weight_cong : (i : ℕ) → i < n → share_by_weight w amount total n i ≡ share_by_weight u amount total n i
  unfolding share_by_weight leftover
  by_weight_cong i h =
      rw (floor_cong i h, sum_cong _ _ n floor_cong, cent_cong (remainder w amount total) (remainder u amount total) n (amount - sum (floor_share u amount total) n) remainder_cong i h)

-- the same from arrays of the shares rounded down and of the remainders
module _ (w : ℕ → ℕ) (amount total n : ℕ) (a r : List ℕ) (floors : a ≡ cells (floor_share w amount total) n) (rests : r ≡ cells (remainder w amount total) n) where
  pub leftover_given : amount - sum (at a) n ≡ leftover w amount total n
  unfolding leftover
  leftover_given = ap (λ (s : ℕ). amount - s) (sum_holds (holds (floor_share w amount total) n floors))

  pub share_given : cells (λ i. at a i + leftover_cent (at r) n (amount - sum (at a) n) i) n ≡ cells (share_by_weight w amount total n) n
  unfolding share_by_weight
  share_given =
      cells_cong _ _ n (λ i h.
      rw (leftover_given, (holds (floor_share w amount total) n floors).reads i h)
      (ap (λ (c : ℕ). floor_share w amount total i + c) (cent_cong (at r) (remainder w amount total) n (leftover w amount total n) (holds (remainder w amount total) n rests).reads i h)))

  -- where nothing is left over they are the shares
  pub share_even : amount - sum (at a) n ≡ 0 → a ≡ cells (share_by_weight w amount total n) n
  unfolding share_by_weight
  share_even z = floors ∙ cells_cong _ _ n (λ i _. omega (arith, z, leftover_given, cent_is (remainder w amount total) n (leftover w amount total n) i))
