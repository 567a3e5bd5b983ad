-- Laws of slices' first cells.
use Prim.Native.Nat.{ℕ, zero, suc, ◌+◌, ◌*◌, ◌≤◌, ◌<◌}
use mathlib.Core.Path.{◌≡◌, sym, ap, ◌∙◌}
use mathlib.Core.List.{List}
use native.Mathlib.Omega.{arith}
use lib.Seq.{get_or-take}
use Rattle.exact.specs.Rows.{at, sum}
use Rattle.exact.proofs.RowLaws.{sum_none, sum_suc, sum_more, sum_cong, Holds}
use Rattle.settlement.specs.Month.{tiers, over_tiers, tier_at}
use Rattle.exports.specs.Slices.{front}

pub front_at : (count : ℕ) (s : List ℕ) (i : ℕ) → i < count → at (front count s) i ≡ at s i
unfolding front
front_at count s i h = get_or-take count s i 0 h

pub front_sum : (count : ℕ) (s : List ℕ) (n : ℕ) → n ≤ count → sum (at (front count s)) n ≡ sum (at s) n
front_sum count s n h = sum_cong _ _ n (λ i k. front_at count s i (omega arith))

sum_next : (f : ℕ → ℕ) (m k : ℕ) → sum f (m + (k + 1)) ≡ sum f (m + k) + f (m + k)
sum_next f m k = rw (let e : m + (k + 1) ≡ m + k + 1 = omega arith in e) (sum_more f (m + k))

-- a flat array's cells below 5 n are the tiers of n participants
pub flat_sum : (a : List ℕ) (n : ℕ) → sum (at a) (tiers * n) ≡ sum (over_tiers (tier_at a)) n
unfolding over_tiers
flat_sum a zero = sum_none (at a) ∙ sym (sum_none (over_tiers (tier_at a)))
flat_sum a (suc n) =
    let f = at a in
    let g : ℕ → ℕ = λ t. tier_at a t n in
    let m = tiers * n in
    let e : tiers * suc n ≡ m + 5 = omega arith in
    let z : m + 0 ≡ m = omega arith in
    let five : sum g 5 ≡ g 0 + g 1 + g 2 + g 3 + g 4 = omega (arith, sum_none g, sum_suc g 0, sum_suc g 1, sum_suc g 2, sum_suc g 3, sum_suc g 4) in
    rw e (omega (arith, flat_sum a n, sum_suc (over_tiers (tier_at a)) n, five, ap (sum f) z, sum_next f m 0, sum_next f m 1, sum_next f m 2, sum_next f m 3, sum_next f m 4))

-- an array of a slice's first cells holds the row in it
pub front_holds : {a : List ℕ} (count : ℕ) (s : List ℕ) (n : ℕ) → a ≡ front count s → Holds a (at (front count s)) n
front_holds count s n e = record { reads = λ i _. ap (λ (l : List ℕ). at l i) e }
