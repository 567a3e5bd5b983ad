-- The invariant of the loop that runs the rounds: the rounds still to run make of where they stand what all of them make.
use Prim.Native.Nat.{ℕ, suc, ◌+◌, ◌-◌, ◌≤◌, ◌<◌}
use mathlib.Core.Path.{◌≡◌, refl, sym, ap, ap₂, ◌∙◌}
use mathlib.Core.List.{List}
use native.Mathlib.Nat.{pos_of_ne-zero}
use native.Mathlib.Omega.{arith}
use Rattle.exact.specs.Rows.{at, sum, cells}
use Rattle.exact.proofs.RowLaws.{cells_cong, sum_cong, sum_mono, sum_holds, holds}
use Rattle.settlement.specs.Month.{side_limit}
use Rattle.settlement.specs.Rounds.{Standing, Backing, weight, loss, round, run, spread}
use Rattle.settlement.proofs.RoundLaws.{positives, positives_le, some_positive, round_spends, round_deficit, round_counts, round_backed, run_done, run_spent, run_more, HoldsStanding}
use Rattle.settlement.proofs.LossLaws.{weights_none, balances_le, loss_cong}

-- an array that holds backed balances is backed
pub backing_held : {n : ℕ} {v balance : ℕ → ℕ} {deficit : ℕ} {left : List ℕ} → left ≡ cells balance n → Backing n v balance deficit → Backing n v (at left) deficit
backing_held {n = n} e b = record {
  few = b.few;
  backed = λ i h. rw ((holds _ n e).reads i h) (b.backed i h);
  revised_total = b.revised_total;
  deficit_bound = b.deficit_bound;
}

module _ (n : ℕ) (v : ℕ → ℕ) (balance : ℕ → ℕ) (deficit : ℕ) where
  pub record Running (left : List ℕ) (short count : ℕ) : Type 0 where
    pub standing : Standing
    pub still : ℕ
    pub row : left ≡ cells standing.balance n
    pub short_is : short ≡ standing.deficit
    pub count_is : count ≡ standing.rounds
    pub counted : count + still ≡ n
    pub backing : Backing n v standing.balance standing.deficit
    pub enough : 0 < short → positives n v standing ≤ still
    pub same : spread n v balance deficit ≡ run n v still standing

  pub running_start : (left : List ℕ) → left ≡ cells balance n → Backing n v balance deficit → Running left deficit 0
  unfolding spread
  running_start left e b = record {
    standing = record { balance = balance; deficit = deficit; rounds = 0 };
    still = n;
    row = e;
    short_is = refl;
    count_is = refl;
    counted = omega arith;
    backing = b;
    enough = λ _. positives_le n v _;
    same = refl;
  }

  module _ {left : List ℕ} {short count : ℕ} (r : Running left short count) where
    pub running_sum : sum (at left) n ≡ sum r.standing.balance n
    running_sum = sum_holds (holds _ n r.row)

    -- the array itself is backed too
    pub running_backing : Backing n v (at left) short
    running_backing = rw r.short_is (backing_held r.row r.backing)

    pub running_bound : sum (at left) n ≤ side_limit
    running_bound = omega (arith, r.backing.revised_total, sum_mono (at left) v n running_backing.backed)

    -- where the loop ends, the code has what all rounds make
    ends : spread n v balance deficit ≡ r.standing → HoldsStanding n (spread n v balance deficit) count left
    ends e = rw e (r.count_is, r.row)

    pub running_done : short ≡ 0 → HoldsStanding n (spread n v balance deficit) count left
    running_done e = ends (r.same ∙ run_done n v r.still r.standing (sym r.short_is ∙ e))

    pub running_spent : sum (weight v (at left)) n ≡ 0 → HoldsStanding n (spread n v balance deficit) count left
    running_spent e =
        ends (r.same ∙ run_spent n v r.still r.standing (omega (arith, running_sum, balances_le n v (at left) running_backing.backed)))

    module _ (d : 0 < short) (w : 0 < sum (weight v (at left)) n) where
      some : 0 < sum r.standing.balance n
      some = pos_of_ne-zero (λ none. omega (arith, weights_none n v (at left) (running_sum ∙ none)))

      pub running_less : count < n
      running_less = omega (arith, r.counted, r.enough d, some_positive n v r.standing some)

      lost_is : (i : ℕ) → i < n → loss n v (at left) short i ≡ loss n v r.standing.balance r.standing.deficit i
      lost_is i h = rw r.short_is (loss_cong n v v _ _ _ (λ _ _. refl) (holds _ n r.row).reads i h)

      lost_total : sum (loss n v (at left) short) n ≡ sum (loss n v r.standing.balance r.standing.deficit) n
      lost_total = sum_cong _ _ n lost_is

      row_next : cells (λ i. at left i - loss n v (at left) short i) n ≡ cells (round n v r.standing).balance n
      unfolding round
      row_next = cells_cong _ _ n (λ i h. ap₂ ◌-◌ ((holds _ n r.row).reads i h) (lost_is i h))

      pub running_step : Running (cells (λ i. at left i - loss n v (at left) short i) n) (short - sum (loss n v (at left) short) n) (count + 1)
      running_step =
          let s = r.standing in
          let one : r.still ≡ suc (r.still - 1) = omega (arith, r.counted, running_less) in
          let backed = r.backing.backed in
          record {
            standing = round n v s;
            still = r.still - 1;
            row = row_next;
            short_is = omega (arith, r.short_is, lost_total, round_deficit n v s);
            count_is = omega (arith, r.count_is, round_counts n v s);
            counted = omega (arith, r.counted, running_less);
            backing = record {
              few = r.backing.few;
              backed = round_backed n v s backed;
              revised_total = r.backing.revised_total;
              deficit_bound = omega (arith, round_deficit n v s, r.backing.deficit_bound);
            };
            enough = λ more. omega (arith, r.enough d, round_spends n v s backed some (omega (arith, r.short_is, lost_total)));
            same = r.same ∙ ap (λ (k : ℕ). run n v k s) one ∙ run_more n v (r.still - 1) s (omega (arith, r.short_is)) some;
          }
