-- n rounds are as many as can run: they end, and more would change nothing.
use mathlib.Core.Path.{◌≡◌, sym, ◌∙◌}
use mathlib.Core.Logic.{inl, inr, ⊎_elim}
use Prim.Native.Nat.{ℕ, zero, suc, ◌≤◌, ◌<◌, min}
use native.Mathlib.Nat.{eq-zero-or-pos}
use native.Mathlib.Omega.{arith}
use Rattle.exact.specs.Rows.{sum}
use Rattle.exact.proofs.RowLaws.{sum_term}
use Rattle.settlement.specs.Rounds.{Standing, start, round, run, spread, RoundsSuffice}
use Rattle.settlement.specs.Settling.{SettlementEnds}
use Rattle.settlement.proofs.RoundLaws.{Ended, run_done, run_spent, run_more, spread_ended, spread_rounds}
use Rattle.settlement.proofs.SettleLaws.{scaled_le_revised}

module _ (n : ℕ) (v : ℕ → ℕ) where
  -- nothing is left of the deficit or of the balances
  abbrev Over : Standing → Type 0
  Over s = min s.deficit (sum s.balance n) ≡ 0

  run_over : (k : ℕ) (s : Standing) → Over s → run n v k s ≡ s
  run_over k s o =
      ⊎_elim (λ (d : s.deficit ≡ 0). run_done n v k s d) (λ (d : 0 < s.deficit). run_spent n v k s (omega arith)) (eq-zero-or-pos s.deficit)

  -- rounds that are over after k are the same for every larger number allowed
  run_enough : (k j : ℕ) (s : Standing) → k ≤ j → Over (run n v k s) → run n v j s ≡ run n v k s
  unfolding run
  run_enough zero j s h o = run_over j s o
  run_enough (suc k) zero s h o = absurd (omega arith)
  run_enough (suc k) (suc j) s h o =
      ⊎_elim
      (λ (d : s.deficit ≡ 0). run_done n v (suc j) s d ∙ sym (run_done n v (suc k) s d))
      (λ (d : 0 < s.deficit).
      ⊎_elim
      (λ (b : sum s.balance n ≡ 0). run_spent n v (suc j) s b ∙ sym (run_spent n v (suc k) s b))
      (λ (b : 0 < sum s.balance n).
      rw (run_more n v j s d b, run_more n v k s d b) (run_enough k j (round n v s) (omega arith) (rw (run_more n v k s d b) at o)))
      (eq-zero-or-pos (sum s.balance n)))
      (eq-zero-or-pos s.deficit)

pub rounds_suffice : RoundsSuffice
unfolding spread
rounds_suffice n v balance deficit backed =
    let e : Ended n v (start balance deficit) (spread n v balance deficit) = spread_ended n v balance deficit backed in
    record {
      ended =
          ⊎_elim
          (λ (d : (spread n v balance deficit).deficit ≡ 0). inl d)
          (λ (d : 0 < (spread n v balance deficit).deficit). inr (λ i h. omega (arith, e.done, sum_term (spread n v balance deficit).balance n i h)))
          (eq-zero-or-pos (spread n v balance deficit).deficit);
      few = spread_rounds n v balance deficit backed;
      more = λ k h. run_enough n v n k (start balance deficit) h e.done;
    }

pub settlement_ends : SettlementEnds
settlement_ends m retained received sound =
    rounds_suffice m.n _ _ _ (λ i _. scaled_le_revised m retained received sound i)
