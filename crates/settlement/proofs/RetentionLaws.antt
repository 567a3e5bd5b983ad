-- Retention is at most the tier 5 part. Nothing else of it is used above a notice.
use Prim.Native.Nat.{ℕ, ◌*◌, ◌≤◌, ◌<◌}
use mathlib.Core.Path.{◌≡◌, refl}
use borrow.Author.Tests.{ne_eqb, lt-leb}
use native.Mathlib.Nat.{mul-le-mul_left}
use native.Mathlib.Omega.{arith}
use Rattle.exact.specs.Division.{ceil_div}
use Rattle.exact.proofs.Cases.{cases_eq, cases_le}
use Rattle.exact.proofs.Ceiling.{ceil_le}
use Rattle.exact.proofs.RowLaws.{largest_le}
use Rattle.settlement.specs.Month.{Month}
use Rattle.settlement.specs.Notice.{gives, Retained, Due}
use Rattle.settlement.specs.Groups.{group_count, group_retention, noticed}
use Rattle.settlement.specs.declared.groups.Grouping.{Grouping}

-- a shortfall below g gives a proportion, rounded up
pub gives_share : (s g G : ℕ) → 0 < s → s < g → gives s g G ≡ ceil_div (G * s) g
unfolding gives
gives_share s g G some less =
    rw (ne_eqb g 0 (λ e. omega arith), ne_eqb s 0 (λ e. omega arith), lt-leb g s less)

-- no shortfall gives nothing
pub gives_nothing : (g G : ℕ) → gives 0 g G ≡ 0
unfolding gives
gives_nothing g G = cases_eq (λ z. z ≡ 0) g 0 (λ _. refl) (λ _. refl)

gives_le : (s g G : ℕ) → gives s g G ≤ G
unfolding gives
gives_le s g G =
    cases_eq (λ z. z ≤ G) g 0 (λ _. omega arith) (λ some.
    cases_eq (λ z. z ≤ G) s 0 (λ _. omega arith) (λ _.
    cases_le (λ z. z ≤ G) g s (λ _. omega arith) (λ less.
    ceil_le (G * s) g (omega arith) G (mul-le-mul_left G (omega arith)))))

pub retention_sound : (m : Month) (grouping : Grouping) → Retained m (group_retention m grouping)
unfolding group_retention
retention_sound m grouping = record { within = λ i. largest_le _ _ group_count (λ k _. gives_le _ _ _) }

-- so what a notice hands on as payable is due
abbrev pub notice_due : (m : Month) (grouping : Grouping) → Due m (noticed m grouping).payable
notice_due m grouping = record { retained = group_retention m grouping; sound = retention_sound m grouping; row = refl }
