-- Refusals as lists of checks: the answer is the number of the first that fails, and 0 where none does.
use Rattle.std.specs.Prelude.{ℕ, Bool, cond, List, [], ◌∷◌}

pub record Check : Type 0 where
  pub fails : Bool
  pub number : ℕ

abbrev pub on : Bool → ℕ → Check
on t k = record { fails = t; number = k }

abbrev pub refusal : List Check → ℕ
refusal [] = 0
refusal (c ∷ l) = cond c.fails c.number (refusal l)
