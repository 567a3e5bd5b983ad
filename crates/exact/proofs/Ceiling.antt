-- A division rounded up: from quotient and remainder, and its bounds.
use mathlib.Core.Path.{◌≡◌, sym}
use Prim.Native.Nat.{ℕ, ◌+◌, ◌-◌, ◌*◌, ◌/◌, ◌%◌, ◌≤◌, ◌<◌}
use native.Mathlib.Nat.{add-mul, one-mul, div-add-mod', div-eq_of_lt, div-eq_of_lt-le, div-mul-le_self, lt-div-mul-add, lt_of_mul-lt-mul_right, mod-lt}
use native.Mathlib.Omega.{arith}
use Rattle.exact.specs.Division.{ceil_div}

module _ (n d : ℕ) (some : 0 < d) where
  pub ceil_even : n % d ≡ 0 → n / d ≡ ceil_div n d
  unfolding ceil_div
  ceil_even e =
      sym (div-eq_of_lt-le {k = n / d} d (omega (arith, div-add-mod' n d))
      (omega (arith, div-add-mod' n d, add-mul (n / d) 1 d, one-mul d)))

  pub ceil_more : 0 < n % d → n / d + 1 ≡ ceil_div n d
  unfolding ceil_div
  ceil_more e =
      sym (div-eq_of_lt-le {k = n / d + 1} d (omega (arith, div-add-mod' n d, add-mul (n / d) 1 d, one-mul d))
      (omega (arith, div-add-mod' n d, mod-lt n some, add-mul (n / d + 1) 1 d, add-mul (n / d) 1 d, one-mul d)))

  pub ceil_ge : n ≤ ceil_div n d * d
  unfolding ceil_div
  ceil_ge = omega (arith, lt-div-mul-add {a = n + (d - 1)} some)

  pub ceil_lt : ceil_div n d * d < n + d
  unfolding ceil_div
  ceil_lt = omega (arith, div-mul-le_self (n + (d - 1)) d)

  pub ceil_le : (c : ℕ) → n ≤ c * d → ceil_div n d ≤ c
  ceil_le c h =
      let l : ceil_div n d < c + 1 = lt_of_mul-lt-mul_right d (omega (arith, ceil_lt, add-mul c 1 d, one-mul d)) in
      omega arith

  pub ceil_zero : n ≡ 0 → ceil_div n d ≡ 0
  unfolding ceil_div
  ceil_zero e = div-eq_of_lt (omega arith)
