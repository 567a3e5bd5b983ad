-- Long division, a digit k at a time, over any base B: from h × a by d to (h × B + k) × a by d.
use mathlib.Core.Path.{◌≡◌, sym, ap, ◌∙◌}
use Prim.Native.Nat.{ℕ, ◌+◌, ◌*◌, ◌/◌, ◌%◌, ◌≤◌, ◌<◌}
use native.Mathlib.Nat.{add-mul, mul_comm, mul_right_comm, mul-le-mul, mul-le-mul_left, le_of_lt, div-add-mod', div-le_of_le-mul, mul-add-div_right, mul-add-mod_self_right}
use native.Mathlib.Omega.{arith}

-- a product of which one factor is at most d, at a digit below B
pub digit_le : {a d k B : ℕ} → a ≤ d → k < B → k * a ≤ B * d
digit_le h l = mul-le-mul (le_of_lt l) h

-- its quotient by d is at most the other factor
pub quotient_le : {a d : ℕ} (k : ℕ) → a ≤ d → k * a / d ≤ k
quotient_le {a} {d} k h = div-le_of_le-mul d (omega (arith, mul-le-mul_left k h, mul_comm d k))

module _ (a h k d B : ℕ) where
  spread : (h * B + k) * a ≡ h * a / d * B * d + (h * a % d * B + k * a)
  spread =
      omega (
        arith,
        add-mul (h * B) k a,
        mul_right_comm h B a,
        ap (λ (y : ℕ). y * B) (div-add-mod' (h * a) d),
        add-mul (h * a / d * d) (h * a % d) B,
        mul_right_comm (h * a / d) d B,
      )

  pub digit_quotient : 0 < d → h * a / d * B + (h * a % d * B + k * a) / d ≡ (h * B + k) * a / d
  digit_quotient some = sym (ap (λ (y : ℕ). y / d) spread ∙ mul-add-div_right some (h * a / d * B) (h * a % d * B + k * a))

  pub digit_remainder : (h * a % d * B + k * a) % d ≡ (h * B + k) * a % d
  digit_remainder = sym (ap (λ (y : ℕ). y % d) spread ∙ mul-add-mod_self_right (h * a / d * B) d (h * a % d * B + k * a))
