-- The amount is three digits, and each call of `next_digit` brings one more of them down.
use mathlib.Core.Path.{◌≡◌, refl}
use Prim.Native.Nat.{ℕ, ◌+◌, ◌*◌, ◌/◌, ◌%◌, ◌^◌}
use native.Mathlib.Nat.{mod-lt}
use native.Mathlib.Omega.{arith}
use Rattle.exact.proofs.LongDivision.{digit_le, quotient_le}
use Rattle.exact.proofs.division.proportion.Goals as goal

-- the two upper digits of the amount
abbrev upper : ℕ → ℕ
upper b = b / 2 ^ 30 * 2 ^ 15 + b / 2 ^ 15 % 2 ^ 15

whole : (b : ℕ) → upper b * 2 ^ 15 + b % 2 ^ 15 ≡ b
whole b = omega arith

pub overflow_mul-n : goal.overflow_mul-n
overflow_mul-n c = omega (arith, digit_le {k = c.args.amount / 2 ^ 30} {B = 2 ^ 14} c.requires.within (omega arith))

pub next_digit-middle-requires : goal.next_digit-middle-requires
next_digit-middle-requires c =
    let a = c.args in
    omega (arith, quotient_le (a.amount / 2 ^ 30) c.requires.within, mod-lt (a.amount / 2 ^ 30 * a.part) c.requires.some)

pub next_digit-requires : goal.next_digit-requires
next_digit-requires c =
    omega (arith, c.next_digit-middle.ensures (c.args.amount / 2 ^ 30) refl refl, quotient_le (upper c.args.amount) c.requires.within, mod-lt (upper c.args.amount * c.args.part) c.requires.some)

pub returns : goal.returns
returns c =
    let b = c.args.amount in
    let middle = c.next_digit-middle.ensures (b / 2 ^ 30) refl refl in
    rw (whole b) at (c.next_digit.ensures (upper b) middle.0 middle.1)
