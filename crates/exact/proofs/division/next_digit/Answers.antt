-- `LongDivision` says that the sum under the division brings one digit more down.
use Prim.Native.Nat.{◌^◌}
use native.Mathlib.Omega.{arith}
use Rattle.exact.proofs.LongDivision.{digit_quotient, digit_remainder}
use Rattle.exact.proofs.division.next_digit.Goals as goal

pub returns : goal.returns
returns c h q r =
    let s = c.args in
    rw (q, r) (digit_quotient s.part h s.digit s.whole (2 ^ 15) (omega arith), digit_remainder s.part h s.digit s.whole (2 ^ 15))
