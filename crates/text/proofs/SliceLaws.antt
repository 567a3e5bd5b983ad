-- Bytes put into a slice, and moved to its front.
use Rattle.std.proofs.Common.{◌≡◌, ap, ◌∙◌, ℕ, ◌+◌, ◌-◌, ◌≤◌, List, ◌++◌, length, take, drop, append_assoc, length-append, length-drop, arith}
use Rattle.std.proofs.lemmas.List.Edits.{sets, sets-eq}
use Rattle.std.proofs.lemmas.Slice.{between_is}
use Rattle.std.proofs.Math.Seq.{take_at, length-take-le}
use borrow.Rule.Slice.PartMut.{put_mid}
use lib.Seq.{drop-drop}
use Rattle.text.specs.Slices.{kept}

-- what a copy into a part leaves
pub put_part : (out bytes part : List ℕ) (start place count : ℕ) → start ≡ place → place + length bytes ≤ length out → count ≡ length bytes → part ≡ bytes
    → put_mid start count out part ≡ sets out place bytes
put_part out bytes part start place count s h e q = rw (s, e, q, sets-eq bytes out place h, append_assoc, drop-drop)

-- what is put behind the first bytes stands behind them
pub put_behind : (room bytes : List ℕ) (place len end : ℕ) → place ≡ len → end ≡ len + length bytes → len + length bytes ≤ length room
    → take end (sets room place bytes) ≡ take len room ++ bytes
put_behind room bytes place len end p e h =
    let front : List ℕ = take len room ++ bytes in
    let rest : List ℕ = drop (len + length bytes) room in
    let n : length front ≡ len + length bytes = omega (arith, length-append (take len room) bytes, length-take-le len room (omega arith)) in
    rw (p, e) (ap (take (len + length bytes)) (sets-eq bytes room len h) ∙ take_at front rest (len + length bytes) n)

-- what was kept stands in front
pub kept_front : (block : List ℕ) (from to : ℕ) → to ≤ length block → take (to - from) (kept block from (to - from)) ≡ drop from (take to block)
unfolding kept
kept_front block from to h =
    let n : length (take (to - from) (drop from block)) ≡ to - from = length-take-le (to - from) (drop from block) (omega (arith, length-drop from block)) in
    take_at (take (to - from) (drop from block)) (drop (to - from) block) (to - from) n ∙ between_is block from to
