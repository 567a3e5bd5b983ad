use Prim.Native.Nat.{◌+◌, ◌-◌}
use mathlib.Core.Path.{sym, ◌∙◌}
use mathlib.Core.List.{[], ◌∷◌}
use native.Mathlib.Omega.{arith}
use Rattle.std.proofs.lemmas.List.Edits.{sets-eq}
use Rattle.std.proofs.lemmas.Slice.{put_mid-paste}
use Rattle.book.proofs.lines.put_line.Goals as goal

pub returns : goal.returns
returns c =
    let s = c.args in
    let line = s.answer ∷ s.paid ∷ s.held ∷ [] in
    put_mid-paste s.k (s.k + 3 - s.k) s.lines.now c.copy_from_slice.new.self line 3 c.copy_from_slice.ensures.after (omega arith) (omega arith)
    ∙ sym (sets-eq line s.lines.now s.k (omega arith))
