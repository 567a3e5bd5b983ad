use Rattle.std.proofs.Common.{◌≡◌, ◌+◌, ◌*◌, ◌≤◌, ◌++◌, length, drop}
use Rattle.std.specs.Slice.Iter.{chunks_exact_rest, chunks_exact_size}
use Rattle.std.specs.Iterator.Adapters.{enumerate_source, enumerate_count}
use Rattle.lister.specs.inner.Runs.{line_room, lines_to}
use Rattle.lister.proofs.runs.put_lines.Given as goal

abbrev pub invariant-loop-i : goal.invariant-loop-i
invariant-loop-i l =
    let n = length l.yielded in (
    (enumerate_count l.i-iterator ≡ n)
    × (l.out ≡ l.initial.out ++ lines_to l.first l.lines n)
    × (length l.out ≤ length l.initial.out + n * line_room)
    × (chunks_exact_rest (enumerate_source l.i-iterator) ≡ drop (n * 3) l.lines)
    × (chunks_exact_size (enumerate_source l.i-iterator) ≡ 3)
    × (goal.iterator-loop-i).can_next l.i-iterator
    × (goal.iterator-loop-i).is_finite l.i-iterator
    )
