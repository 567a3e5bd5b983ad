-- The lines of a run of the book: three words for each of its entries.
use Rattle.std.specs.Prelude.{ℕ, zero, suc, ◌+◌, ◌-◌, ◌*◌, cond, List, [], ◌++◌, ◌==◌, slice_index}
use Rattle.exact.specs.Rows.{places}
use Rattle.text.specs.Numbers.{number_room}
use Rattle.lister.specs.Lines.{entry_line, pay_lines}

-- the room that lines take at most
abbrev pub line_room : ℕ
line_room = 4 * number_room

abbrev pub pay_room : ℕ
pay_room = 4 + 2 * number_room

-- the lines of the first entries of a run, of which each left three words: answer, cents paid, cents held
unfoldable pub lines_to : ℕ → List ℕ → ℕ → List ℕ
lines_to first lines zero = []
lines_to first lines (suc count) =
    lines_to first lines count
    ++ entry_line (first + count) (slice_index lines (count * 3)) (slice_index lines (count * 3 + 1)) (slice_index lines (count * 3 + 2))

-- the cents paid by the last of them; 0 where there is none
unfoldable pub last_paid : List ℕ → ℕ → ℕ
last_paid lines count = cond (count == 0) 0 (slice_index lines ((count - 1) * 3 + 1))

-- the lines of a run's entries and, where the last of them has paid, those of its payouts
unfoldable pub run_lines : ℕ → List ℕ → ℕ → List ℕ → List ℕ
run_lines first lines count words = lines_to first lines count ++ cond (last_paid lines count == 0) [] (pay_lines words places)
