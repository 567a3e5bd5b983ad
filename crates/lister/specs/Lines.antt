-- The lines of the listing (01, Reckoned examples, its end).
use Rattle.std.specs.Prelude.{ℕ, zero, suc, ◌%◌, ◌^◌, cond, List, [], ◌∷◌, ◌++◌, ◌==◌, slice_index}
use Rattle.text.specs.Numbers.{decimal}

-- a number, and a space or a line end after it
abbrev pub with_space : ℕ → List ℕ
with_space n = decimal n ++ 32 ∷ []

abbrev pub with_newline : ℕ → List ℕ
with_newline n = decimal n ++ 10 ∷ []

-- 'entry answer paid held'
abbrev pub header : List ℕ
header =
    101 ∷ 110 ∷ 116 ∷ 114 ∷ 121 ∷ 32 ∷ 97 ∷ 110 ∷ 115 ∷ 119 ∷ 101 ∷ 114 ∷ 32
    ∷ 112 ∷ 97 ∷ 105 ∷ 100 ∷ 32 ∷ 104 ∷ 101 ∷ 108 ∷ 100 ∷ 10 ∷ []

-- entry number, modulo 2 ^ 64, answer, cents paid by it, cents held
unfoldable pub entry_line : ℕ → ℕ → ℕ → ℕ → List ℕ
entry_line number answer paid held = with_space (number % 2 ^ 64) ++ with_space answer ++ with_space paid ++ with_newline held

-- 'pay', participant and cents, where there are any
unfoldable pub pay_line : ℕ → ℕ → List ℕ
pay_line participant cents = cond (cents == 0) [] ((112 ∷ 97 ∷ 121 ∷ 32 ∷ []) ++ with_space participant ++ with_newline cents)

-- those of the participants below n
unfoldable pub pay_lines : List ℕ → ℕ → List ℕ
pay_lines words zero = []
pay_lines words (suc n) = pay_lines words n ++ pay_line n (slice_index words n)
