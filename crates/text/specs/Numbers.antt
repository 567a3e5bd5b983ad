-- Numbers in base ten.
use Rattle.std.specs.Prelude.{ℕ, zero, suc, ◌+◌, ◌/◌, ◌%◌, cond, List, [], ◌∷◌, ◌++◌, ltb}

-- the digits of n, the first not 0 unless it is the only one, as characters; at most so many more than one
unfoldable pub digits_of : ℕ → ℕ → List ℕ
digits_of zero n = (48 + n % 10) ∷ []
digits_of (suc more) n = cond (ltb n 10) ((48 + n) ∷ []) (digits_of more (n / 10) ++ ((48 + n % 10) ∷ []))

-- 20 digits hold every number below 2 ^ 64
unfoldable pub decimal : ℕ → List ℕ
decimal n = digits_of 19 n

-- the room that a number and a byte after it take at most
abbrev pub number_room : ℕ
number_room = 21

-- numbers, a space between each two, and one byte after the last
unfoldable pub spaced : List ℕ → ℕ → List ℕ
spaced [] after = []
spaced (n ∷ []) after = decimal n ++ after ∷ []
spaced (n ∷ m ∷ l) after = (decimal n ++ 32 ∷ []) ++ spaced (m ∷ l) after
