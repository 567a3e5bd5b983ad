-- Rows: a number for each participant, or each group, as a function of its number; sums, the largest, and arrays of rows.
use Rattle.std.specs.Prelude.{ℕ, zero, suc, ◌+◌, max, List, [], ◌∷◌, ◌++◌, get_or, drop, replicate}

-- as many cells as a row's array has (01, The month's sums: n from 1 to 64)
abbrev pub places : ℕ
places = 64

-- the number at place i of an array, 0 past its end
abbrev pub at : List ℕ → ℕ → ℕ
at a i = get_or a i 0

-- f 0 + .. + f (n - 1)
unfoldable pub sum : (ℕ → ℕ) → ℕ → ℕ
sum f zero = 0
sum f (suc n) = sum f n + f n

-- the largest of f 0, .., f (n - 1), and of 0
unfoldable pub largest : (ℕ → ℕ) → ℕ → ℕ
largest f zero = 0
largest f (suc n) = max (largest f n) (f n)

module _ {A : Type 0} where
  -- the list f 0, .., f (n - 1)
  unfoldable pub table : (ℕ → A) → ℕ → List A
  table f zero = []
  table f (suc n) = table f n ++ (f n ∷ [])

  -- the list d with f 0, .., f (n - 1) in its first n places
  unfoldable pub filled : (ℕ → A) → ℕ → List A → List A
  filled f n d = table f n ++ drop n d

-- the array of a row: f below n, and 0 from n on
unfoldable pub cells : (ℕ → ℕ) → ℕ → List ℕ
cells f n = filled f n (replicate places 0)
