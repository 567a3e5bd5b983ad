-- Input that is read in pieces, and counts of what was read and written.
use Rattle.std.specs.Prelude.{ℕ, ◌+◌, ◌-◌, ◌^◌, ◌≤◌, ◌<◌, min, ◌≡◌, ◌==◌, Bool, true, false, cond, List, Result, Ok, Err, length, take}
use Rattle.text.specs.declared.streams.Last.{Last}
use Rattle.text.specs.declared.streams.Last.TheVariants.{More, Ended, Failed}
use Rattle.text.specs.declared.streams.Input.{Input}

-- the largest number of 64 bits: a count stays there, so that one below it is exact
abbrev pub most : ℕ
most = 2 ^ 64 - 1

-- what the last read left
abbrev pub is_ended : Last → Bool
is_ended More = false
is_ended Ended = true
is_ended Failed = false

abbrev pub is_failed : Last → Bool
is_failed More = false
is_failed Ended = false
is_failed Failed = true

-- what a read left that answered `got`: how many bytes came, or that it failed
abbrev pub last_of : {E : Type 0} → Result ℕ E → Last
last_of (Ok more) = cond (more == 0) Ended More
last_of (Err _) = Failed

-- how many bytes came, by what a read left
abbrev pub Came : Last → ℕ → Type 0
Came More more = 0 < more
Came Ended more = more ≡ 0
Came Failed more = more ≡ 0

-- how many bytes a read brought that answered `got`
abbrev pub came : {E : Type 0} → Result ℕ E → ℕ
came (Ok more) = more
came (Err _) = 0

-- a read behind the bytes of a block, with so many read before it: these bytes stay, and those that came stand behind them and
-- are counted
pub record Fetches (total : ℕ) (before : List ℕ) (i : Input) (after : List ℕ) : Type 0 where
  pub onward : length before ≤ length after
  pub same : take (length before) after ≡ before
  pub came : Came i.last (length after - length before)
  pub counted : i.total ≡ min (total + (length after - length before)) most
