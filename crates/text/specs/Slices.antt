-- Bytes put into lent bytes, and bytes moved to the front of a block.
use Rattle.std.specs.Prelude.{ℕ, ◌+◌, ◌≡◌, List, ◌++◌, length, take, drop}
use Rattle.std.proofs.lemmas.List.Edits.{sets}

-- the bytes l stand from a place on, no other byte is changed, and end is the place after them
pub record Puts (before : List ℕ) (place : ℕ) (l : List ℕ) (after : List ℕ) (end : ℕ) : Type 0 where
  pub bytes : after ≡ sets before place l
  pub next : end ≡ place + length l

-- so many bytes from a place on moved to the front, and no other place changed
unfoldable pub kept : List ℕ → ℕ → ℕ → List ℕ
kept block from count = take count (drop from block) ++ drop count block
