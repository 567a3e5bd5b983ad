-- The record that the program keeps of a book, which contracts see for it, and what a run of the book leaves.
use Rattle.std.specs.Prelude.{ℕ, List}
use Rattle.settlement.specs.declared.groups.Grouping.{Grouping}
use Rattle.book.specs.declared.limits.Limits.{Limits}
use Rattle.book.specs.declared.Period.{Period}

pub record BookRecord : Type 0 where
  pub n : ℕ
  pub grouping : Grouping
  pub limits : Limits
  pub highest : ℕ
  pub count : ℕ
  pub held : ℕ
  pub periods : List Period
  pub purses : List ℕ

pub record RanRecord : Type 0 where
  pub book : BookRecord
  pub place : ℕ
  pub wrote : ℕ
