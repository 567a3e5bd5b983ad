-- Laws of kinds: every entry has one, and an entry in the last arm of a match has none of those with an arm of their own.
use Prim.Native.Nat.{ℕ}
use mathlib.Core.Path.{◌≡◌, refl, ◌∙◌}
use mathlib.Core.Bool.{Bool, true, false, cond, true≢false, false≢true}
use borrow.Author.Tests.{eqb-true, eq-eqb, ne_eqb}
use lib.Dec.{eqb}
use Rattle.book.specs.layouts.Entries.{kind_of, fields_of, entry_of}
use Rattle.book.specs.rules.Kinds.{is_purse, is_receipt, is_settle, period_of, names, EveryKind}
use Rattle.book.specs.declared.entries.Entry.{Entry}
use Rattle.book.proofs.layouts.EntryLaws.{of_kind, each_kind, kind_known}

-- an entry that is not made of its fields as one of kind k is none of kind k
pub not_kind : (k : ℕ) (e : Entry) → (e ≡ entry_of k (fields_of e) → ⊥) → eqb (kind_of e) k ≡ false
not_kind k e other = ne_eqb (kind_of e) k (λ q. other (of_kind (λ (x : Entry). x ≡ entry_of k (fields_of e)) k e q refl))

pub every_kind : EveryKind
every_kind e = each_kind
    (λ k. cond (eqb k 1) true (cond (cond (eqb k 2) true (cond (eqb k 3) true (eqb k 8))) true (cond (eqb k 4) true (cond (eqb k 5) true (cond (eqb k 6) true (eqb k 7))))) ≡ true)
    refl refl refl refl refl refl refl refl (kind_of e) (kind_known e)

-- an entry names the period of its number, unless it is a purse entry
module _ (k : ℕ) (e : Entry) where
  both : (t u : Bool) → t ≡ false → cond t false u ≡ u
  both true u q = absurd (true≢false q)
  both false u q = refl

  pub names_same : is_purse e ≡ false → period_of e ≡ k → names k e ≡ true
  names_same u q = both (is_purse e) (eqb (period_of e) k) u ∙ eq-eqb (period_of e) k q

  pub names_none : is_purse e ≡ true → names k e ≡ false
  names_none = go (is_purse e) (eqb (period_of e) k)
    where
      go : (t u : Bool) → t ≡ true → cond t false u ≡ false
      go true u q = refl
      go false u q = absurd (false≢true q)

  pub named_period : names k e ≡ true → period_of e ≡ k
  named_period = go (is_purse e) (eqb (period_of e) k) (eqb-true (period_of e) k)
    where
      go : (t u : Bool) → (u ≡ true → period_of e ≡ k) → cond t false u ≡ true → period_of e ≡ k
      go true u f q = absurd (false≢true q)
      go false u f q = f q

-- a settle entry is no receipt, and a receipt no settle entry
module _ (e : Entry) where
  pub settle_not_receipt : is_settle e ≡ true → is_receipt e ≡ false
  settle_not_receipt q = rw (eqb-true (kind_of e) 6 q)

  pub receipt_not_settle : is_receipt e ≡ true → is_settle e ≡ false
  receipt_not_settle q = rw (eqb-true (kind_of e) 5 q)
