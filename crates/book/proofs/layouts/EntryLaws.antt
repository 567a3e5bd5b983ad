-- Laws of kinds, layouts and allowed values.
use mathlib.Core.Path.{◌≡◌, refl, sym, ap, subst, ◌∙◌}
use mathlib.Core.Bool.{Bool, true, false, cond, true≢false}
use mathlib.Core.List.{List, ◌++◌}
use Prim.Native.Nat.{ℕ, zero, suc, ◌≤◌, ◌<◌}
use native.Mathlib.Nat.{zero-add, pos_of_ne-zero}
use native.Mathlib.Omega.{arith}
use borrow.Author.Tests.{leb-false, eqb-false}
use lib.Dec.{eqb, leb}
use lib.ListN.{length, drop}
use lib.Seq.{sets, sets-eq}
use Rattle.book.specs.layouts.Fields.{bytes, fields_at, field_bytes}
use Rattle.book.specs.layouts.Entries.{body_lengths, body_length, unknown, layout, kind_number, kind_of, fields_of, entry_of, bytes_of, size}
use Rattle.book.specs.declared.entries.Entry.{Entry}
use Rattle.book.specs.declared.entries.Kind.{Kind}
use Rattle.book.specs.declared.entries.Kind.TheVariants as kinds
use Rattle.book.specs.declared.entries.Entry.TheVariants.{Open, Energy, Amount, Notice, Receipt, Settle, Purse, Washup}
use Rattle.book.proofs.layouts.FieldLaws.{total}

pub known : (kind : ℕ) → unknown kind ≡ false → (0 < kind) × (kind < length body_lengths)
known kind h = go (eqb kind 0) refl h
  where
    go : (t : Bool) → eqb kind 0 ≡ t → cond t true (leb (length body_lengths) kind) ≡ false → (0 < kind) × (kind < length body_lengths)
    go true e k = absurd (true≢false k)
    go false e k = (pos_of_ne-zero (eqb-false kind 0 e), leb-false (length body_lengths) kind k)

-- what holds of each kind that there is, holds of a known kind
module _ (P : ℕ → Type 0) (p1 : P 1) (p2 : P 2) (p3 : P 3) (p4 : P 4) (p5 : P 5) (p6 : P 6) (p7 : P 7) (p8 : P 8) where
  pub each_kind : (kind : ℕ) → unknown kind ≡ false → P kind
  each_kind kind h = go kind (known kind h).0 (known kind h).1
    where
      go : (k : ℕ) → 0 < k → k < length body_lengths → P k
      go zero a b = absurd (omega arith)
      go (suc zero) a b = p1
      go (suc (suc zero)) a b = p2
      go (suc (suc (suc zero))) a b = p3
      go (suc (suc (suc (suc zero)))) a b = p4
      go (suc (suc (suc (suc (suc zero))))) a b = p5
      go (suc (suc (suc (suc (suc (suc zero)))))) a b = p6
      go (suc (suc (suc (suc (suc (suc (suc zero))))))) a b = p7
      go (suc (suc (suc (suc (suc (suc (suc (suc zero)))))))) a b = p8
      go (suc (suc (suc (suc (suc (suc (suc (suc (suc k))))))))) a b = absurd (omega arith)

pub number_known : (kind : Kind) → unknown (kind_number kind) ≡ false
number_known kinds.Open = refl
number_known kinds.Energy = refl
number_known kinds.Amount = refl
number_known kinds.Notice = refl
number_known kinds.Receipt = refl
number_known kinds.Settle = refl
number_known kinds.Purse = refl
number_known kinds.Washup = refl

pub kind_known : (e : Entry) → unknown (kind_of e) ≡ false
kind_known (Open _) = refl
kind_known (Energy _ _ _ _ _) = refl
kind_known (Amount _ _ _ _ _) = refl
kind_known (Notice _) = refl
kind_known (Receipt _ _ _) = refl
kind_known (Settle _) = refl
kind_known (Purse _ _) = refl
kind_known (Washup _ _ _ _ _ _ _) = refl

-- an entry is what its kind and its fields make
pub entry_again : (e : Entry) → entry_of (kind_of e) (fields_of e) ≡ e
unfolding entry_of
entry_again (Open _) = refl
entry_again (Energy _ _ _ _ _) = refl
entry_again (Amount _ _ _ _ _) = refl
entry_again (Notice _) = refl
entry_again (Receipt _ _ _) = refl
entry_again (Settle _) = refl
entry_again (Purse _ _) = refl
entry_again (Washup _ _ _ _ _ _ _) = refl

-- a fact of an entry of a known kind, from that of the entry with its fields
pub of_kind : (P : Entry → Type 0) (k : ℕ) (e : Entry) → kind_of e ≡ k → P (entry_of k (fields_of e)) → P e
of_kind P k e q = subst P (ap (λ (j : ℕ). entry_of j (fields_of e)) (sym q) ∙ entry_again e)

-- the fields of a layout make an entry of that kind with those fields
pub kind_again : (s : List ℕ) (place kind : ℕ) → unknown kind ≡ false → kind_of (entry_of kind (fields_at (layout kind) s place)) ≡ kind
unfolding entry_of
kind_again s place = each_kind (λ k. kind_of (entry_of k (fields_at (layout k) s place)) ≡ k) refl refl refl refl refl refl refl refl

pub fields_again : (s : List ℕ) (place kind : ℕ) → unknown kind ≡ false
    → fields_of (entry_of kind (fields_at (layout kind) s place)) ≡ fields_at (layout kind) s place
unfolding entry_of fields_at
fields_again s place = each_kind (λ k. fields_of (entry_of k (fields_at (layout k) s place)) ≡ fields_at (layout k) s place) refl refl refl refl refl refl refl refl

-- the list of body lengths is that of the layouts
pub layout_total : (kind : ℕ) → unknown kind ≡ false → total (layout kind) ≡ body_length kind
layout_total = each_kind (λ k. total (layout k) ≡ body_length k) refl refl refl refl refl refl refl refl

pub body_le : (kind : ℕ) → unknown kind ≡ false → body_length kind ≤ 255
body_le = each_kind (λ k. body_length k ≤ 255) (omega arith) (omega arith) (omega arith) (omega arith) (omega arith) (omega arith) (omega arith) (omega arith)

pub bytes_size : (e : Entry) → length (bytes_of e) ≡ size e
unfolding bytes_of field_bytes bytes
bytes_size (Open _) = refl
bytes_size (Energy _ _ _ _ _) = refl
bytes_size (Amount _ _ _ _ _) = refl
bytes_size (Notice _) = refl
bytes_size (Receipt _ _ _) = refl
bytes_size (Settle _) = refl
bytes_size (Purse _ _) = refl
bytes_size (Washup _ _ _ _ _ _ _) = refl

-- what is put from the first place on
pub put_front : (b o : List ℕ) (n : ℕ) → length b ≡ n → n ≤ length o → sets o 0 b ≡ b ++ drop n o
put_front b o n e h = sets-eq b o 0 (omega arith) ∙ rw (zero-add, e)
