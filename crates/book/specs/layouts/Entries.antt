-- The kinds of entry, their fields and their layouts (01, Entries; 02, c and e).
use Rattle.std.specs.Prelude.{ℕ, ◌+◌, Bool, true, cond, List, [], ◌∷◌, eqb, leb, get_or, length}
use Rattle.book.specs.layouts.Fields.{field_bytes}
use Rattle.book.specs.declared.entries.Entry.{Entry}
use Rattle.book.specs.declared.entries.Kind.{Kind}
use Rattle.book.specs.declared.entries.Kind.TheVariants as kinds
use Rattle.book.specs.declared.entries.Entry.TheVariants.{Open, Energy, Amount, Notice, Receipt, Settle, Purse, Washup}

-- the lengths of the bodies, by kind; there is no kind 0
abbrev pub body_lengths : List ℕ
body_lengths = 0 ∷ 4 ∷ 14 ∷ 15 ∷ 4 ∷ 13 ∷ 4 ∷ 9 ∷ 22 ∷ []

abbrev pub body_length : ℕ → ℕ
body_length kind = get_or body_lengths kind 0

abbrev pub unknown : ℕ → Bool
unknown kind = cond (eqb kind 0) true (leb (length body_lengths) kind)

abbrev pub kind_number : Kind → ℕ
kind_number kinds.Open = 1
kind_number kinds.Energy = 2
kind_number kinds.Amount = 3
kind_number kinds.Notice = 4
kind_number kinds.Receipt = 5
kind_number kinds.Settle = 6
kind_number kinds.Purse = 7
kind_number kinds.Washup = 8

-- the widths of the fields of a body, by kind
abbrev pub layouts : List (List ℕ)
layouts =
    []
    ∷ (4 ∷ [])
    ∷ (4 ∷ 1 ∷ 1 ∷ 4 ∷ 4 ∷ [])
    ∷ (4 ∷ 1 ∷ 1 ∷ 1 ∷ 8 ∷ [])
    ∷ (4 ∷ [])
    ∷ (4 ∷ 1 ∷ 8 ∷ [])
    ∷ (4 ∷ [])
    ∷ (1 ∷ 8 ∷ [])
    ∷ (4 ∷ 4 ∷ 1 ∷ 1 ∷ 4 ∷ 4 ∷ 4 ∷ [])
    ∷ []

abbrev pub layout : ℕ → List ℕ
layout kind = get_or layouts kind []

abbrev pub kind_of : Entry → ℕ
kind_of (Open period) = 1
kind_of (Energy period participant side quantity price) = 2
kind_of (Amount period participant side tier cents) = 3
kind_of (Notice period) = 4
kind_of (Receipt period participant cents) = 5
kind_of (Settle period) = 6
kind_of (Purse participant cents) = 7
kind_of (Washup period earlier participant side old new price) = 8

-- the fields of an entry, in the order of its layout
abbrev pub fields_of : Entry → List ℕ
fields_of (Open period) = period ∷ []
fields_of (Energy period participant side quantity price) = period ∷ participant ∷ side ∷ quantity ∷ price ∷ []
fields_of (Amount period participant side tier cents) = period ∷ participant ∷ side ∷ tier ∷ cents ∷ []
fields_of (Notice period) = period ∷ []
fields_of (Receipt period participant cents) = period ∷ participant ∷ cents ∷ []
fields_of (Settle period) = period ∷ []
fields_of (Purse participant cents) = participant ∷ cents ∷ []
fields_of (Washup period earlier participant side old new price) = period ∷ earlier ∷ participant ∷ side ∷ old ∷ new ∷ price ∷ []

-- one of them, counted from 0
abbrev pub field : Entry → ℕ → ℕ
field e j = get_or (fields_of e) j 0

-- the entry of a known kind with given fields
unfoldable pub entry_of : ℕ → List ℕ → Entry
entry_of kind f =
    cond (eqb kind 1) (Open (get_or f 0 0))
    (cond (eqb kind 2) (Energy (get_or f 0 0) (get_or f 1 0) (get_or f 2 0) (get_or f 3 0) (get_or f 4 0))
    (cond (eqb kind 3) (Amount (get_or f 0 0) (get_or f 1 0) (get_or f 2 0) (get_or f 3 0) (get_or f 4 0))
    (cond (eqb kind 4) (Notice (get_or f 0 0))
    (cond (eqb kind 5) (Receipt (get_or f 0 0) (get_or f 1 0) (get_or f 2 0))
    (cond (eqb kind 6) (Settle (get_or f 0 0))
    (cond (eqb kind 7) (Purse (get_or f 0 0) (get_or f 1 0))
    (Washup (get_or f 0 0) (get_or f 1 0) (get_or f 2 0) (get_or f 3 0) (get_or f 4 0) (get_or f 5 0) (get_or f 6 0))))))))

-- an entry is one byte of kind, then its body
unfoldable pub bytes_of : Entry → List ℕ
bytes_of e = kind_of e ∷ field_bytes (layout (kind_of e)) (fields_of e)

-- how many bytes that is
abbrev pub size : Entry → ℕ
size e = body_length (kind_of e) + 1
