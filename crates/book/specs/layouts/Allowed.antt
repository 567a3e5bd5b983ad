-- The values that fields may have (01, Entries; 02, c and e), for reader, writer and book.
use Rattle.std.specs.Prelude.{ℕ, Bool, true, false, cond, not, List, [], ◌∷◌, eqb, ltb, leb}
use Rattle.exact.specs.Rows.{places}
use Rattle.exact.specs.Energy.{quantity_limit, price_limit}
use Rattle.settlement.specs.Month.{tiers}
use Rattle.book.specs.layouts.Entries.{kind_of, field}
use Rattle.book.specs.declared.entries.Entry.{Entry}

-- the most cents of an amount, a receipt or a purse entry
abbrev pub cents_limit : ℕ
cents_limit = 10_000_000_000_000

-- tier is 0 with side 0, and 1 to 5 with side 1
abbrev pub tier_outside : ℕ → ℕ → Bool
tier_outside side tier = cond (eqb side 0) (not (eqb tier 0)) (cond (eqb tier 0) true (ltb tiers tier))

-- cents are 1 to the limit
abbrev pub cents_outside : ℕ → List Bool
cents_outside cents = eqb cents 0 ∷ ltb cents_limit cents ∷ []

-- the tests that a field is outside its values, of each kind that has limits; any period is allowed
abbrev pub energy_outside : (participant side quantity price : ℕ) → List Bool
energy_outside participant side quantity price = leb places participant ∷ ltb 1 side ∷ ltb quantity_limit quantity ∷ ltb price_limit price ∷ []

abbrev pub amount_outside : (participant side tier cents : ℕ) → List Bool
amount_outside participant side tier cents = leb places participant ∷ ltb 1 side ∷ tier_outside side tier ∷ cents_outside cents

-- a receipt, and a purse entry, whose cents are those of a receipt
abbrev pub receipt_outside : (participant cents : ℕ) → List Bool
receipt_outside participant cents = leb places participant ∷ cents_outside cents

-- a washup has the ranges of energy, for both of its quantities (02, e)
abbrev pub washup_outside : (participant side old new price : ℕ) → List Bool
washup_outside participant side old new price = ltb quantity_limit old ∷ energy_outside participant side new price

abbrev pub outside : Entry → List Bool
outside e =
    cond (eqb (kind_of e) 2) (energy_outside (field e 1) (field e 2) (field e 3) (field e 4))
    (cond (eqb (kind_of e) 3) (amount_outside (field e 1) (field e 2) (field e 3) (field e 4))
    (cond (eqb (kind_of e) 5) (receipt_outside (field e 1) (field e 2))
    (cond (eqb (kind_of e) 7) (receipt_outside (field e 0) (field e 1))
    (cond (eqb (kind_of e) 8) (washup_outside (field e 2) (field e 3) (field e 4) (field e 5) (field e 6)) []))))

abbrev pub none : List Bool → Bool
none [] = true
none (t ∷ l) = cond t false (none l)

abbrev pub allowed : Entry → Bool
allowed e = none (outside e)
