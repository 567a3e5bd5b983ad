-- What an entry that passed the checks of its kind is known to be.
use Prim.Native.Nat.{ℕ, zero, suc, ◌+◌, ◌≤◌, ◌<◌}
use mathlib.Core.Path.{◌≡◌, refl, subst}
use mathlib.Core.Bool.{Bool, true, false, not, true≢false, false≢true}
use mathlib.Core.Logic.{◌⊎◌, inl, inr}
use native.Mathlib.Nat.{pos_of_ne-zero}
use native.Mathlib.Omega.{arith}
use borrow.Author.Tests.{ltb-false, leb-false, eqb-true, eqb-false, not-false}
use lib.Dec.{eqb, eqb-suc-zero}
use Rattle.exact.specs.Rows.{places}
use Rattle.exact.proofs.Cases.{cases}
use Rattle.exact.specs.Energy.{quantity_limit, price_limit}
use Rattle.settlement.specs.Month.{side_limit, tiers}
use Rattle.book.specs.Checks.{refusal}
use Rattle.book.specs.layouts.Entries.{kind_of, field}
use Rattle.book.specs.layouts.Allowed.{cents_limit, tier_outside, receipt_outside, outside, allowed}
use Rattle.book.specs.rules.Kinds.{is_purse, purse_of, purse_cents, side_of_difference}
use Rattle.book.specs.rules.Periods.{is_opened, is_noticed, is_settled, side_total}
use Rattle.book.specs.rules.Refusals.{receivable, amount_checks, notice_checks, receipt_checks, settle_checks}
use Rattle.book.specs.declared.Stage.{Stage}
use Rattle.book.specs.declared.Stage.TheVariants.{Opened, Noticed, Settled}
use Rattle.book.specs.declared.entries.Entry.{Entry}
use Rattle.book.specs.declared.entries.Entry.TheVariants.{Energy, Amount, Receipt, Washup}
use Rattle.book.specs.declared.kinds.Addition.{Addition}
use Rattle.book.specs.declared.Period.{Period}
use Rattle.book.proofs.rules.CheckLaws.{all_pass, none_false}

opened_stage : (s : Stage) → not (is_opened s) ≡ false → s ≡ Opened
opened_stage Opened e = refl
opened_stage Noticed e = absurd (true≢false e)
opened_stage Settled e = absurd (true≢false e)

pub noticed_stage : (s : Stage) → is_noticed s ≡ true → s ≡ Noticed
noticed_stage Opened e = absurd (false≢true e)
noticed_stage Noticed e = refl
noticed_stage Settled e = absurd (false≢true e)

later_stage : (s : Stage) → is_opened s ≡ false → (s ≡ Noticed) ⊎ (s ≡ Settled)
later_stage Opened e = absurd (true≢false e)
later_stage Noticed e = inl refl
later_stage Settled e = inr refl

pub settled_stage : (s : Stage) → is_settled s ≡ true → s ≡ Settled
settled_stage Opened e = absurd (false≢true e)
settled_stage Noticed e = absurd (false≢true e)
settled_stage Settled e = refl

-- an amount has a place on its side: tier 1 to 5 where it is owing to a participant
abbrev pub Placed : ℕ → ℕ → Type 0
Placed side tier = (side ≡ 0) ⊎ ((side ≡ 1) × (0 < tier) × (tier ≤ tiers))

placed : (side tier : ℕ) → side ≤ 1 → (side ≡ 1 → (0 < tier) × (tier ≤ tiers)) → Placed side tier
placed zero tier l f = inl refl
placed (suc zero) tier l f = inr (refl, (f refl).0, (f refl).1)
placed (suc (suc side)) tier l f = absurd (omega arith)

tier_inside : (tier : ℕ) → tier_outside 1 tier ≡ false → (0 < tier) × (tier ≤ tiers)
tier_inside zero e = absurd (true≢false e)
tier_inside (suc t) e = (omega arith, ltb-false tiers (suc t) (rw (eqb-suc-zero t) at e))

-- the cents of a washup have a place on either side
pub difference_placed : (side : ℕ) (negative : Bool) → side ≤ 1 → Placed (side_of_difference negative side) tiers
difference_placed side negative l = placed _ tiers (cases (λ s. s ≤ 1) negative (λ _. omega arith) (λ _. l)) (λ _. (omega arith, omega arith))

-- what is known of the fields of an allowed entry
pub energy_inside : (k i side quantity price : ℕ) → allowed (Energy k i side quantity price) ≡ true
    → (i < places) × Placed side tiers × (quantity ≤ quantity_limit) × (price ≤ price_limit)
energy_inside k i side quantity price e =
    let f = none_false (outside (Energy k i side quantity price)) e in (
      leb-false places i f.0,
      placed side tiers (ltb-false 1 side f.1.0) (λ _. (omega arith, omega arith)),
      ltb-false quantity_limit quantity f.1.1.0,
      ltb-false price_limit price f.1.1.1.0,
    )

pub washup_inside : (k earlier i side old new price : ℕ) → allowed (Washup k earlier i side old new price) ≡ true
    → (i < places) × (side ≤ 1) × (old ≤ quantity_limit) × (new ≤ quantity_limit) × (price ≤ price_limit)
washup_inside k earlier i side old new price e =
    let f = none_false (outside (Washup k earlier i side old new price)) e in (
      leb-false places i f.1.0,
      ltb-false 1 side f.1.1.0,
      ltb-false quantity_limit old f.0,
      ltb-false quantity_limit new f.1.1.1.0,
      ltb-false price_limit price f.1.1.1.1.0,
    )

pub amount_inside : (k i side tier cents : ℕ) → allowed (Amount k i side tier cents) ≡ true → (i < places) × Placed side tier × (cents ≤ cents_limit)
amount_inside k i side tier cents e =
    let f = none_false (outside (Amount k i side tier cents)) e in (
      leb-false places i f.0,
      placed side tier (ltb-false 1 side f.1.0) (λ q. tier_inside tier (subst (λ s. tier_outside s tier ≡ false) q f.1.1.0)),
      ltb-false cents_limit cents f.1.1.1.1.0,
    )

pub receipt_inside : (k i cents : ℕ) → allowed (Receipt k i cents) ≡ true → (i < places) × (cents ≤ cents_limit)
receipt_inside k i cents e =
    let f = none_false (outside (Receipt k i cents)) e in
    (leb-false places i f.0, ltb-false cents_limit cents f.1.1.0)

pub purse_fields : (e : Entry) → allowed e ≡ true → is_purse e ≡ true → (purse_of e < places) × (purse_cents e ≤ cents_limit) × (0 < purse_cents e)
purse_fields e a q =
    let i = field e 0 in
    let cents = field e 1 in
    let f = none_false (receipt_outside i cents) (rw (eqb-true (kind_of e) 7 q) at a) in
    (rw q (leb-false places i f.0), rw q (ltb-false cents_limit cents f.1.1.0), rw q (pos_of_ne-zero (eqb-false cents 0 f.1.0)))

-- n participants, and the period that the entry names
module _ (n : ℕ) (p : Period) where
  pub record PassesAmount (i side cents : ℕ) : Type 0 where
    pub member : i < n
    pub stage : p.stage ≡ Opened
    pub fits : side_total n p side + cents ≤ side_limit

  pub amount_passes : (misdated : Bool) (a : Addition) → refusal (amount_checks n p misdated a) ≡ 0 → PassesAmount a.participant a.side a.cents
  amount_passes misdated a e =
      let f = all_pass (amount_checks n p misdated a) refl e in
      record {
        member = leb-false n a.participant f.0;
        stage = opened_stage p.stage f.1.0;
        fits = ltb-false side_limit (side_total n p a.side + a.cents) f.1.1.1.0;
      }

  pub record PassesNotice : Type 0 where
    pub stage : p.stage ≡ Opened
    pub equal : side_total n p 0 ≡ side_total n p 1

  pub notice_passes : refusal (notice_checks n p) ≡ 0 → PassesNotice
  notice_passes e =
      let f = all_pass (notice_checks n p) refl e in
      record {
        stage = opened_stage p.stage f.0;
        equal = eqb-true (side_total n p 0) (side_total n p 1) (not-false (eqb (side_total n p 0) (side_total n p 1)) f.1.0);
      }

  pub record PassesReceipt (i cents : ℕ) : Type 0 where
    pub member : i < n
    pub stage : (p.stage ≡ Noticed) ⊎ (p.stage ≡ Settled)
    pub fits : cents ≤ receivable p i

  pub receipt_passes : (barred : Bool) (i cents : ℕ) → refusal (receipt_checks n barred p i cents) ≡ 0 → PassesReceipt i cents
  receipt_passes barred i cents e =
      let f = all_pass (receipt_checks n barred p i cents) refl e in
      record {
        member = leb-false n i f.0;
        stage = later_stage p.stage f.1.0;
        fits = ltb-false (receivable p i) cents f.1.1.1.0;
      }

pub settle_passes : (p : Period) → refusal (settle_checks p) ≡ 0 → p.stage ≡ Noticed
settle_passes p e = noticed_stage p.stage (not-false _ (all_pass (settle_checks p) refl e).0)
