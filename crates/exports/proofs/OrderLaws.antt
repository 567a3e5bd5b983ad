-- What arguments in order come to.
use Prim.Native.Nat.{ℕ, ◌+◌, ◌*◌, ◌≤◌, ◌<◌, min}
use mathlib.Core.Path.{◌≡◌, refl, sym, ap, ◌∙◌}
use mathlib.Core.Bool.{Bool, true, false, cond, not}
use mathlib.Core.Logic.{⊎_elim}
use mathlib.Core.List.{List, ◌∷◌}
use native.Mathlib.Omega.{arith}
use lib.ListN.{length}
use lib.Dec.{leb, eqb}
use borrow.Author.Tests.{leb-true, le-leb, lt-leb, eqb-true, eq-eqb, ne_eqb, not-false}
use Rattle.std.specs.Prelude.{Some, None}
use Rattle.std.specs.Bool.{then_some}
use Rattle.exact.specs.Rows.{places, at, sum}
use Rattle.exact.proofs.Cases.{le_or_lt, eq_or_ne}
use Rattle.settlement.specs.Month.{tiers, side_limit, Bounded}
use Rattle.exports.specs.Slices.{tier_places, front, row_of, owing_of, month_of}
use Rattle.exports.specs.Answers.{notice_of}
use Rattle.exports.specs.Orders.{TiersSound, Sound, GroupsSound, all_of, owing_in_order, groups_in_order, in_order, received_in_order, late_money_in_order}
use Rattle.exports.proofs.SliceLaws.{front_sum, flat_sum}
use Rattle.exports.proofs.EachLaws.{both_true}

-- the first of several tests that are all passed, and the others
all_first : (t : Bool) (l : List Bool) → all_of (t ∷ l) ≡ true → (t ≡ true) × (all_of l ≡ true)
unfolding all_of
all_first t l h = both_true t (all_of l) h

-- the last of several tests
pub last_test : (t : Bool) → t ≡ cond t true false
last_test true = refl
last_test false = refl

pub record Fitting (P : Type 0) (room : ℕ) : Type 0 where
  pub sound : P
  pub roomy : places ≤ room

pub tiers_fitting : (n : ℕ) (to : List ℕ) (room : ℕ) → owing_in_order n to room ≡ true → Fitting (TiersSound n to) room
unfolding owing_in_order
tiers_fitting n to room h =
    let a = all_first _ _ h in
    let b = all_first _ _ (all_first _ _ a.1).1 in
    let d = all_first _ _ b.1 in
    record {
      sound = record { few = leb-true _ _ b.0; long = leb-true _ _ d.0; total = leb-true _ _ (all_first _ _ d.1).0 };
      roomy = leb-true _ _ a.0;
    }

-- the same of a test's answer, as calls give it
pub owing_few : (n : ℕ) (to : List ℕ) (room : ℕ) {b : Bool} → b ≡ owing_in_order n to room → b ≡ true → n ≤ places
owing_few n to room e h = (tiers_fitting n to room (sym e ∙ h)).sound.few

pub owing_long : (n : ℕ) (to : List ℕ) (room : ℕ) {b : Bool} → b ≡ owing_in_order n to room → b ≡ true → tier_places ≤ length to
owing_long n to room e h = (tiers_fitting n to room (sym e ∙ h)).sound.long

pub owing_roomy : (n : ℕ) (to : List ℕ) (room : ℕ) {b : Bool} → b ≡ owing_in_order n to room → b ≡ true → places ≤ room
owing_roomy n to room e h = (tiers_fitting n to room (sym e ∙ h)).roomy

groups_sound : (n : ℕ) (groups reserves : List ℕ) → groups_in_order n groups reserves ≡ true → GroupsSound n groups reserves
unfolding groups_in_order
groups_sound n groups reserves h =
    let a = all_first _ _ h in
    let b = all_first _ _ a.1 in
    record { groups_long = leb-true _ _ a.0; reserves_long = leb-true _ _ b.0; grouped = (all_first _ _ b.1).0 }

pub fitting : (n : ℕ) (by to groups reserves : List ℕ) (room : ℕ) → in_order n by to groups reserves room ≡ true
    → Fitting (Sound n by to × GroupsSound n groups reserves) room
unfolding in_order
fitting n by to groups reserves room h =
    let a = all_first _ _ h in
    let b = all_first _ _ a.1 in
    let d = all_first _ _ b.1 in
    let t = tiers_fitting n to room a.0 in
    let e : sum (row_of by) n ≡ sum (owing_of to) n = eqb-true _ _ d.0 in
    record {
      sound = (record { to_side = t.sound; long = leb-true _ _ b.0; total = omega (arith, e, t.sound.total) }, groups_sound n groups reserves (all_first _ _ d.1).0);
      roomy = t.roomy;
    }

-- there is room where the tests are passed, as calls give it
pub order_roomy : (n : ℕ) (by to groups reserves : List ℕ) (room : ℕ) {b : Bool} → b ≡ in_order n by to groups reserves room → b ≡ true → places ≤ room
order_roomy n by to groups reserves room e h = (fitting n by to groups reserves room (sym e ∙ h)).roomy

pub received_fitting : (n : ℕ) (by to groups reserves received : List ℕ) (room : ℕ)
    → received_in_order n by to groups reserves received room ≡ true
    → Fitting (Sound n by to × GroupsSound n groups reserves) (min (length received) room)
unfolding received_in_order
received_fitting n by to groups reserves received room h = fitting n by to groups reserves _ (all_first _ _ h).0

-- the same where a test that asks for it is passed
pub passed_fitting : {n : ℕ} {by to groups reserves : List ℕ} (received : List ℕ) (room : ℕ) {passed : Bool}
    → passed ≡ received_in_order n by to groups reserves received room → not passed ≡ false
    → Fitting (Sound n by to × GroupsSound n groups reserves) (min (length received) room)
passed_fitting received room q h = received_fitting _ _ _ _ _ _ _ (sym q ∙ not-false _ h)

-- a value that is handed on where the last test is passed
pub then_tested : {A : Type 0} (t : Bool) (x : A) → then_some t x ≡ cond (cond t true false) (Some x) None
then_tested true x = refl
then_tested false x = refl

-- what is known where a payable row is handed on: it is the notice's, and the arguments are in order
pub record Settling (n : ℕ) (by to groups reserves received : List ℕ) (room : ℕ) (row : List ℕ) : Type 0 where
  pub passed : received_in_order n by to groups reserves received room ≡ true
  pub is : row ≡ (notice_of n by to groups reserves).payable
  pub sound : Sound n by to
  pub long : places ≤ length received
  pub roomy : places ≤ room

some_passed : {A : Type 0} {t : Bool} {x y : A} → Some x ≡ cond t (Some y) None → (t ≡ true) × (x ≡ y)
some_passed {t = true} e = (refl, cc)
some_passed {t = false} e = absurd cc

pub settling : {n : ℕ} {by to groups reserves received : List ℕ} {room : ℕ} {row : List ℕ}
    → Some row ≡ cond (received_in_order n by to groups reserves received room) (Some (notice_of n by to groups reserves).payable) None
    → Settling n by to groups reserves received room row
settling {n} {by} {to} {groups} {reserves} {received} {room} e =
    let h = some_passed e in
    let k = received_fitting n by to groups reserves received room h.0 in
    record { passed = h.0; is = h.1; sound = k.sound.0; long = omega (arith, k.roomy); roomy = omega (arith, k.roomy) }

pub late_fitting : (n : ℕ) (to claims paid : List ℕ) (money room : ℕ) → late_money_in_order n to claims paid money room ≡ true
    → Fitting (TiersSound n to) (min (length claims) (min (length paid) room))
unfolding late_money_in_order
late_fitting n to claims paid money room h = tiers_fitting n to _ (all_first _ _ h).0

pub bounded : {n : ℕ} {by to : List ℕ} → Sound n by to → Bounded (month_of n by to)
bounded s = record { few = s.to_side.few; by_total = s.total; to_total = s.to_side.total }

-- a sum that is cut off a cent above a limit is held to the limit, and to another sum within it, as the whole sum is
cut_leb : (x limit : ℕ) → leb (min x (limit + 1)) limit ≡ leb x limit
cut_leb x limit =
    ⊎_elim (λ (h : x ≤ limit). le-leb (min x (limit + 1)) limit (omega arith) ∙ sym (le-leb x limit h))
    (λ (h : limit < x). lt-leb (min x (limit + 1)) limit (omega arith) ∙ sym (lt-leb x limit h))
    (le_or_lt x limit)

cut_eqb : (x y limit : ℕ) → y ≤ limit → eqb (min x (limit + 1)) (min y (limit + 1)) ≡ eqb x y
cut_eqb x y limit l =
    ⊎_elim (λ (h : x ≡ y). eq-eqb (min x (limit + 1)) (min y (limit + 1)) (omega arith) ∙ sym (eq-eqb x y h))
    (λ (h : x ≡ y → ⊥). ne_eqb (min x (limit + 1)) (min y (limit + 1)) (λ e. h (omega arith)) ∙ sym (ne_eqb x y h))
    (eq_or_ne x y)

-- what is owing over all tiers is the sum of the flat cells
owing_sum : (n : ℕ) (to : List ℕ) → n ≤ places → sum (at to) (tiers * n) ≡ sum (owing_of to) n
owing_sum n to f = sym (front_sum tier_places to (tiers * n) (omega arith)) ∙ flat_sum (front tier_places to) n

-- the last test of the tiers, and that of the two sides' totals
pub tiers_tested : (n : ℕ) (to : List ℕ) (room : ℕ) → places ≤ room → 1 ≤ n → n ≤ places → tier_places ≤ length to
    → leb (min (sum (at to) (tiers * n)) (side_limit + 1)) side_limit ≡ owing_in_order n to room
unfolding all_of owing_in_order
tiers_tested n to room r s f l =
    simp (le-leb places room r, le-leb 1 n s, le-leb n places f, le-leb tier_places (length to) l)
    (cut_leb (sum (at to) (tiers * n)) side_limit ∙ ap (λ s. leb s side_limit) (owing_sum n to f) ∙ last_test _)

pub totals_tested : (n : ℕ) (by to : List ℕ) → TiersSound n to
    → eqb (min (sum (at by) n) (side_limit + 1)) (min (sum (at to) (tiers * n)) (side_limit + 1)) ≡ eqb (sum (row_of by) n) (sum (owing_of to) n)
totals_tested n by to s =
    rw (owing_sum n to s.few, ← front_sum places by n s.few) (cut_eqb _ _ side_limit s.total)
