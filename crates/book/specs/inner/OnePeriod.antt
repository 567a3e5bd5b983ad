-- What the functions of one period need of it, and how their answers read.
use Rattle.std.specs.Prelude.{ℕ, ◌+◌, ◌-◌, ◌*◌, ◌≤◌, ◌<◌, ◌^◌, ◌≡◌, Bool, true, false, cond, List, eqb, length, Result, Ok, Err}
use Rattle.exact.specs.Rows.{places, at, sum}
use Rattle.settlement.specs.Month.{tiers}
use Rattle.settlement.specs.Groups.{grouping_allowed}
use Rattle.settlement.specs.declared.groups.Grouping.{Grouping}
use Rattle.book.specs.Checks.{refusal}
use Rattle.book.specs.rules.Periods as period
use Rattle.book.specs.layouts.Allowed.{allowed}
use Rattle.book.specs.rules.Kinds.{is_open, is_purse, receipt_cents}
use Rattle.book.specs.rules.Refusals.{receipt_checks, period_checks}
use Rattle.book.specs.rules.Step.{payout_words}
use Rattle.book.specs.rules.Valid.{InBook}
use Rattle.book.specs.rules.Answers.{number_of}
use Rattle.book.specs.declared.answers.Refusal.{Refusal}
use Rattle.book.specs.declared.changes.Change.{Change}
use Rattle.book.specs.declared.effects.Effect as effects
use Rattle.book.specs.declared.entries.Entry.{Entry}
use Rattle.book.specs.declared.Period.{Period}

-- an amount has a side and on side 1 a tier, and the cells that it is added to have room for it
pub record Room (p : Period) (i side tier cents : ℕ) : Type 0 where
  pub member : i < places
  pub side_le : side ≤ 1
  pub tier_some : side ≡ 1 → 0 < tier
  pub tier_le : side ≡ 1 → tier ≤ tiers
  pub total : at p.totals side + cents < 2 ^ 64
  pub by : side ≡ 0 → at p.by i + cents < 2 ^ 64
  pub to : side ≡ 1 → at p.to (tiers * i + (tier - 1)) + cents < 2 ^ 64

-- the entry passed the checks of its period
pub record Passes (n : ℕ) (e : Entry) (p : Period) : Type 0 where
  pub barred : Bool
  pub passed : refusal (period_checks n barred e p) ≡ 0

-- a receipt of these cents from i passed them
pub record Received (n : ℕ) (p : Period) (i cents : ℕ) : Type 0 where
  pub barred : Bool
  pub passed : refusal (receipt_checks n barred p i cents) ≡ 0

-- what a function hands back of a change
abbrev pub change_of : Change → period.Change
change_of c = record { rounds = c.rounds; period = c.period; pays = c.pays }

-- what an entry makes of the period that it names, of the cents held and of the payout words, and the cents it pays
pub record Effect : Type 0 where
  pub answer : ℕ
  pub rounds : ℕ
  pub period : Period
  pub held : ℕ
  pub paid : ℕ
  pub words : List ℕ

-- an accepted entry pays what its period pays, out of what is held and its receipt; a refused one changes nothing
unfoldable pub effect : ℕ → Grouping → Entry → Bool → Period → ℕ → List ℕ → Effect
effect n grouping e barred p held words =
    cond (eqb (refusal (period_checks n barred e p)) 0)
    (record {
      answer = 0;
      rounds = (period.changed n grouping e p).rounds;
      period = (period.changed n grouping e p).period;
      held = held + receipt_cents e - sum (at (period.changed n grouping e p).pays) n;
      paid = sum (at (period.changed n grouping e p).pays) n;
      words = payout_words n (period.changed n grouping e p).pays words;
    })
    (record { answer = refusal (period_checks n barred e p); rounds = 0; period = p; held = held; paid = 0; words = words })

-- what is asked of the groups, of the period, of the cents held and of the payout words
pub record Affects (n : ℕ) (grouping : Grouping) (e : Entry) (p : Period) (held : ℕ) (words : List ℕ) : Type 0 where
  pub many : n ≤ places
  pub enough : n ≤ length words
  pub not_open : is_open e ≡ false
  pub not_purse : is_purse e ≡ false
  pub fields : allowed e ≡ true
  pub grouped : grouping_allowed n grouping ≡ true
  pub in_book : InBook n grouping p
  pub within : period.holds n p ≤ held
  pub fits : held + receipt_cents e < 2 ^ 64

-- 01's numbers and values of an effect on a period and on the cents held, with the payout words as it leaves them
abbrev pub effect_of : Period → ℕ → Result effects.Effect Refusal → List ℕ → Effect
effect_of p held (Ok r) words = record { answer = 0; rounds = r.rounds; period = r.period; held = r.held; paid = r.paid; words = words }
effect_of p held (Err why) words = record { answer = number_of (Err why); rounds = 0; period = p; held = held; paid = 0; words = words }
