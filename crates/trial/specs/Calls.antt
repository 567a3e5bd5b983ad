-- How many bytes a call takes.
use Rattle.std.specs.Prelude.{ℕ, ◌+◌}
use Rattle.trial.specs.declared.calls.Call.{Call}
use Rattle.trial.specs.declared.calls.Call.TheVariants.{Make, MakeGrouped, MakeLimited, Apply, Read, Write}

abbrev pub call_length : Call → ℕ
call_length Make = 9
call_length MakeGrouped = 585
call_length MakeLimited = 601
call_length Apply = 34
call_length (Read count) = 11 + count
call_length Write = 34
