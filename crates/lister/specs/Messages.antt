-- What is told on standard error where standard input or output failed, or the turns are used up. 01 has no line for it on
-- standard output.
use Rattle.std.specs.Prelude.{ℕ, List, [], ◌∷◌}
use Rattle.lister.specs.declared.ends.End.{End}
use Rattle.lister.specs.declared.ends.End.TheVariants.{Unread, Input, Turns, NotRead, NotWritten}

-- 'listing: its turns are used up'
abbrev pub turns_used_up : List ℕ
turns_used_up =
    108 ∷ 105 ∷ 115 ∷ 116 ∷ 105 ∷ 110 ∷ 103 ∷ 58 ∷ 32 ∷ 105 ∷ 116 ∷ 115 ∷ 32 ∷ 116 ∷ 117 ∷ 114 ∷ 110 ∷ 115
    ∷ 32 ∷ 97 ∷ 114 ∷ 101 ∷ 32 ∷ 117 ∷ 115 ∷ 101 ∷ 100 ∷ 32 ∷ 117 ∷ 112 ∷ 10 ∷ []

-- 'listing: standard input cannot be read'
abbrev pub input_failed : List ℕ
input_failed =
    108 ∷ 105 ∷ 115 ∷ 116 ∷ 105 ∷ 110 ∷ 103 ∷ 58 ∷ 32 ∷ 115 ∷ 116 ∷ 97 ∷ 110 ∷ 100 ∷ 97 ∷ 114 ∷ 100 ∷ 32 ∷ 105
    ∷ 110 ∷ 112 ∷ 117 ∷ 116 ∷ 32 ∷ 99 ∷ 97 ∷ 110 ∷ 110 ∷ 111 ∷ 116 ∷ 32 ∷ 98 ∷ 101 ∷ 32 ∷ 114 ∷ 101 ∷ 97 ∷ 100
    ∷ 10 ∷ []

-- 'listing: standard output cannot be written'
abbrev pub output_failed : List ℕ
output_failed =
    108 ∷ 105 ∷ 115 ∷ 116 ∷ 105 ∷ 110 ∷ 103 ∷ 58 ∷ 32 ∷ 115 ∷ 116 ∷ 97 ∷ 110 ∷ 100 ∷ 97 ∷ 114 ∷ 100 ∷ 32 ∷ 111
    ∷ 117 ∷ 116 ∷ 112 ∷ 117 ∷ 116 ∷ 32 ∷ 99 ∷ 97 ∷ 110 ∷ 110 ∷ 111 ∷ 116 ∷ 32 ∷ 98 ∷ 101 ∷ 32 ∷ 119 ∷ 114
    ∷ 105 ∷ 116 ∷ 116 ∷ 101 ∷ 110 ∷ 10 ∷ []

abbrev pub message : End → List ℕ
message Unread = []
message Input = []
message Turns = turns_used_up
message NotRead = input_failed
message NotWritten = output_failed
