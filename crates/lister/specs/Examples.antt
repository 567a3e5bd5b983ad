-- The listing of month A, and of every way that an input can end (01, Reckoned examples, its end), with what is left unread.
use Rattle.std.specs.Prelude.{◌≡◌, ℕ, List, [], ◌∷◌, ◌++◌}
use Rattle.book.specs.rules.Limits.{market}
use Rattle.lister.specs.Lines.{header}
use Rattle.lister.specs.Listing.{listing}
use Rattle.lister.specs.LongerInputs.{unread}

-- n, and the twelve entries of month A: the first eight, up to the receipt of 300, and the others
abbrev pub first_eight : List ℕ
first_eight =
    1 ∷ 7 ∷ 0 ∷ 0 ∷ 0 ∷ 3 ∷ 7 ∷ 0 ∷ 0 ∷ 0 ∷ 0 ∷ 0 ∷ 0 ∷ 88 ∷ 2 ∷ 0 ∷ 0 ∷ 0 ∷ 0 ∷ 0 ∷ 0 ∷ 3 ∷ 7 ∷ 0 ∷ 0 ∷ 0 ∷ 2 ∷ 0 ∷ 0
    ∷ 144 ∷ 1 ∷ 0 ∷ 0 ∷ 0 ∷ 0 ∷ 0 ∷ 0 ∷ 3 ∷ 7 ∷ 0 ∷ 0 ∷ 0 ∷ 1 ∷ 1 ∷ 1 ∷ 100 ∷ 0 ∷ 0 ∷ 0 ∷ 0 ∷ 0 ∷ 0 ∷ 0 ∷ 3 ∷ 7 ∷ 0
    ∷ 0 ∷ 0 ∷ 1 ∷ 1 ∷ 5 ∷ 188 ∷ 2 ∷ 0 ∷ 0 ∷ 0 ∷ 0 ∷ 0 ∷ 0 ∷ 3 ∷ 7 ∷ 0 ∷ 0 ∷ 0 ∷ 2 ∷ 1 ∷ 5 ∷ 200 ∷ 0 ∷ 0 ∷ 0 ∷ 0 ∷ 0
    ∷ 0 ∷ 0 ∷ 4 ∷ 7 ∷ 0 ∷ 0 ∷ 0 ∷ 5 ∷ 7 ∷ 0 ∷ 0 ∷ 0 ∷ 0 ∷ 44 ∷ 1 ∷ 0 ∷ 0 ∷ 0 ∷ 0 ∷ 0 ∷ 0 ∷ []

abbrev pub last_four : List ℕ
last_four =
    5 ∷ 7 ∷ 0 ∷ 0 ∷ 0 ∷ 2 ∷ 78 ∷ 1 ∷ 0 ∷ 0 ∷ 0 ∷ 0 ∷ 0 ∷ 0 ∷ 6 ∷ 7 ∷ 0 ∷ 0 ∷ 0 ∷ 5 ∷ 7 ∷ 0 ∷ 0 ∷ 0 ∷ 0 ∷ 100 ∷ 0 ∷ 0
    ∷ 0 ∷ 0 ∷ 0 ∷ 0 ∷ 0 ∷ 5 ∷ 7 ∷ 0 ∷ 0 ∷ 0 ∷ 0 ∷ 200 ∷ 0 ∷ 0 ∷ 0 ∷ 0 ∷ 0 ∷ 0 ∷ 0 ∷ []

-- their lines: 1 0 0 0, ..
abbrev pub first_eight_lines : List ℕ
first_eight_lines =
    49 ∷ 32 ∷ 48 ∷ 32 ∷ 48 ∷ 32 ∷ 48 ∷ 10 ∷ 50 ∷ 32 ∷ 48 ∷ 32 ∷ 48 ∷ 32 ∷ 48 ∷ 10 ∷ 51 ∷ 32 ∷ 48 ∷ 32 ∷ 48 ∷ 32 ∷ 48
    ∷ 10 ∷ 52 ∷ 32 ∷ 48 ∷ 32 ∷ 48 ∷ 32 ∷ 48 ∷ 10 ∷ 53 ∷ 32 ∷ 48 ∷ 32 ∷ 48 ∷ 32 ∷ 48 ∷ 10 ∷ 54 ∷ 32 ∷ 48 ∷ 32 ∷ 48 ∷ 32
    ∷ 48 ∷ 10 ∷ 55 ∷ 32 ∷ 48 ∷ 32 ∷ 48 ∷ 32 ∷ 48 ∷ 10 ∷ 56 ∷ 32 ∷ 48 ∷ 32 ∷ 48 ∷ 32 ∷ 51 ∷ 48 ∷ 48 ∷ 10 ∷ []

-- .. and 9 0 0 634, 10 0 634 0, pay 1 567, pay 2 67, ..
abbrev pub last_four_lines : List ℕ
last_four_lines =
    57 ∷ 32 ∷ 48 ∷ 32 ∷ 48 ∷ 32 ∷ 54 ∷ 51 ∷ 52 ∷ 10 ∷ 49 ∷ 48 ∷ 32 ∷ 48 ∷ 32 ∷ 54 ∷ 51 ∷ 52 ∷ 32 ∷ 48 ∷ 10 ∷ 112 ∷ 97
    ∷ 121 ∷ 32 ∷ 49 ∷ 32 ∷ 53 ∷ 54 ∷ 55 ∷ 10 ∷ 112 ∷ 97 ∷ 121 ∷ 32 ∷ 50 ∷ 32 ∷ 54 ∷ 55 ∷ 10 ∷ 49 ∷ 49 ∷ 32 ∷ 48 ∷ 32
    ∷ 49 ∷ 48 ∷ 48 ∷ 32 ∷ 48 ∷ 10 ∷ 112 ∷ 97 ∷ 121 ∷ 32 ∷ 49 ∷ 32 ∷ 55 ∷ 56 ∷ 10 ∷ 112 ∷ 97 ∷ 121 ∷ 32 ∷ 50 ∷ 32 ∷ 50
    ∷ 50 ∷ 10 ∷ 49 ∷ 50 ∷ 32 ∷ 48 ∷ 32 ∷ 50 ∷ 48 ∷ 48 ∷ 32 ∷ 48 ∷ 10 ∷ 112 ∷ 97 ∷ 121 ∷ 32 ∷ 49 ∷ 32 ∷ 49 ∷ 53 ∷ 53
    ∷ 10 ∷ 112 ∷ 97 ∷ 121 ∷ 32 ∷ 50 ∷ 32 ∷ 52 ∷ 53 ∷ 10 ∷ []

-- the entry that opens period 7, and its line: 1 0 0 0
abbrev pub opening : List ℕ
opening = 1 ∷ 7 ∷ 0 ∷ 0 ∷ 0 ∷ []

abbrev pub opening_line : List ℕ
opening_line = 49 ∷ 32 ∷ 48 ∷ 32 ∷ 48 ∷ 32 ∷ 48 ∷ 10 ∷ []

-- an amount of tier 6 on side 1
abbrev pub tier_six : List ℕ
tier_six = 3 ∷ 7 ∷ 0 ∷ 0 ∷ 0 ∷ 1 ∷ 1 ∷ 6 ∷ 100 ∷ 0 ∷ 0 ∷ 0 ∷ 0 ∷ 0 ∷ 0 ∷ 0 ∷ []

pub record Examples : Type 0 where
  pub month_a_lem : listing market (3 ∷ first_eight ++ last_four) ≡ header ++ first_eight_lines ++ last_four_lines
  -- no byte; n alone; a whole entry
  pub empty : listing market [] ≡ header
  pub n_alone : listing market (3 ∷ []) ≡ header
  pub whole_entry : listing market (3 ∷ opening) ≡ header ++ opening_line
  -- a part of an entry, 2 1 0 0; an unknown kind, 2 2 0 0; a field outside its values, 2 3 0 0, and nothing after it
  pub short : listing market (3 ∷ opening ++ 4 ∷ 7 ∷ 0 ∷ 0 ∷ []) ≡ header ++ opening_line ++ 50 ∷ 32 ∷ 49 ∷ 32 ∷ 48 ∷ 32 ∷ 48 ∷ 10 ∷ []
  pub unknown : listing market (3 ∷ opening ++ 9 ∷ opening) ≡ header ++ opening_line ++ 50 ∷ 32 ∷ 50 ∷ 32 ∷ 48 ∷ 32 ∷ 48 ∷ 10 ∷ []
  pub outside : listing market (3 ∷ opening ++ tier_six ++ opening) ≡ header ++ opening_line ++ 50 ∷ 32 ∷ 51 ∷ 32 ∷ 48 ∷ 32 ∷ 48 ∷ 10 ∷ []
  -- the cents held stand in the line of bytes that cannot be read too: 9 2 0 300
  pub held : listing market (3 ∷ first_eight ++ 0 ∷ []) ≡ header ++ first_eight_lines ++ 57 ∷ 32 ∷ 50 ∷ 32 ∷ 48 ∷ 32 ∷ 51 ∷ 48 ∷ 48 ∷ 10 ∷ []
  -- n is refused: every entry is answered 4, and bytes that cannot be read are still 1, 2 or 3
  pub refused : listing market (65 ∷ opening ++ 1 ∷ []) ≡ header ++ (49 ∷ 32 ∷ 52 ∷ 32 ∷ 48 ∷ 32 ∷ 48 ∷ 10 ∷ []) ++ 50 ∷ 32 ∷ 49 ∷ 32 ∷ 48 ∷ 32 ∷ 48 ∷ 10 ∷ []
  -- what is left unread: nothing after n or a whole entry; a part of an entry; all from a field outside its values on
  pub none_unread : (unread [] ≡ []) × (unread (3 ∷ []) ≡ []) × (unread (3 ∷ opening ++ opening) ≡ [])
  pub part_unread : unread (3 ∷ opening ++ 4 ∷ 7 ∷ 0 ∷ 0 ∷ []) ≡ 4 ∷ 7 ∷ 0 ∷ 0 ∷ []
  pub outside_unread : unread (3 ∷ opening ++ tier_six ++ opening) ≡ tier_six ++ opening
