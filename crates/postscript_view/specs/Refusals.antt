-- The numbers of the errors that a call may return. Number 1 means that the input ends early, and 3 that memory runs out. Numbers 5 and 6
-- are for offsets, 7 to 9 for dictionaries, 11 for charsets and 12 for charstrings. Numbers 13 and 14 are for operands, 15 for offsets out
-- of range, and 16 for unsupported parts.
use Rattle.std.specs.Prelude.{ℕ, List, [], ◌∷◌}

-- for opening a font
abbrev pub font_refusals : List ℕ
font_refusals = 1 ∷ 3 ∷ 5 ∷ 7 ∷ 8 ∷ 9 ∷ 12 ∷ 13 ∷ 14 ∷ 15 ∷ []

-- for opening a Private DICT, with its subroutines
abbrev pub part_refusals : List ℕ
part_refusals = 1 ∷ 3 ∷ 5 ∷ 7 ∷ 8 ∷ 9 ∷ 13 ∷ 14 ∷ 15 ∷ []

-- for opening a charset
abbrev pub char_set_refusals : List ℕ
char_set_refusals = 1 ∷ 11 ∷ 13 ∷ 14 ∷ 15 ∷ []

-- for opening an encoding
abbrev pub encoding_refusals : List ℕ
encoding_refusals = 1 ∷ 13 ∷ 14 ∷ 15 ∷ 16 ∷ []
