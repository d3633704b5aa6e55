-- The ligature carets of the GDEF table (OpenType 1.9, "GDEF - Glyph Definition Table", "Ligature Caret List"; ISO/IEC 14496-22, 6.3.2): positions of
-- the text cursor within a ligature.
use Rattle.std.specs.Prelude.{ℕ, ◌+◌, ◌*◌, ◌==◌, List, [], ◌∷◌, Option, None, Some, nat_lt, if◌then◌else◌}
use Rattle.postscript_layout.specs.Numbers.{word}
use Rattle.postscript_layout_write.specs.First.{all_below}
use Rattle.postscript_layout_write.specs.Ranges.{coverage_index}

-- a caret: a coordinate, as a number of two bytes without its sign, or the index of a contour point
pub data Caret : Type 0 where
  coordinate : (number : ℕ) → Caret
  point : (index : ℕ) → Caret

-- the caret of a CaretValue table: a coordinate (format 1, or format 3, which also has a device table), or a contour point (format 2); a table of another
-- format has none
abbrev pub caret_at : List ℕ → (value : ℕ) → List Caret
caret_at gdef value =
    if word gdef value == 1 then coordinate (word gdef (value + 2)) ∷ []
    else (if word gdef value == 3 then coordinate (word gdef (value + 2)) ∷ []
    else (if word gdef value == 2 then point (word gdef (value + 2)) ∷ [] else []))

-- the carets of a LigGlyph table: a count, and an offset for each, which is counted from the table
abbrev pub carets_in : List ℕ → (ligature : ℕ) → List Caret
carets_in gdef ligature = all_below (λ i. caret_at gdef (ligature + word gdef (ligature + 2 + i * 2))) (word gdef ligature)

-- the carets of the glyph with a coverage index in a caret list
abbrev pub carets_covered : List ℕ → (list : ℕ) → Option ℕ → List Caret
carets_covered gdef list None = []
carets_covered gdef list (Some i) = if nat_lt i (word gdef (list + 2)) then carets_in gdef (list + word gdef (list + 4 + i * 2)) else []

-- the carets of a glyph; the offset 0 says that there is no caret list
abbrev pub carets_of : List ℕ → (glyph : ℕ) → List Caret
carets_of gdef glyph =
    if word gdef 8 == 0 then [] else carets_covered gdef (word gdef 8) (coverage_index gdef (word gdef 8 + word gdef (word gdef 8)) glyph)
