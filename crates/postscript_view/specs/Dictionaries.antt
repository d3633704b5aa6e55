-- The dictionaries of a glyph (Technical Note 5176, section 9, "Top DICT Data", section 15, "Private DICT Data", and section 18, "CID-keyed
-- Fonts").
use Rattle.std.specs.Prelude.{◌≡◌, ℕ, List, Option, Some, None}
use Rattle.std.specs.FinMap.{get}
use Rattle.std.specs.Option.{option_or}
use Rattle.postscript_base.specs.Compact1.Decimal.{Decimal}
use Rattle.postscript_base.specs.Compact1.Defaults.{look}
use Rattle.postscript_base.specs.Compact1.Dictionary.{Dictionary}
use Rattle.postscript_base.specs.declared.compact1.operator.Operator.TheVariants as operators
use Rattle.postscript_view.specs.Glyphs.{HasGlyph}
use Rattle.postscript_view.specs.declared.font.FontView.{FontView}
use Rattle.postscript_view.specs.declared.private_dict.PrivateDict.{PrivateDict}

-- the Font DICT of a part of a CID-keyed font, and the Top DICT of any other font
abbrev pub own_or : Option Dictionary → Dictionary → Dictionary
own_or None font = font
own_or (Some own) font = own

-- a glyph has this Font DICT, or this Top DICT
abbrev pub HasFontDictionary : FontView → (glyph : ℕ) → Dictionary → Type 0
HasFontDictionary font glyph map = (code : List ℕ) × (part : PrivateDict) × HasGlyph font glyph code part
    × (map ≡ own_or part.font_dictionary font.dictionary)

-- the FontMatrix of a Font DICT; if it has none, the one in the Top DICT, or the default
abbrev pub matrix_of : (own font : Dictionary) → Option (List Decimal)
matrix_of own font = option_or (get own operators.FontMatrix) (look font operators.FontMatrix)

-- a glyph has this FontMatrix
abbrev pub HasMatrix : FontView → (glyph : ℕ) → List Decimal → Type 0
HasMatrix font glyph matrix = (own : Dictionary) × HasFontDictionary font glyph own × (matrix_of own font.dictionary ≡ Some matrix)

-- a glyph has this Private DICT
abbrev pub HasPrivate : FontView → (glyph : ℕ) → Dictionary → Type 0
HasPrivate font glyph map = (code : List ℕ) × (part : PrivateDict) × HasGlyph font glyph code part × (map ≡ part.dictionary)
