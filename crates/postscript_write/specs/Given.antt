-- The data of the new glyphs apart from their charstrings: each text ends where its part ends (Technical Note 5176, sections 12, 13 and
-- 19).
use Rattle.std.specs.Prelude.{◌≡◌, ℕ, ◌<◌, length, Option, Some, None, Bool, true, false, Vec}
use Rattle.std.specs.declared.alloc.Global.{Global}
use Rattle.postscript_base.specs.Compact1.Dictionary.{Dictionary}
use Rattle.postscript_base.specs.declared.compact1.operator.Operator.{Operator}
use Rattle.postscript_base.specs.declared.compact1.operator.Operator.TheVariants as operators
use Rattle.postscript_view.specs.Select.{offset_of}
use Rattle.postscript_view.specs.declared.font.FontView.{FontView}
use Rattle.postscript_write.specs.Whole.{CharSetEnds, EncodingEnds, SelectEnds}
use Rattle.postscript_write.specs.declared.layout.Glyphs.{Glyphs}

-- the operand of an operator is the number of a predefined charset or encoding: it is below the least offset of a custom one
abbrev pub NamesPredefined : Dictionary → Operator → (least : ℕ) → Type 0
NamesPredefined map operator least = (offset : ℕ) × (offset_of map operator ≡ Some offset) × (offset < least)

-- The encoding is a text, or it is the standard one instead of a custom one, or it is predefined in the DICT.
abbrev pub GivesEncoding : Dictionary → Option (Vec ℕ Global) → (standard : Bool) → Type 0
GivesEncoding map (Some text) false = EncodingEnds text.items 0 (length text.items)
GivesEncoding map (Some text) true = ⊥
GivesEncoding map None true = Unit {0}
GivesEncoding map None false = NamesPredefined map operators.Encoding 2

-- The charset, of so many glyphs, is a text, or predefined in the DICT.
abbrev pub GivesCharSet : Dictionary → (glyphs : ℕ) → Option (Vec ℕ Global) → Type 0
GivesCharSet map glyphs (Some text) = CharSetEnds text.items glyphs 0 (length text.items)
GivesCharSet map glyphs None = NamesPredefined map operators.CharSet 3

-- FDSelect, if there is one, is a text for this number of glyphs.
abbrev pub GivesSelect : (glyphs : ℕ) → Option (Vec ℕ Global) → Type 0
GivesSelect glyphs (Some text) = SelectEnds text.items glyphs 0 (length text.items)
GivesSelect glyphs None = Unit {0}

-- the data of the new glyphs have no bytes outside their parts
pub record AreGiven (font : FontView) (glyphs : Glyphs) (many : ℕ) : Type 0 where
  pub encoding : GivesEncoding font.dictionary glyphs.encoding glyphs.standard
  pub select : GivesSelect many glyphs.select
  pub char_set : GivesCharSet font.dictionary many glyphs.char_set
