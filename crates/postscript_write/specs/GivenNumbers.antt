-- The data of the new glyphs apart from their charstrings, as a reader gets them (Technical Note 5176, sections 12 and 19).
use Rattle.std.specs.Prelude.{◌≡◌, ℕ, ◌+◌, ◌<◌, ◌≤◌, List, length, slice_index_or, Option, Some, None, Bool, true, false, Vec}
use Rattle.std.specs.declared.alloc.Global.{Global}
use Rattle.postscript_base.specs.Compact1.Dictionary.{Dictionary}
use Rattle.postscript_base.specs.declared.compact1.operator.Operator.TheVariants as operators
use Rattle.postscript_view.specs.Select.{Selects, offset_of}
use Rattle.postscript_view.specs.declared.font.FontView.{FontView}
use Rattle.postscript_write.specs.Given.{NamesPredefined}
use Rattle.postscript_write.specs.Texts.{TextStands}
use Rattle.postscript_write.specs.Whole.{EncodingEnds}
use Rattle.postscript_write.specs.declared.layout.Glyphs.{Glyphs}

-- FDSelect, if there is one, gives glyph i the number at index i, at any offset.
abbrev pub GivesNumbers : (numbers : List ℕ) → Option (Vec ℕ Global) → Type 0
GivesNumbers numbers None = Unit {0}
GivesNumbers numbers (Some text) = (bytes : List ℕ) (place i : ℕ) → TextStands text.items bytes place → i < length numbers →
    Selects bytes place (length numbers) i (slice_index_or numbers i 0)

-- The numbers of the parts of the new glyphs: the font has such parts, and FDSelect gives these numbers.
pub record AreTheirNumbers (font : FontView) (glyphs : Glyphs) (many : ℕ) (numbers : List ℕ) : Type 0 where
  pub counted : length numbers ≡ many
  pub below : (i : ℕ) → i < length numbers → slice_index_or numbers i 0 < length font.parts.items
  pub gives : GivesNumbers numbers glyphs.select

-- a text is the custom encoding of the font, from its offset to its end
pub record IsOwnText (bytes : List ℕ) (map : Dictionary) (text : List ℕ) : Type 0 where
  pub place : ℕ
  pub named : offset_of map operators.Encoding ≡ Some place
  pub past : 2 ≤ place
  pub stands : TextStands text bytes place
  pub ends : EncodingEnds bytes place (place + length text)

-- The encoding is unchanged: its text is the custom encoding, or it is predefined.
abbrev pub StaysEncoded : List ℕ → Dictionary → Option (Vec ℕ Global) → (standard : Bool) → Type 0
StaysEncoded bytes map (Some text) false = IsOwnText bytes map text.items
StaysEncoded bytes map (Some text) true = ⊥
StaysEncoded bytes map None true = ⊥
StaysEncoded bytes map None false = NamesPredefined map operators.Encoding 2

-- The encoding is replaced: the standard one replaces a custom one, and a predefined one is unchanged.
abbrev pub GivesWayTo : Dictionary → Option (Vec ℕ Global) → (standard : Bool) → Type 0
GivesWayTo map (Some text) standard = ⊥
GivesWayTo map None true = (offset : ℕ) × (offset_of map operators.Encoding ≡ Some offset) × (2 ≤ offset)
GivesWayTo map None false = NamesPredefined map operators.Encoding 2
