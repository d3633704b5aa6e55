-- The layout of a font (Technical Note 5176, "CFF Data Layout"). Offsets are relative to the start of the font.
use Rattle.std.specs.Prelude.{◌≡◌, ◌↔◌, ℕ, ◌+◌, List, map}
use Rattle.postscript_base.specs.Tape.Outcome.{Got}
use Rattle.postscript_base.specs.Compact1.Header.{header}
use Rattle.postscript_compact1.specs.Index.{Index}
use Rattle.postscript_compact1.specs.IndexAt.{IsIndex}
use Rattle.postscript_compact1.specs.ItemsLaw.{AreDictionaries}
use Rattle.postscript_compact1.specs.Texts.{text}
use Rattle.postscript_compact1.specs.declared.font_set.manner.Manner.{Manner}
use Rattle.postscript_compact1.specs.declared.font_set.manner.Manner.TheVariants.{Strict, Lenient}
use Rattle.postscript_compact1.specs.FontSet.Font.{Part, Tables, Font, columns, font_of}
use Rattle.postscript_compact1.specs.Computed.Order.{font, lenient_font}
use Rattle.postscript_compact1.specs.FontSet.Parts.{Stands, IsPlace, AreParts}

-- at the offset `place` there are names, Top DICTs, strings and global subroutines, one after the other
pub record AreTables (bytes : List ℕ) (place : ℕ) (tables : Tables) (next : ℕ) : Type 0 where
  pub names : Index
  pub names_next : ℕ
  pub dictionaries : Index
  pub dictionaries_next : ℕ
  pub strings_next : ℕ
  pub are_names : IsIndex bytes place names names_next
  pub texts : tables.names ≡ map text names.items
  pub are_items : IsIndex bytes names_next dictionaries dictionaries_next
  pub are_dictionaries : AreDictionaries dictionaries.items tables.dictionaries
  pub are_strings : IsIndex bytes dictionaries_next tables.strings strings_next
  pub are_subroutines : IsIndex bytes strings_next tables.subroutines next

-- A font is at the offset `start`, and `next` is the offset after it. The manner says whether parts may be missing.
pub record IsFontBy (manner : Manner) (bytes : List ℕ) (start : ℕ) (font : Font) (next : ℕ) : Type 0 where
  pub header_next : ℕ
  pub tables : Tables
  pub behind : ℕ
  pub parts : List Part
  pub header : Stands header bytes start font.header header_next
  pub place : IsPlace (start + font.header.header_size)
  pub are_tables : AreTables bytes (start + font.header.header_size) tables behind
  pub are_parts : AreParts manner bytes start tables.dictionaries parts behind next
  pub made_of : font ≡ font_of font.header tables (columns parts)

-- a font that lacks neither Private DICTs nor local subroutines
abbrev pub IsFont : List ℕ → ℕ → Font → ℕ → Type 0
IsFont bytes start font next = IsFontBy Strict bytes start font next

-- A font that may lack them. The offset after it is not specified.
abbrev pub IsLenientFont : List ℕ → ℕ → Font → Type 0
IsLenientFont bytes start font = (next : ℕ) × IsFontBy Lenient bytes start font next

-- A law: a reading returns a font exactly if it is there, and there is only one font at an offset.
pub record ReadsLayout : Type 0 where
  pub both_ways : (bytes : List ℕ) (start : ℕ) (f : Font) (next : ℕ) → (font bytes start ≡ Got f next) ↔ IsFont bytes start f next
  pub alone : (bytes : List ℕ) (start : ℕ) (f g : Font) (next other : ℕ) → IsFont bytes start f next → IsFont bytes start g other →
      (f ≡ g) × (next ≡ other)

-- A law: a lenient reading returns a font exactly if it is there and may lack these parts. There is only one such font at an offset. A font
-- that lacks neither is such a font.
pub record ReadsLeniently : Type 0 where
  pub both_ways : (bytes : List ℕ) (start : ℕ) (f : Font) → ((next : ℕ) × (lenient_font bytes start ≡ Got f next))
      ↔ IsLenientFont bytes start f
  pub alone : (bytes : List ℕ) (start : ℕ) (f g : Font) → IsLenientFont bytes start f → IsLenientFont bytes start g → f ≡ g
  pub wider : (bytes : List ℕ) (start : ℕ) (f : Font) (next : ℕ) → IsFont bytes start f next → IsLenientFont bytes start f
