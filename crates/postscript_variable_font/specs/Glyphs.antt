-- The charstring of a glyph at a location of the design space (OpenType 1.9, "CFF2", "CharStrings INDEX", "Font DICT INDEX, Font DICTs and
-- FDSelect", "Local/Global Subrs INDEXes").
use Rattle.std.specs.Prelude.{◌≡◌, ℕ, Some, slice_get}
use Rattle.postscript_cff2.specs.Parts as parts
use Rattle.postscript_cff2.specs.Parts.{HasPart}
use Rattle.postscript_cff2.specs.Shown.{view_shown}
use Rattle.postscript_cff2.specs.declared.font.Font.{Font}
use Rattle.postscript_type2.specs.Program.Charstrings.{lists_of}
use Rattle.postscript_type2.specs.Program.Routines.{lent}
use Rattle.postscript_variable.specs.declared.charstring.Charstring.{Charstring}
use Rattle.postscript_variable_font.specs.declared.place.Place.{Place}

-- The charstring of a glyph at a location. It has the glyph's code, the global subroutines, the local subroutines and vsindex of the
-- glyph's part, and the scalars of the location.
pub record IsCharstringOf (font : Font) (glyph : ℕ) (place : Place) (charstring : Charstring) : Type 0 where
  pub part : parts.PrivateDict
  pub has : HasPart font.bytes.now (view_shown font) glyph part
  pub code : slice_get (view_shown font).char_strings glyph ≡ Some charstring.code.now
  pub subroutines : lists_of charstring.subroutines ≡ lent (view_shown font).global_subroutines part.subroutines
  pub tables : charstring.blends.tables.now ≡ place.tables.items
  pub index : charstring.blends.index ≡ part.index
