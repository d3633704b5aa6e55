-- A law: the charstring of a glyph at a location has only one run.
use Rattle.std.specs.Prelude.{◌≡◌, ℕ}
use Rattle.postscript_cff2.specs.declared.font.Font.{Font}
use Rattle.postscript_variable.specs.Charstrings.{run_from}
use Rattle.postscript_variable.specs.declared.charstring.Charstring.{Charstring}
use Rattle.postscript_variable_font.specs.Glyphs.{IsCharstringOf}
use Rattle.postscript_variable_font.specs.declared.place.Place.{Place}

-- A law of the definitions: two charstrings of the same glyph at the same location have the same run.
abbrev pub HasOneRun : Type 0
HasOneRun = (font : Font) (glyph : ℕ) (place : Place) (a b : Charstring) →
    IsCharstringOf font glyph place a → IsCharstringOf font glyph place b → run_from a ≡ run_from b
