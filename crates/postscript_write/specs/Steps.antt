-- The meaning of the errors of single steps of writing.
use Rattle.std.specs.Prelude.{◌≡◌, ◌≢◌, ℕ, List, Option, Some}
use Rattle.postscript_drawing.specs.Components.{HasNoCharSet, glyphs_of}
use Rattle.postscript_base.specs.declared.error.Error.TheVariants.{Memory}
use Rattle.postscript_write.specs.Glyphs.{Sources}
use Rattle.postscript_view.specs.Contents.{View}
use Rattle.postscript_view.specs.declared.font.FontView.{FontView}
use Rattle.postscript_write.specs.Refusals.{HasOtherFonts, IsFirstPast, IsRefusedAs}
use Rattle.postscript_write.specs.RefusedGlyphs.{IsFirstRefused, IsPartless, IsRunRefused}
use Rattle.postscript_write.specs.declared.error.Error.{Error}
use Rattle.postscript_write.specs.declared.error.Error.TheVariants.{Refused, Glyph, SeveralFonts, MissingGlyph, MissingPart}

-- opening the only font of a font set
abbrev pub IsNotOpened : List ℕ → Error → Type 0
IsNotOpened bytes SeveralFonts = HasOtherFonts bytes
IsNotOpened bytes (Refused cause) = cause ≢ Memory → IsRefusedAs bytes cause
IsNotOpened bytes _ = ⊥

-- finding the glyphs that are reached from the named ones
abbrev pub IsNotClosed : FontView → (named : List ℕ) → Error → Type 0
IsNotClosed font named (MissingGlyph glyph) = IsFirstPast named (glyphs_of font) glyph
IsNotClosed font named (Refused cause) = cause ≢ Memory → HasNoCharSet cause font
IsNotClosed font named _ = ⊥

-- choosing the named glyphs
abbrev pub IsNotChosen : (named : List ℕ) → (glyphs : ℕ) → Error → Type 0
IsNotChosen named glyphs (MissingGlyph glyph) = IsFirstPast named glyphs glyph
IsNotChosen named glyphs (Refused cause) = cause ≡ Memory
IsNotChosen named glyphs _ = ⊥

-- making a charstring: the run of the old glyph fails
abbrev pub RefusedFor : View → Option ℕ → (number : ℕ) → Error → Type 0
RefusedFor font source number (Glyph glyph cause) = (source ≡ Some glyph) × IsRunRefused font glyph number cause
RefusedFor font source number (Refused cause) = cause ≡ Memory
RefusedFor font source number _ = ⊥

-- making all charstrings: this is the first glyph that fails
abbrev pub RefusedBy : View → Sources → (numbers : List ℕ) → Error → Type 0
RefusedBy font sources numbers (Glyph glyph cause) = IsFirstRefused font sources numbers glyph cause
RefusedBy font sources numbers (Refused cause) = cause ≡ Memory
RefusedBy font sources numbers _ = ⊥

-- the numbers of the parts: this is the first glyph that has no part
abbrev pub IsNotNumbered : List ℕ → View → Sources → Error → Type 0
IsNotNumbered bytes font sources (MissingPart glyph) = IsPartless bytes font sources glyph
IsNotNumbered bytes font sources (Refused cause) = cause ≡ Memory
IsNotNumbered bytes font sources _ = ⊥
