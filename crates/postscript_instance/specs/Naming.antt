-- The names of a font and its glyphs (Technical Note 5176, sections 8, 10, 13 and 18).
use Rattle.std.specs.Prelude.{◌≡◌, ℕ, ◌<◌, List, Some, length, slice_get}
use Rattle.std.specs.Borrow.{Bor}
use Rattle.std.specs.Option.{MatchOption}
use Rattle.postscript_instance.specs.declared.naming.Naming.{Naming}
use Rattle.postscript_view.specs.CharSets.{IsCharSetOf}
use Rattle.postscript_view.specs.Cids.{IsCidKeyed}
use Rattle.postscript_view.specs.Naming.{Names}
use Rattle.postscript_view.specs.Contents.{View}
use Rattle.postscript_view.specs.Strings.{HasName}
use Rattle.postscript_view.specs.declared.char_set.CharSetView.{CharSetView}

-- the first `count` glyphs have these names by a charset, except glyph 0, which is `.notdef`
pub record AreNames (view : View) (set : CharSetView) (names : List (Bor (List ℕ))) (count : ℕ) : Type 0 where
  pub each : (glyph : ℕ) (name : Bor (List ℕ)) → 0 < glyph → glyph < count → slice_get names glyph ≡ Some name →
      HasName view set glyph name.now

-- the font is CID-keyed, and the CIDs of the first `count` glyphs are their numbers
pub record AreCids (view : View) (set : CharSetView) (count : ℕ) : Type 0 where
  pub keyed : IsCidKeyed view.tables.dictionary
  pub each : (glyph : ℕ) → glyph < count → Names set glyph glyph

-- the glyphs have the given names, or CIDs if there are none
abbrev pub AreCalled : Naming → View → CharSetView → Type 0
AreCalled naming view set =
    MatchOption naming.glyphs (AreCids view set (length view.char_strings)) (λ names. AreNames view set names.now (length names.now))

-- the font has the given name, and its glyphs have the given names or CIDs by its charset
pub record IsCalled (naming : Naming) (bytes : List ℕ) (view : View) : Type 0 where
  pub name : slice_get view.tables.names 0 ≡ Some naming.font.now
  pub set : CharSetView
  pub is : IsCharSetOf set bytes view.tables.dictionary (length view.char_strings)
  pub glyphs : AreCalled naming view set
