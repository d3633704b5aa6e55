-- A written font, as it is read (Technical Note 5176, "CFF Data Layout", sections 15, 16 and 19).
use Rattle.std.specs.Prelude.{◌≡◌, ◌↔◌, ℕ, List, All, IsSome, None, true}
use Rattle.postscript_base.specs.declared.compact1.operator.Operator.TheVariants.{FDArray}
use Rattle.postscript_type2.specs.Program.Routines.{texts}
use Rattle.postscript_view.specs.Cids.{IsCidKeyed}
use Rattle.postscript_view.specs.Contents.{View}
use Rattle.postscript_view.specs.Layout.{IsLaidOut, NamesIndex}
use Rattle.postscript_view.specs.Sizes.{IsKeyed}
use Rattle.postscript_view.specs.Value.{view_shown}
use Rattle.postscript_view.specs.declared.font.FontView.{FontView}
use Rattle.postscript_write.specs.Fonts.{Repeats}
use Rattle.postscript_write.specs.Once.{IsToldOnce, TellsRosFirst}
use Rattle.postscript_write.specs.declared.layout.Glyphs.{Glyphs}

-- exactly a CID-keyed font has an FDSelect (section 19)
abbrev pub SelectsExactly : FontView → Glyphs → Type 0
SelectsExactly font glyphs = IsSome glyphs.select ↔ IsKeyed font.dictionary

-- if the standard encoding replaces a custom one, there is no custom one
abbrev pub StandardIsAlone : Glyphs → Type 0
StandardIsAlone glyphs = glyphs.standard ≡ true → glyphs.encoding ≡ None

-- The new font is laid out: it has these strings and charstrings, no subroutines, and otherwise the content of the old font.
pub record IsLaidOutOf (font : FontView) (glyphs : Glyphs) (codes : List (List ℕ)) (out : List ℕ) : Type 0 where
  pub view : View
  pub laid : IsLaidOut out 0 view
  pub strings : view.tables.strings ≡ texts glyphs.strings.texts.items
  pub char_strings : view.char_strings ≡ codes
  pub repeats : Repeats (view_shown font) view
  pub dictionary_once : StandardIsAlone glyphs → IsToldOnce laid.tables.item
  pub ros : TellsRosFirst laid.tables.item
  pub dictionaries_once : IsCidKeyed view.tables.dictionary → (items : List (List ℕ)) →
      NamesIndex out view.tables.dictionary FDArray items → All IsToldOnce items
