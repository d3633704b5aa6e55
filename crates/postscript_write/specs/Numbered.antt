-- The data of the new glyphs apart from their charstrings (Technical Note 5176, sections 10, 12, 13, 18 and 19).
use Rattle.std.specs.Prelude.{◌≡◌, ℕ, ◌+◌, ◌^◌, ◌<◌, ◌≤◌, List, [], false, Option, Some, None, Vec, MatchBool, length, option_map}
use Rattle.std.specs.Option.{is_some}
use Rattle.std.specs.declared.alloc.Global.{Global}
use Rattle.postscript_base.specs.Compact1.Defaults.{look}
use Rattle.postscript_base.specs.Index.Lent.{items_of}
use Rattle.postscript_base.specs.declared.compact1.operator.Operator.TheVariants.{ROS}
use Rattle.postscript_type2.specs.Program.Routines.{texts}
use Rattle.postscript_view.specs.declared.font.FontView.{FontView}
use Rattle.postscript_write.specs.LaidOut.{SelectsExactly}
use Rattle.postscript_write.specs.NewStrings.{AreNamed, AreRenumbered}
use Rattle.postscript_write.specs.Own.{IsOwnCharSet, IsOwnEncoding}
use Rattle.postscript_write.specs.Renumbered.{new_identifiers}
use Rattle.postscript_write.specs.Selected.{AreLow, SelectsAll}
use Rattle.postscript_write.specs.SetTexts.{NamesAll}
use Rattle.postscript_write.specs.declared.layout.Glyphs.{Glyphs}
use Rattle.postscript_write.specs.declared.strings.Strings.{Strings}

-- All strings of the font are written, and keep their SIDs.
pub record AreAll (font : FontView) (strings : Strings) : Type 0 where
  pub texts_are : texts strings.texts.items ≡ items_of font.strings
  pub stay : strings.renumbered.items ≡ []

-- The strings of operators of the Top DICT and of these SIDs are written, with new SIDs.
pub record AreCut (font : FontView) (identifiers : List ℕ) (strings : Strings) : Type 0 where
  pub renumbered : AreRenumbered (items_of font.strings) (texts strings.texts.items) strings.renumbered.items
  pub named : AreNamed font.dictionary identifiers strings.renumbered.items

-- The strings are unchanged if glyphs keep their numbers, so that no SIDs are listed, and in a CID-keyed font, whose glyphs have no names
-- (section 18).
abbrev pub AreStringsFor : FontView → Option (Vec ℕ Global) → Strings → Type 0
AreStringsFor font None strings = AreAll font strings
AreStringsFor font (Some identifiers) strings =
    MatchBool (is_some (look font.dictionary ROS)) (AreAll font strings) (AreCut font identifiers.items strings)

-- the bytes, if there are any
abbrev pub items_if : Option (Vec ℕ Global) → Option (List ℕ)
items_if bytes = option_map (λ bytes. bytes.items) bytes

-- The text is a charset of the new SIDs of these.
abbrev pub IsSetFor : Strings → (identifiers : List ℕ) → (text : Option (List ℕ)) → Type 0
IsSetFor strings identifiers text =
    (some : List ℕ) × (text ≡ Some some) × NamesAll some (new_identifiers strings identifiers)

-- The charset is unchanged if glyphs keep their numbers. Otherwise it has the new SIDs.
abbrev pub IsCharSetFor : FontView → Option (Vec ℕ Global) → Glyphs → Type 0
IsCharSetFor font None glyphs = IsOwnCharSet font.bytes.now font.dictionary (length (items_of font.char_strings)) (items_if glyphs.char_set)
IsCharSetFor font (Some identifiers) glyphs = IsSetFor glyphs.strings identifiers.items (items_if glyphs.char_set)

-- The encoding is unchanged if glyphs keep their numbers. Otherwise the standard encoding replaces a custom one.
abbrev pub IsEncodingFor : FontView → Option (Vec ℕ Global) → Glyphs → Type 0
IsEncodingFor font None glyphs = IsOwnEncoding font.bytes.now font.dictionary (items_if glyphs.encoding) × (glyphs.standard ≡ false)
IsEncodingFor font (Some identifiers) glyphs = (glyphs.encoding ≡ None)
    × ((own : Option (List ℕ)) × IsOwnEncoding font.bytes.now font.dictionary own × (glyphs.standard ≡ is_some own))

-- an FDSelect that gives the glyphs these Font DICTs
pub record IsSelectText (numbers text : List ℕ) : Type 0 where
  pub few : length text ≤ length numbers + 1
  pub selects : AreLow numbers → length numbers < 2 ^ 16 → SelectsAll text numbers

-- the FDSelect of a CID-keyed font
abbrev pub IsSelectFor : (numbers : List ℕ) → Option (Vec ℕ Global) → Type 0
IsSelectFor numbers None = Unit {0}
IsSelectFor numbers (Some select) = IsSelectText numbers select.items

-- The data of the new glyphs, if their Font DICTs have these numbers. SIDs or CIDs are listed if glyphs get new numbers.
pub record AreGlyphsFor (font : FontView) (numbers : List ℕ) (identifiers : Option (Vec ℕ Global)) (glyphs : Glyphs) : Type 0 where
  pub exactly : SelectsExactly font glyphs
  pub select : IsSelectFor numbers glyphs.select
  pub strings : AreStringsFor font identifiers glyphs.strings
  pub char_set : IsCharSetFor font identifiers glyphs
  pub encoding : IsEncodingFor font identifiers glyphs

-- fewer SIDs than two bytes can count
abbrev pub AreFew : Option (Vec ℕ Global) → Type 0
AreFew None = Unit {0}
AreFew (Some identifiers) = length identifiers.items < 2 ^ 16
