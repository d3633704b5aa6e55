-- The sources of new glyphs, which keep their numbers or get new ones (Technical Note 5176, section 13, "Charsets").
use Rattle.std.specs.Prelude.{◌≡◌, ℕ, ◌+◌, ◌<◌, List, Option, Some, None, Bool, true, false, IsSome, Vec, length, slice_index_or}
use Rattle.std.specs.declared.alloc.Global.{Global}
use Rattle.postscript_base.specs.Index.Lent.{items_of}
use Rattle.postscript_view.specs.Naming.{Names}
use Rattle.postscript_view.specs.declared.char_set.CharSetView.{CharSetView}
use Rattle.postscript_view.specs.declared.font.FontView.{FontView}
use Rattle.postscript_write.specs.Glyphs.{Sources}
use Rattle.postscript_write.specs.Numbered.{AreStringsFor, IsCharSetFor}
use Rattle.postscript_write.specs.declared.layout.Glyphs.{Glyphs}

-- SIDs or CIDs, if they are listed
abbrev pub Identifiers : Type 0
Identifiers = Option (Vec ℕ Global)

-- the first glyph, if there is one, is made of `.notdef`
abbrev pub BeginsSo : Sources → Type 0
BeginsSo sources = 0 < length sources → slice_index_or sources 0 None ≡ Some 0

-- as many glyphs as before, each made of the old glyph with the same number, or empty
pub record KeepNumbers (sources : Sources) (glyphs : ℕ) : Type 0 where
  pub many : length sources ≡ glyphs
  pub first : BeginsSo sources
  pub each : (i glyph : ℕ) → i < length sources → slice_index_or sources i None ≡ Some glyph → glyph ≡ i

-- glyphs that get new numbers, none of which is empty
pub record AreRenewed (sources : Sources) : Type 0 where
  pub some : 0 < length sources
  pub first : BeginsSo sources
  pub each : (i : ℕ) → i < length sources → IsSome (slice_index_or sources i None)

abbrev pub AreSources : (kept : Bool) → (glyphs : ℕ) → Sources → Type 0
AreSources true glyphs sources = KeepNumbers sources glyphs
AreSources false glyphs sources = AreRenewed sources

-- a new glyph is made of an old one, which has this SID or CID
abbrev pub IsNamedSource : CharSetView → Option ℕ → (identifier : ℕ) → Type 0
IsNamedSource set source identifier = (glyph : ℕ) × (source ≡ Some glyph) × Names set glyph identifier

-- The first glyph is made of a glyph with the SID 0, `.notdef`. The others are made of glyphs with these SIDs or CIDs, of two bytes each.
pub record AreIdentified (set : CharSetView) (sources : Sources) (identifiers : List ℕ) : Type 0 where
  pub many : length sources ≡ 1 + length identifiers
  pub first : IsNamedSource set (slice_index_or sources 0 None) 0
  pub each : (i : ℕ) → i < length identifiers → IsNamedSource set (slice_index_or sources (i + 1) None) (slice_index_or identifiers i 0)
  pub low : (i : ℕ) → i < length identifiers → slice_index_or identifiers i 0 < 65536

-- SIDs or CIDs are listed if glyphs get new numbers.
abbrev pub AreSourcesFor : (kept : Bool) → CharSetView → (glyphs : ℕ) → Sources → Identifiers → Type 0
AreSourcesFor true set glyphs sources None = KeepNumbers sources glyphs
AreSourcesFor false set glyphs sources (Some identifiers) = AreIdentified set sources identifiers.items
AreSourcesFor true set glyphs sources (Some identifiers) = ⊥
AreSourcesFor false set glyphs sources None = ⊥

-- The strings and the charset of the new font are the ones of these glyphs.
pub record AreNamesFor (kept : Bool) (font : FontView) (set : CharSetView) (sources : Sources) (identifiers : Identifiers)
    (glyphs : Glyphs) : Type 0 where
  pub sources_are : AreSourcesFor kept set (length (items_of font.char_strings)) sources identifiers
  pub strings : AreStringsFor font identifiers glyphs.strings
  pub char_set : IsCharSetFor font identifiers glyphs
