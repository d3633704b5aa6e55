-- Views of encodings (Technical Note 5176, section 12, "Encodings", and section 18, "CID-keyed Fonts").
use Rattle.std.specs.Prelude.{◌≡◌, ◌⊎◌, ℕ, zero, suc, ◌+◌, ◌-◌, ◌*◌, ◌/◌, ◌<◌, ◌≤◌, List, length, Some}
use Rattle.postscript_compact1.specs.Computed.Encodings.{identifier_of}
use Rattle.postscript_base.specs.Index.{number_at}
use Rattle.postscript_view.specs.Cids.{IsCidKeyed}
use Rattle.postscript_view.specs.Naming.{Names}
use Rattle.postscript_view.specs.Contents.{View}
use Rattle.postscript_view.specs.declared.char_set.CharSetView.{CharSetView}
use Rattle.postscript_view.specs.declared.encoding.Codes.{Codes}
use Rattle.postscript_view.specs.declared.encoding.Codes.TheVariants.{Predefined, Listed, Ranges}
use Rattle.postscript_view.specs.declared.encoding.EncodingView.{EncodingView}

-- Format 0: a byte for each glyph from glyph 1 is its code.
pub record IsInList (codes : List ℕ) (code glyph : ℕ) : Type 0 where
  pub behind : 0 < glyph
  pub there : glyph ≤ length codes
  pub code_is : number_at codes (glyph - 1) 1 ≡ code

-- Format 1: range r is its first code in one byte, and the number of codes after it in another.
abbrev pub first_code : List ℕ → (r : ℕ) → ℕ
first_code ranges r = number_at ranges (r * 2) 1

abbrev pub codes_left : List ℕ → (r : ℕ) → ℕ
codes_left ranges r = number_at ranges (r * 2 + 1) 1

-- the number of glyphs with codes in the ranges before range r
unfoldable pub coded : List ℕ → (r : ℕ) → ℕ
coded ranges zero = 0
coded ranges (suc r) = coded ranges r + (codes_left ranges r + 1)

-- The codes of a range belong to consecutive glyphs, and the first range begins with glyph 1.
pub record IsInCodeRanges (ranges : List ℕ) (code glyph : ℕ) : Type 0 where
  pub range : ℕ
  pub there : range < length ranges / 2
  pub from : first_code ranges range ≤ code
  pub to : code ≤ first_code ranges range + codes_left ranges range
  pub glyph_is : glyph + first_code ranges range ≡ 1 + coded ranges range + code

-- A supplement is a code in one byte, and in two bytes the SID of the name of a glyph that also has this code.
abbrev pub supplement_code : List ℕ → (s : ℕ) → ℕ
supplement_code supplements s = number_at supplements (s * 3) 1

abbrev pub supplement_name : List ℕ → (s : ℕ) → ℕ
supplement_name supplements s = number_at supplements (s * 3 + 1) 2

-- some supplement has the code
abbrev pub IsSupplemented : List ℕ → (code : ℕ) → Type 0
IsSupplemented supplements code = (s : ℕ) × (s < length supplements / 3) × (supplement_code supplements s ≡ code)

-- the first supplement with the code has this SID
pub record IsFirstSupplement (supplements : List ℕ) (code identifier : ℕ) : Type 0 where
  pub supplement : ℕ
  pub there : supplement < length supplements / 3
  pub has : supplement_code supplements supplement ≡ code
  pub named : identifier ≡ supplement_name supplements supplement
  pub none_before : (s : ℕ) → s < supplement → supplement_code supplements s ≡ code → ⊥

-- Without supplements: a predefined encoding gives the name of the glyph with a code, and a format gives the glyph.
abbrev pub GivesOwn : Codes → CharSetView → (code glyph : ℕ) → Type 0
GivesOwn (Predefined encoding) set code glyph = (identifier : ℕ) × (identifier_of encoding code ≡ Some identifier) × (0 < identifier)
    × Names set glyph identifier
GivesOwn (Listed codes) set code glyph = IsInList codes.now code glyph
GivesOwn (Ranges ranges) set code glyph = IsInCodeRanges ranges.now code glyph

-- An encoding, with a charset, gives a code to a glyph. If a supplement has the code, the first such supplement gives the glyph. Otherwise
-- the predefined encoding or the format does.
abbrev pub Gives : EncodingView → CharSetView → (code glyph : ℕ) → Type 0
Gives encoding set code glyph =
    ((identifier : ℕ) × IsFirstSupplement encoding.supplements.now code identifier × Names set glyph identifier)
    ⊎ ((IsSupplemented encoding.supplements.now code → ⊥) × GivesOwn encoding.codes set code glyph)

-- the first of a number of glyphs to which it gives a code
pub record IsFirstGiven (encoding : EncodingView) (set : CharSetView) (glyphs code glyph : ℕ) : Type 0 where
  pub there : glyph < glyphs
  pub gives : Gives encoding set code glyph
  pub none_before : (other : ℕ) → other < glyph → Gives encoding set code other → ⊥

-- the same without supplements
pub record IsFirstGivenOwn (codes : Codes) (set : CharSetView) (glyphs code glyph : ℕ) : Type 0 where
  pub there : glyph < glyphs
  pub gives : GivesOwn codes set code glyph
  pub none_before : (other : ℕ) → other < glyph → GivesOwn codes set code other → ⊥

-- A glyph of a font has a code: the encoding gives it to the glyph. A CID-keyed font has no encoding.
pub record HasCode (font : View) (encoding : EncodingView) (set : CharSetView) (code glyph : ℕ) : Type 0 where
  pub not_keyed : IsCidKeyed font.tables.dictionary → ⊥
  pub there : glyph < length font.char_strings
  pub gives : Gives encoding set code glyph

-- the first glyph that has a code
pub record IsFirstWithCode (font : View) (encoding : EncodingView) (set : CharSetView) (code glyph : ℕ) : Type 0 where
  pub has : HasCode font encoding set code glyph
  pub none_before : (other : ℕ) → other < glyph → HasCode font encoding set code other → ⊥
