-- The errors of writing. Running out of memory, `Refused Memory`, may be the error at any time.
use Rattle.std.specs.Prelude.{◌≡◌, ◌≢◌, ◌⊎◌, ℕ, ◌<◌, ◌≤◌, List, [], length, Some, None, slice_index_or}
use Rattle.postscript_base.specs.Tape.Outcome.{Got, RefusedAs}
use Rattle.postscript_base.specs.declared.error.Error as causes
use Rattle.postscript_base.specs.declared.error.Error.TheVariants.{Memory}
use Rattle.postscript_view.specs.Layout.{IsLaidOut}
use Rattle.postscript_view.specs.Order.{fonts, view}
use Rattle.postscript_view.specs.Contents.{View}
use Rattle.postscript_write.specs.Components.{AreClosed}
use Rattle.postscript_write.specs.Glyphs.{AreCodesOf, AreNumbersOf, Sources}
use Rattle.postscript_write.specs.Sizes.{IsLarge}
use Rattle.postscript_write.specs.declared.error.Error.{Error}
use Rattle.postscript_write.specs.declared.error.Error.TheVariants.{Refused, Glyph, SeveralFonts, MissingGlyph, MissingPart, MissingName, LongGlyph, NoGlyphs, TooLarge, TooLong}
use Rattle.postscript_write.specs.RefusedGlyphs.{IsRefusedFirst, IsPartless, IsNameless, LacksSet, LacksEncoding, AreSound}

-- With the charstrings of these glyphs the font is too large to write.
pub record IsTooLarge (bytes : List ℕ) (font : View) (sources : Sources) : Type 0 where
  pub numbers : List ℕ
  pub codes : List (List ℕ)
  pub are_numbers : AreNumbersOf bytes font sources numbers
  pub are_codes : AreCodesOf font sources numbers codes
  pub large : IsLarge bytes font codes

-- This is the first charstring with more bytes than allowed (Technical Note 5177, Appendix B), and this glyph is its source.
pub record IsFirstLong (sources : Sources) (codes : List (List ℕ)) (glyph : ℕ) : Type 0 where
  pub place : ℕ
  pub there : place < length codes
  pub is : slice_index_or sources place None ≡ Some glyph
  pub long : 65535 < length (slice_index_or codes place [])
  pub before : (i : ℕ) → i < place → length (slice_index_or codes i []) ≤ 65535

-- the charstring of this glyph is the first one that is too long
pub record IsLongGlyph (bytes : List ℕ) (font : View) (sources : Sources) (glyph : ℕ) : Type 0 where
  pub numbers : List ℕ
  pub codes : List (List ℕ)
  pub are_numbers : AreNumbersOf bytes font sources numbers
  pub are_codes : AreCodesOf font sources numbers codes
  pub first : IsFirstLong sources codes glyph

-- The meaning of an error for the old font. `TooLarge` means that nothing else is wrong with it.
abbrev pub FontRefusedBy : List ℕ → View → Sources → Error → Type 0
FontRefusedBy bytes font sources (Glyph glyph cause) = IsRefusedFirst bytes font sources glyph cause
FontRefusedBy bytes font sources (Refused cause) = cause ≢ Memory → LacksSet bytes font cause ⊎ LacksEncoding bytes font cause
FontRefusedBy bytes font sources (MissingPart glyph) = IsPartless bytes font sources glyph
FontRefusedBy bytes font sources (LongGlyph glyph) = IsLongGlyph bytes font sources glyph
FontRefusedBy bytes font sources (MissingName glyph) = IsNameless bytes font sources glyph
FontRefusedBy bytes font sources TooLarge = AreSound bytes font sources × IsTooLarge bytes font sources
FontRefusedBy bytes font sources SeveralFonts = ⊥
FontRefusedBy bytes font sources (MissingGlyph glyph) = ⊥
FontRefusedBy bytes font sources NoGlyphs = ⊥
FontRefusedBy bytes font sources TooLong = ⊥

-- a font with this property begins the bytes
abbrev pub OfFont : List ℕ → (View → Type 0) → Type 0
OfFont bytes P = (old : View) × IsLaidOut bytes 0 old × P old

-- the font set does not have exactly one font
abbrev pub HasOtherFonts : List ℕ → Type 0
HasOtherFonts bytes = (count : ℕ) × (fonts bytes 0 ≡ Got count 0) × (count ≢ 1)

-- reading the font set, or its first font, fails with this error
abbrev pub IsRefusedAs : List ℕ → causes.Error → Type 0
IsRefusedAs bytes cause = RefusedAs cause (fonts bytes 0) ⊎ RefusedAs cause (view bytes 0)

-- The meaning of an error for the bytes, whose font has the glyphs.
abbrev pub IsRefusedBy : ((glyphs : ℕ) → Sources) → List ℕ → Error → Type 0
IsRefusedBy sources bytes SeveralFonts = HasOtherFonts bytes
IsRefusedBy sources bytes (Refused cause) = cause ≢ Memory → IsRefusedAs bytes cause
    ⊎ OfFont bytes (λ old. LacksSet bytes old cause ⊎ LacksEncoding bytes old cause)
IsRefusedBy sources bytes e = OfFont bytes (λ old. FontRefusedBy bytes old (sources (length old.char_strings)) e)

-- the first named glyph that the font does not have
pub record IsFirstPast (named : List ℕ) (glyphs glyph : ℕ) : Type 0 where
  pub place : ℕ
  pub there : place < length named
  pub is : slice_index_or named place 0 ≡ glyph
  pub past : glyphs ≤ glyph
  pub before : (i : ℕ) → i < place → slice_index_or named i 0 < glyphs

-- The meaning of an error of `kept_glyphs`.
abbrev pub IsChoiceRefusedBy : (named bytes : List ℕ) → Error → Type 0
IsChoiceRefusedBy named bytes NoGlyphs = named ≡ []
IsChoiceRefusedBy named bytes (MissingGlyph glyph) = OfFont bytes (λ old. IsFirstPast named (length old.char_strings) glyph)
IsChoiceRefusedBy named bytes SeveralFonts = HasOtherFonts bytes
IsChoiceRefusedBy named bytes (Refused cause) = cause ≢ Memory → IsRefusedAs bytes cause ⊎ OfFont bytes (λ old. LacksSet bytes old cause)
IsChoiceRefusedBy named bytes _ = ⊥

-- The meaning of an error of a subset: for the named glyphs, for the bytes, or for the font with the kept glyphs.
abbrev pub IsSubsetRefusedBy : (named : List ℕ) → (sources : (closed : List ℕ) (glyphs : ℕ) → Sources) → List ℕ → Error → Type 0
IsSubsetRefusedBy named sources bytes NoGlyphs = named ≡ []
IsSubsetRefusedBy named sources bytes (MissingGlyph glyph) = OfFont bytes (λ old. IsFirstPast named (length old.char_strings) glyph)
IsSubsetRefusedBy named sources bytes SeveralFonts = IsRefusedBy (sources named) bytes SeveralFonts
IsSubsetRefusedBy named sources bytes (Refused cause) = IsRefusedBy (sources named) bytes (Refused cause)
IsSubsetRefusedBy named sources bytes e = (closed : List ℕ) × AreClosed bytes named closed × IsRefusedBy (sources closed) bytes e

-- an error other than `MissingName`
abbrev pub NeedsNoName : Error → Type 0
NeedsNoName (MissingName glyph) = ⊥
NeedsNoName _ = Unit {0}
