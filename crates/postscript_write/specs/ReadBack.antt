-- The new font is the intended one (Technical Note 5176, sections 7, 10, 12, 13 and 19).
use Rattle.std.specs.Prelude.{◌≡◌, ℕ, ◌<◌, ◌≤◌, ◌^◌, List, Bool, ◌||◌, MatchBool, Option, Some, None, Vec, length, slice_index_or}
use Rattle.std.specs.Option.{is_some}
use Rattle.std.specs.declared.alloc.Global.{Global}
use Rattle.postscript_base.specs.Compact1.Defaults.{look}
use Rattle.postscript_base.specs.Compact1.Dictionary.{Dictionary}
use Rattle.postscript_base.specs.declared.compact1.operator.Operator.TheVariants as operators
use Rattle.postscript_view.specs.Cids.{IsCidKeyed}
use Rattle.postscript_view.specs.CharSets.{IsCharSetOf}
use Rattle.postscript_view.specs.Contents.{View}
use Rattle.postscript_view.specs.Encodings.{IsEncodingOf}
use Rattle.postscript_view.specs.Layout.{IsLaidOut}
use Rattle.postscript_view.specs.Select.{IsSelected, offset_of}
use Rattle.postscript_view.specs.declared.char_set.CharSetView.{CharSetView}
use Rattle.postscript_view.specs.declared.encoding.EncodingView.{EncodingView}
use Rattle.postscript_write.specs.Fonts.{HasHeader, NamesItsParts, Repeats}
use Rattle.postscript_write.specs.Glyphs.{ShowsPart, Sources}
use Rattle.postscript_write.specs.Naming.{SameEncoding, codes_for}
use Rattle.postscript_write.specs.Strings.{AreNamedAs, AreNeeded, KeepsStrings, NameSame}
use Rattle.postscript_write.specs.Texts.{TextStands}
use Rattle.postscript_write.specs.Whole.{HasNoByteBeside}

-- Operators and glyphs have the same strings as before, by SIDs of both fonts, and each string is needed.
pub record CutsByIdentifiers (sources : Sources) (old : View) (old_set : CharSetView) (new : View) (new_set : CharSetView) : Type 0 where
  pub operators : NameSame old.tables new.tables
  pub glyphs : AreNamedAs old_set old.tables.strings sources new_set new.tables.strings
  pub needed : AreNeeded new new_set

-- All strings are kept if glyphs keep their numbers, and in a CID-keyed font, whose glyphs have no names (section 18).
abbrev pub keeps_strings : (kept : Bool) → Dictionary → Bool
keeps_strings kept map = kept || is_some (look map operators.ROS)

abbrev pub AreStrings : (keeps : Bool) → Sources → View → CharSetView → View → CharSetView → Type 0
AreStrings keeps sources old old_set new new_set =
    MatchBool keeps (KeepsStrings sources old old_set new new_set) (CutsByIdentifiers sources old old_set new new_set)

-- the new font has a charset, and with it strings and names are as intended
pub record HasNames (keeps : Bool) (sources : Sources) (old : View) (old_set : CharSetView) (flat : List ℕ) (new : View) : Type 0 where
  pub set : CharSetView
  pub is : IsCharSetOf set flat new.tables.dictionary (length new.char_strings)
  pub same : (set : CharSetView) → IsCharSetOf set flat new.tables.dictionary (length new.char_strings) →
      AreStrings keeps sources old old_set new set

-- the new font has an encoding with the same content as another one
pub record HasSameCodes (old : EncodingView) (flat : List ℕ) (map : Dictionary) : Type 0 where
  pub encoding : EncodingView
  pub is : IsEncodingOf encoding flat map
  pub same : (encoding : EncodingView) → IsEncodingOf encoding flat map → SameEncoding old encoding

-- or it has the encoding that replaces another one
pub record HasOtherCodes (old : EncodingView) (flat : List ℕ) (map : Dictionary) : Type 0 where
  pub encoding : EncodingView
  pub is : IsEncodingOf encoding flat map
  pub same : (encoding : EncodingView) → IsEncodingOf encoding flat map → encoding.codes ≡ codes_for old.codes

abbrev pub HasCodes : (kept : Bool) → EncodingView → List ℕ → Dictionary → Type 0
HasCodes kept old flat map = MatchBool kept (HasSameCodes old flat map) (HasOtherCodes old flat map)

-- The text of the charset is at the offset in the new DICT. If there is none, both DICTs have the same predefined charset.
abbrev pub HasCharSetText : (old : Dictionary) → Option (Vec ℕ Global) → List ℕ → (new : Dictionary) → Type 0
HasCharSetText old None out new = look new operators.CharSet ≡ look old operators.CharSet
HasCharSetText old (Some text) out new =
    (place : ℕ) × (offset_of new operators.CharSet ≡ Some place) × (3 ≤ place) × (place < 2 ^ 31) × TextStands text.items out place

-- The new font has the header, the content of the old font, these charstrings and numbers of parts, and no bytes outside its parts.
pub record IsAsWritten (numbers : List ℕ) (codes : List (List ℕ)) (old : View) (flat : List ℕ) (new : View) : Type 0 where
  pub header : HasHeader flat
  pub repeats : Repeats old new
  pub char_strings : new.char_strings ≡ codes
  pub parts : (i : ℕ) → i < length numbers → ShowsPart flat new i (slice_index_or numbers i 0)
  pub selected : IsCidKeyed new.tables.dictionary → (i : ℕ) → i < length numbers →
      IsSelected flat new.tables.dictionary (length new.char_strings) i (slice_index_or numbers i 0)
  pub whole : HasNoByteBeside flat new

-- The new font is laid out in the bytes, and is as intended, with its names and codes.
pub record IsReadAs (kept : Bool) (sources : Sources) (old : View) (old_set : CharSetView) (encoding : EncodingView) (numbers : List ℕ)
    (codes : List (List ℕ)) (flat : List ℕ) (new : View) : Type 0 where
  pub laid : IsLaidOut flat 0 new
  pub written : IsAsWritten numbers codes old flat new
  pub names : HasNames (keeps_strings kept old.tables.dictionary) sources old old_set flat new
  pub same_codes : HasCodes kept encoding flat new.tables.dictionary
  pub unnamed : NamesItsParts new.tables.dictionary
