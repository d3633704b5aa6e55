-- The strings of a new font, and their SIDs (Technical Note 5176, sections 9, 10 and 13).
use Rattle.std.specs.Prelude.{◌≡◌, ◌↔◌, ◌⊎◌, ℕ, ◌+◌, ◌<◌, ℤ, pos, List, Option, Some, None, Bool, length, nat_lt, slice_index_or, All, Any, MatchBool, if◌then◌else◌}
use Rattle.std.specs.Option.{option_and_then}
use Rattle.postscript_base.specs.Compact1.Decimal.{to_i32}
use Rattle.postscript_base.specs.Compact1.Defaults.{look, first_of}
use Rattle.postscript_base.specs.Compact1.Dictionary.{Dictionary}
use Rattle.postscript_base.specs.declared.compact1.operator.Operator.{Operator}
use Rattle.postscript_view.specs.Naming.{Names}
use Rattle.postscript_view.specs.Contents.{Tables, View}
use Rattle.postscript_view.specs.Strings.{HasString, string_of}
use Rattle.postscript_view.specs.declared.char_set.CharSetView.{CharSetView}
use Rattle.postscript_write.specs.Glyphs.{Sources}
use Rattle.postscript_write.specs.Naming.{SameNames}
use Rattle.postscript_write.specs.Parts.{SameAt, naming}

-- the SID of an operator: its first operand, if that is a whole number of two bytes
abbrev pub identifier_from : Option ℤ → Option ℕ
identifier_from (Some (pos n)) = if nat_lt n 65536 then Some n else None
identifier_from _ = None

unfoldable pub identifier_in : Dictionary → Operator → Option ℕ
identifier_in map operator = identifier_from (option_and_then to_i32 (first_of (look map operator)))

-- the string of a SID, if it is a string of the font and no standard string, whose SIDs are below 391
unfoldable pub own_string : List (List ℕ) → (identifier : ℕ) → Option (List ℕ)
own_string strings identifier = if nat_lt identifier 391 then None else string_of strings identifier

abbrev pub own_named : Tables → Operator → Option (List ℕ)
own_named tables operator = option_and_then (own_string tables.strings) (identifier_in tables.dictionary operator)

-- An operator has the same string of the font as before. If it had none, it has the same operands.
pub record NamesSame (old new : Tables) (operator : Operator) : Type 0 where
  pub string : own_named new operator ≡ own_named old operator
  pub operands : own_named old operator ≡ None → look new.dictionary operator ≡ look old.dictionary operator

abbrev pub NameSame : (old new : Tables) → Type 0
NameSame old new = All (NamesSame old new) naming

-- Two SIDs have the same string in both fonts. If the old one has no string of the font, they are equal.
pub record SameString (old : List (List ℕ)) (was : ℕ) (new : List (List ℕ)) (is : ℕ) : Type 0 where
  pub string : own_string new is ≡ own_string old was
  pub identifier : own_string old was ≡ None → is ≡ was

-- A glyph has the name of the glyph that it is made of, or none if that has none. A standard string keeps its SID.
pub record HasSameText (old : CharSetView) (old_strings : List (List ℕ)) (glyph : ℕ) (new : CharSetView) (new_strings : List (List ℕ))
    (i : ℕ) : Type 0 where
  pub name : (name : List ℕ) → HasString old old_strings glyph name ↔ HasString new new_strings i name
  pub standard : (identifier : ℕ) → identifier < 391 → Names old glyph identifier ↔ Names new i identifier

abbrev pub SameText : CharSetView → List (List ℕ) → Option ℕ → CharSetView → List (List ℕ) → (i : ℕ) → Type 0
SameText old old_strings None new new_strings i = Unit {0}
SameText old old_strings (Some glyph) new new_strings i = HasSameText old old_strings glyph new new_strings i

abbrev pub SameTexts : CharSetView → List (List ℕ) → Sources → CharSetView → List (List ℕ) → Type 0
SameTexts old old_strings sources new new_strings = (i : ℕ) → i < length sources →
    SameText old old_strings (slice_index_or sources i None) new new_strings i

-- the same by SIDs of both fonts that have the same string
abbrev pub IsNamedAs : CharSetView → List (List ℕ) → Option ℕ → CharSetView → List (List ℕ) → (i : ℕ) → Type 0
IsNamedAs old old_strings None new new_strings i = Unit {0}
IsNamedAs old old_strings (Some glyph) new new_strings i =
    (was : ℕ) × (is : ℕ) × Names old glyph was × Names new i is × SameString old_strings was new_strings is

abbrev pub AreNamedAs : CharSetView → List (List ℕ) → Sources → CharSetView → List (List ℕ) → Type 0
AreNamedAs old old_strings sources new new_strings = (i : ℕ) → i < length sources →
    IsNamedAs old old_strings (slice_index_or sources i None) new new_strings i

-- An operator of the Top DICT has the string with this number, or a glyph has it.
abbrev pub IsNeeded : View → CharSetView → (number : ℕ) → Type 0
IsNeeded font set number =
    Any (λ operator. identifier_in font.tables.dictionary operator ≡ Some (391 + number)) naming
    ⊎ ((glyph : ℕ) × (glyph < length font.char_strings) × Names set glyph (391 + number))

abbrev pub AreNeeded : View → CharSetView → Type 0
AreNeeded font set = (number : ℕ) → number < length font.tables.strings → IsNeeded font set number

-- Strings are unchanged, and so are their SIDs in the Top DICT and in the charset.
pub record KeepsStrings (sources : Sources) (old : View) (old_set : CharSetView) (new : View) (new_set : CharSetView) : Type 0 where
  pub strings : new.tables.strings ≡ old.tables.strings
  pub operators : SameAt naming old.tables.dictionary new.tables.dictionary
  pub glyphs : SameNames old_set sources new_set

-- Operators and glyphs have the same strings as before, and there is no other string.
pub record CutsStrings (sources : Sources) (old : View) (old_set : CharSetView) (new : View) (new_set : CharSetView) : Type 0 where
  pub operators : NameSame old.tables new.tables
  pub glyphs : SameTexts old_set old.tables.strings sources new_set new.tables.strings
  pub needed : AreNeeded new new_set

-- Strings are unchanged if they are kept. Otherwise only the used ones are there.
abbrev pub SameStrings : (keeps : Bool) → Sources → View → CharSetView → View → CharSetView → Type 0
SameStrings keeps sources old old_set new new_set =
    MatchBool keeps (KeepsStrings sources old old_set new new_set) (CutsStrings sources old old_set new new_set)
