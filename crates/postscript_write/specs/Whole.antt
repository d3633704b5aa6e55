-- There are no bytes outside the parts of a font: the beginning and the end of each part (Technical Note 5176, sections 2, 5, 7 to 10, 12
-- to 16, 18 and 19).
use Rattle.std.specs.Prelude.{◌≡◌, ◌⊎◌, ℕ, ◌+◌, ◌-◌, ◌*◌, ◌%◌, ◌<◌, ◌≤◌, pos, List, [], ◌∷◌, length, take, drop, Some, None}
use Rattle.std.specs.Option.{unwrap_or}
use Rattle.postscript_base.specs.Compact1.Defaults.{look, first_two_of}
use Rattle.postscript_base.specs.Compact1.Dictionary.{Dictionary}
use Rattle.postscript_base.specs.declared.compact1.operator.Operator.{Operator}
use Rattle.postscript_base.specs.declared.compact1.operator.Operator.TheVariants as operators
use Rattle.postscript_compact1.specs.FontSet.Parts.{HasTwo}
use Rattle.postscript_base.specs.Index.{number_at, IsIndex}
use Rattle.postscript_view.specs.CharSet.{covered}
use Rattle.postscript_view.specs.Cids.{IsCidKeyed}
use Rattle.postscript_view.specs.Layout.{IsLaidOut}
use Rattle.postscript_view.specs.Contents.{PrivateDict, View}
use Rattle.postscript_view.specs.Select.{offset_of}
use Rattle.postscript_write.specs.Once.{IsToldOnce}

-- An INDEX begins at an offset and ends at its last offset. Its offsets begin with 1 and do not decrease, so that each byte is in an item.
abbrev pub IndexEnds : List ℕ → (place next : ℕ) → Type 0
IndexEnds bytes place next = (items : List (List ℕ)) × IsIndex bytes place items next

-- it has one item
abbrev pub SingleEnds : List ℕ → (place next : ℕ) → Type 0
SingleEnds bytes place next = (items : List (List ℕ)) × IsIndex bytes place items next × (length items ≡ 1)

-- parts, each of which begins where the one before it ends
abbrev pub Chain : List (ℕ → ℕ → Type 0) → (place next : ℕ) → Type 0
Chain [] place next = next ≡ place
Chain (ends ∷ others) place next = (behind : ℕ) × ends place behind × Chain others behind next

-- After the header, of four bytes, there are the INDEXes of names, of one DICT, of strings and of subroutines.
abbrev pub TablesEnd : List ℕ → (place next : ℕ) → Type 0
TablesEnd bytes place next =
    Chain (IndexEnds bytes ∷ SingleEnds bytes ∷ IndexEnds bytes ∷ IndexEnds bytes ∷ []) (place + 4) next

-- Format 0 has one byte for each code, and format 1 two for each range. The high bit of the format is not part of its number.
abbrev pub CodesEnd : List ℕ → (place next : ℕ) → Type 0
CodesEnd bytes place next =
    ((number_at bytes place 1 % 128 ≡ 0) × (next ≡ place + 2 + number_at bytes (place + 1) 1))
    ⊎ ((number_at bytes place 1 % 128 ≡ 1) × (next ≡ place + 2 + 2 * number_at bytes (place + 1) 1))

-- If that bit is set, a count of supplements follows, and three bytes for each.
abbrev pub SupplementsEnd : List ℕ → (format codes next : ℕ) → Type 0
SupplementsEnd bytes format codes next =
    ((format < 128) × (next ≡ codes)) ⊎ ((128 ≤ format) × (next ≡ codes + 1 + 3 * number_at bytes codes 1))

abbrev pub EncodingEnds : List ℕ → (place next : ℕ) → Type 0
EncodingEnds bytes place next = (codes : ℕ) × CodesEnd bytes place codes × SupplementsEnd bytes (number_at bytes place 1) codes next

-- The ranges of a charset have this number of bytes: the last of them covers the last glyph. If they cover fewer glyphs, they end with the
-- bytes.
pub record RangesEnd (ranges : List ℕ) (size glyphs bytes : ℕ) : Type 0 where
  pub needed : (r : ℕ) → r * (2 + size) < bytes → covered ranges size r < glyphs
  pub enough : ((r : ℕ) × (bytes ≡ r * (2 + size)) × (glyphs ≤ covered ranges size r)) ⊎ (bytes ≡ length ranges)

-- A charset has a SID or CID for each glyph but the first: format 0 in two bytes each; formats 1 and 2 in ranges, which have the number of
-- further glyphs in one byte or two.
abbrev pub CharSetEnds : List ℕ → (glyphs place next : ℕ) → Type 0
CharSetEnds bytes glyphs place next =
    ((number_at bytes place 1 ≡ 0) × (next ≡ place + 1 + 2 * (glyphs - 1)))
    ⊎ ((size : ℕ) × (len : ℕ) × (number_at bytes place 1 ≡ size) × (1 ≤ size) × (size ≤ 2)
    × RangesEnd (drop (place + 1) bytes) size (glyphs - 1) len × (next ≡ place + 1 + len))

-- FDSelect of format 0 has a byte for each glyph. Format 3 has a count of ranges, the ranges of three bytes each, and the number of glyphs.
abbrev pub SelectEnds : List ℕ → (glyphs place next : ℕ) → Type 0
SelectEnds bytes glyphs place next =
    ((number_at bytes place 1 ≡ 0) × (next ≡ place + 1 + glyphs))
    ⊎ ((number_at bytes place 1 ≡ 3) × (next ≡ place + 3 + 3 * number_at bytes (place + 1) 2 + 2)
    × (number_at bytes (place + 3 + 3 * number_at bytes (place + 1) 2) 2 ≡ glyphs))

-- A part begins at the offset that an operator of a DICT has, and ends there. An offset below the least is the number of a predefined part,
-- which is not in the bytes.
abbrev pub OwnEnds : Dictionary → Operator → (least : ℕ) → (ends : ℕ → ℕ → Type 0) → (place next : ℕ) → Type 0
OwnEnds map operator least ends place next =
    ((offset : ℕ) × (offset_of map operator ≡ Some offset) × (offset < least) × (next ≡ place))
    ⊎ ((least ≤ place) × (offset_of map operator ≡ Some place) × ends place next)

-- a part that only CID-keyed fonts have
abbrev pub KeyedEnds : Dictionary → Operator → (ends : ℕ → ℕ → Type 0) → (place next : ℕ) → Type 0
KeyedEnds map operator ends place next =
    ((IsCidKeyed map → ⊥) × (next ≡ place)) ⊎ (IsCidKeyed map × (offset_of map operator ≡ Some place) × ends place next)

-- the Private DICT of a DICT, with its size, if it has one: no operator occurs twice in it
abbrev pub PrivateEnds : List ℕ → Dictionary → (place next : ℕ) → Type 0
PrivateEnds bytes map place next =
    ((first_two_of (look map operators.Private) ≡ None) × (next ≡ place))
    ⊎ ((size : ℕ) × HasTwo map operators.Private (pos size) (pos place) × (next ≡ place + size)
    × IsToldOnce (take size (drop place bytes)))

-- a part that each font has
abbrev pub NamedEnds : Dictionary → Operator → (ends : ℕ → ℕ → Type 0) → (place next : ℕ) → Type 0
NamedEnds map operator ends place next = (offset_of map operator ≡ Some place) × ends place next

-- The Private DICTs are one after the other, in the order of the parts. If the font is not CID-keyed, the Top DICT has the offset of the
-- only one.
abbrev pub PrivatesEnd : List ℕ → Dictionary → List PrivateDict → (place next : ℕ) → Type 0
PrivatesEnd bytes map [] place next = next ≡ place
PrivatesEnd bytes map (part ∷ parts) place next = (behind : ℕ) × PrivateEnds bytes (unwrap_or part.font map) place behind
    × PrivatesEnd bytes map parts behind next

-- The font has a custom charset of format 0.
abbrev pub HasListedSet : List ℕ → Dictionary → Type 0
HasListedSet bytes map =
    (offset : ℕ) × (offset_of map operators.CharSet ≡ Some offset) × (3 ≤ offset) × (number_at bytes offset 1 ≡ 0)

-- the charset, if it is a custom one of format 0
abbrev pub ListedSetEnds : List ℕ → Dictionary → (glyphs place next : ℕ) → Type 0
ListedSetEnds bytes map glyphs place next =
    ((HasListedSet bytes map → ⊥) × (next ≡ place))
    ⊎ (HasListedSet bytes map × NamedEnds map operators.CharSet (CharSetEnds bytes glyphs) place next)

-- any other charset
abbrev pub OtherSetEnds : List ℕ → Dictionary → (glyphs place next : ℕ) → Type 0
OtherSetEnds bytes map glyphs place next =
    (HasListedSet bytes map × (next ≡ place))
    ⊎ ((HasListedSet bytes map → ⊥) × OwnEnds map operators.CharSet 3 (CharSetEnds bytes glyphs) place next)

-- The parts of a font, in their order: a charset of format 0 is before the charstrings, and any other charset is the last part.
abbrev pub parts_of : (flat : List ℕ) → View → List (ℕ → ℕ → Type 0)
parts_of flat new =
    let map = new.tables.dictionary in
    let glyphs = length new.char_strings in
    TablesEnd flat
    ∷ OwnEnds map operators.Encoding 2 (EncodingEnds flat)
    ∷ KeyedEnds map operators.FDSelect (SelectEnds flat glyphs)
    ∷ ListedSetEnds flat map glyphs
    ∷ NamedEnds map operators.CharStrings (IndexEnds flat)
    ∷ PrivatesEnd flat map new.parts
    ∷ KeyedEnds map operators.FDArray (IndexEnds flat)
    ∷ OtherSetEnds flat map glyphs
    ∷ []

-- the first part begins at 0, and the last one ends with the bytes
abbrev pub HasNoByteBeside : List ℕ → View → Type 0
HasNoByteBeside flat new = Chain (parts_of flat new) 0 (length flat)

-- the bytes are a font without any other byte
abbrev pub IsWholeFont : List ℕ → Type 0
IsWholeFont flat = (font : View) × IsLaidOut flat 0 font × HasNoByteBeside flat font
