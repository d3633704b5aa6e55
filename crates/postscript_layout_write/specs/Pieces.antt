-- A lookup of pairs as it is written. Its subtables follow it, or they follow all lookups, and then it has extensions (OpenType 1.9, "GPOS - Glyph
-- Positioning Table", "Lookup type 9 subtable: positioning subtable extension"; ISO/IEC 14496-22, 6.3.3). Only contracts of private functions and
-- proofs name this.
use Rattle.std.specs.Prelude.{◌≡◌, ℕ, ◌+◌, ◌*◌, ◌<◌, ◌≤◌, List, [], ◌∷◌, ◌++◌, length, slice_index, if◌then◌else◌}
use Rattle.std.specs.Int.{to_be_bytes, w32}
use Rattle.postscript_layout_write.specs.Flags.{uses_set}
use Rattle.postscript_layout_write.specs.ClassPairs.{HasPairs}
use Rattle.postscript_layout_write.specs.Holds.{Holds}
use Rattle.postscript_layout_write.specs.RuleSets.{rule_head_text}
use Rattle.postscript_layout_write.specs.Scopes.{mark_set_text}
use Rattle.postscript_layout_write.specs.Sets.{AreOffsets}
use Rattle.postscript_layout_write.specs.Text.{offsets_text, uint16}
use Rattle.postscript_layout_write.specs.declared.forms.Subtables.{Subtables}
use Rattle.postscript_layout_write.specs.declared.pieces.Piece.{Piece}
use Rattle.postscript_layout_write.specs.declared.values.Adjustment.{Adjustment}

-- the number of bytes that the set of marks takes
abbrev pub set_size : (flag : ℕ) → ℕ
set_size flag = if uses_set flag then 2 else 0

-- a lookup: its header, the offsets of its subtables, and its set of marks, if it uses one; the subtables follow
unfoldable pub lookup_text : (type flag set : ℕ) → (offsets : List ℕ) → List ℕ
lookup_text type flag set offsets =
    rule_head_text type flag (length offsets) ++ (offsets_text (6 + length offsets * 2 + set_size flag) offsets ++ mark_set_text flag set)

pub record LookupFits (flag set : ℕ) (offsets : List ℕ) : Type 0 where
  pub few : length offsets ≤ 6000
  pub fit : AreOffsets (6 + length offsets * 2 + set_size flag) offsets
  pub small : flag < 65536
  pub set_small : set < 65536

-- a number of four bytes: the high byte first
unfoldable pub uint32 : ℕ → List ℕ
uint32 n = to_be_bytes w32 n

-- an extension of type 2; the distance is counted from its beginning
unfoldable pub extension_text : (distance : ℕ) → List ℕ
extension_text distance = uint16 1 ++ (uint16 2 ++ uint32 distance)

-- extensions one after the other, for subtables at offsets that are counted from a distance after the last extension
unfoldable pub extensions_text : (distance : ℕ) → (offsets : List ℕ) → List ℕ
extensions_text distance [] = []
extensions_text distance (offset ∷ offsets) = extension_text (8 + length offsets * 8 + distance + offset) ++ extensions_text distance offsets

-- the offsets of a number of extensions
pub record AreExtensions (count : ℕ) (offsets : List ℕ) : Type 0 where
  pub many : length offsets ≡ count
  pub each : (k : ℕ) → k < count → slice_index offsets k ≡ k * 8

-- offsets that are counted from a base fit into four bytes
abbrev pub AreLong : (base : ℕ) → List ℕ → Type 0
AreLong base offsets = (k : ℕ) → k < length offsets → base + slice_index offsets k < 4294967296

-- the bytes of a lookup whose subtables follow it
pub record IsNearPiece (flag set : ℕ) (subtables : Subtables) (piece : Piece) : Type 0 where
  pub fits : LookupFits flag set subtables.offsets.items
  pub lookup : piece.lookup.items ≡ lookup_text 2 flag set subtables.offsets.items ++ subtables.bytes.items
  pub none : piece.subtables.items ≡ []

-- the bytes of a lookup with extensions, whose subtables begin at a distance after it
pub record IsFarPiece (flag set distance : ℕ) (subtables : Subtables) (piece : Piece) : Type 0 where
  pub extensions : List ℕ
  pub some : 0 < length subtables.offsets.items
  pub are : AreExtensions (length subtables.offsets.items) extensions
  pub fits : LookupFits flag set extensions
  pub long : AreLong (length subtables.offsets.items * 8 + distance) subtables.offsets.items
  pub lookup : piece.lookup.items ≡ lookup_text 9 flag set extensions ++ extensions_text distance subtables.offsets.items
  pub behind : piece.subtables.items ≡ subtables.bytes.items

pub data IsPiece (flag set distance : ℕ) (subtables : Subtables) (piece : Piece) : Type 0 where
  near_piece : IsNearPiece flag set subtables piece → IsPiece flag set distance subtables piece
  far_piece : IsFarPiece flag set distance subtables piece → IsPiece flag set distance subtables piece

-- a lookup at an offset, with its subtables
pub record HasNear (flag set : ℕ) (f : (x y : ℕ) → Adjustment) (bytes : List ℕ) (offset : ℕ) : Type 0 where
  pub offsets : List ℕ
  pub subtables : List ℕ
  pub has : HasPairs f offsets subtables
  pub fits : LookupFits flag set offsets
  pub there : Holds (lookup_text 2 flag set offsets ++ subtables) bytes offset

-- a lookup at an offset, with extensions
pub record HasFar (flag set : ℕ) (f : (x y : ℕ) → Adjustment) (bytes : List ℕ) (offset : ℕ) : Type 0 where
  pub offsets : List ℕ
  pub subtables : List ℕ
  pub extensions : List ℕ
  pub distance : ℕ
  pub has : HasPairs f offsets subtables
  pub some : 0 < length offsets
  pub are : AreExtensions (length offsets) extensions
  pub fits : LookupFits flag set extensions
  pub long : AreLong (length offsets * 8 + distance) offsets
  pub there : Holds (lookup_text 9 flag set extensions ++ extensions_text distance offsets) bytes offset
  pub behind : Holds subtables bytes (offset + (6 + length offsets * 10 + set_size flag + distance))

-- a lookup at an offset has a flag, a set of marks, if it uses one, and the pairs
pub data HasLookup (flag set : ℕ) (f : (x y : ℕ) → Adjustment) (bytes : List ℕ) (offset : ℕ) : Type 0 where
  is_near : HasNear flag set f bytes offset → HasLookup flag set f bytes offset
  is_far : HasFar flag set f bytes offset → HasLookup flag set f bytes offset
