-- The greatest number of bytes of a new font, and the font that it is made of.
use Rattle.std.specs.Prelude.{All, ℕ, ◌+◌, ◌*◌, ◌^◌, ◌<◌, ◌≤◌, List, length, IsSome}
use Rattle.postscript_base.specs.Index.Lent.{items_of}
use Rattle.postscript_type2.specs.Program.Routines.{texts}
use Rattle.postscript_view.specs.Layout.{IsLaidOut}
use Rattle.postscript_view.specs.Sizes.{HoldFew, IsKeyed}
use Rattle.postscript_view.specs.Value.{view_shown}
use Rattle.postscript_view.specs.declared.font.FontView.{FontView}
use Rattle.postscript_write.specs.Pieces.{text_of}
use Rattle.postscript_write.specs.Dictionaries.{IsHeld}
use Rattle.postscript_write.specs.Renumbered.{all_renamed}
use Rattle.postscript_write.specs.Sizes.{bytes_in}
use Rattle.postscript_write.specs.declared.layout.Glyphs.{Glyphs}

-- A font as it is read: it is laid out in its bytes, and if it is CID-keyed, its Font DICTs and their Private DICTs are small.
pub record IsRead (font : FontView) : Type 0 where
  pub laid : IsLaidOut font.bytes.now 0 (view_shown font)
  pub few : IsKeyed font.dictionary → HoldFew font.bytes.now font.dictionary font.parts.items

-- only a CID-keyed font has an FDSelect (section 19)
abbrev pub SelectsOnlyIfKeyed : FontView → Glyphs → Type 0
SelectsOnlyIfKeyed font glyphs = IsSome glyphs.select → IsKeyed font.dictionary

-- the bytes of an INDEX: its count, the size of its offsets, at most four bytes for each offset, and the items (section 5)
abbrev pub index_room : List (List ℕ) → ℕ
index_room items = 7 + 4 * length items + bytes_in items

-- The bytes of a new font, at most: names, strings and charstrings; encoding, FDSelect and charset; the Top DICT and the Private DICT, each
-- of which has no more bytes than the old font; and 42,000,000 for Font DICTs and their Private DICTs, each at most 20,000,000 when they
-- are read (`HoldFew`), with the header and all offsets.
abbrev pub room : FontView → Glyphs → (codes : List (List ℕ)) → ℕ
room font glyphs codes =
    index_room (items_of font.names) + index_room (texts glyphs.strings.texts.items) + index_room codes
    + (length (text_of glyphs.encoding) + length (text_of glyphs.select) + length (text_of glyphs.char_set))
    + (2 * length font.bytes.now + 42000000)

-- Each INDEX has fewer than 65,536 items, the new SIDs can be written, and no offset is past 2^31.
pub record HasRoom (font : FontView) (glyphs : Glyphs) (codes : List (List ℕ)) : Type 0 where
  pub few_names : length (items_of font.names) < 2 ^ 16
  pub few_strings : length (texts glyphs.strings.texts.items) < 2 ^ 16
  pub few_codes : length codes < 2 ^ 16
  pub few_parts : length font.parts.items < 2 ^ 16
  pub renamed : All IsHeld (all_renamed glyphs.strings font.dictionary)
  pub all : room font glyphs codes < 2 ^ 31

-- the charstrings and the Private DICTs of such a font are small enough
pub record HasFew (font : FontView) (codes : List (List ℕ)) (strings own : List ℕ) : Type 0 where
  pub char_strings : length strings ≤ index_room codes
  pub privates : length own ≤ length font.bytes.now + 20000000
