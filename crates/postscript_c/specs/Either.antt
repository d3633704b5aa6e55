-- A face with outlines in a `CFF2` or a `CFF ` table, for C: an outline at a location, and the number of glyphs. A `CFF ` table varies
-- along no axis, so its outlines are the same at each location.
use Rattle.std.specs.Prelude.{◌≡◌, ◌⊎◌, ℕ, ℤ, pos, List, codes, Option, Some, None, Result, Ok, Err}
use Rattle.postscript_base.specs.Error.{code}
use Rattle.postscript_base.specs.Numbers.{big_endian}
use Rattle.postscript_base.specs.declared.error.Error.{Error as Cause}
use Rattle.postscript_c.specs.Answers.{IsOf, undrawn_code}
use Rattle.postscript_c.specs.Glyphs.{Glyph}
use Rattle.postscript_c.specs.Counted.{TellsCountOf}
use Rattle.postscript_c.specs.Faces.{TellsOfFace}
use Rattle.postscript_c.specs.Law.{OpensFont}
use Rattle.postscript_c.specs.Parts.{TellsByPart}
use Rattle.postscript_c.specs.Placed.{AreCoordinatesAt, IsUnplaced, unplaced_code}
use Rattle.postscript_c.specs.Varied.{cff2}
use Rattle.postscript_c.specs.VariedTold.{HandsOutline, OutlineRoom, TellsVariedOf}
use Rattle.postscript_c.specs.declared.font.PsfFont.{PsfFont}
use Rattle.postscript_c.specs.declared.place.Unplaced.{Unplaced}
use Rattle.postscript_drawing.specs.declared.error.Error.{Error}
use Rattle.postscript_sfnt.specs.Lent.{HasNoTable, IsTableOf}
use Rattle.postscript_sfnt.specs.declared.file.FontFile.{FontFile}

abbrev pub cff : ℕ
cff = big_endian (codes "CFF ")

-- the font with another limit
abbrev pub within : (limit : ℕ) → PsfFont → PsfFont
within limit font = record {
  char_strings = font.char_strings;
  global_subroutines = font.global_subroutines;
  font_dictionaries = font.font_dictionaries;
  fd_select = font.fd_select;
  part = font.part;
  glyphs = font.glyphs;
  is_cid = font.is_cid;
  limit = limit;
}

-- The status and the outputs for an outline. An error has its status, and 31 means that there is no such glyph. In both cases all outputs
-- are unchanged.
abbrev pub TellsDrawn : Result (Option Glyph) Error → (status : ℤ) → (old new : OutlineRoom) → Type 0
TellsDrawn (Ok (Some found)) status old new = HandsOutline found.drawn.segments status old new
TellsDrawn (Ok None) status old new = (status ≡ pos 31) × (new ≡ old)
TellsDrawn (Err e) status old new = (status ≡ pos (undrawn_code e)) × (new ≡ old)

-- the status and the outputs for a glyph of a font, as `psf_glyph_outline` draws it
abbrev pub TellsGlyphOf : (bytes : List ℕ) (font : PsfFont) (glyph : ℕ) (status : ℤ) (old new : OutlineRoom) → Type 0
TellsGlyphOf bytes font glyph status old new =
    TellsByPart bytes font glyph status
    (λ part. (answer : Result (Option Glyph) Error) × IsOf bytes font part glyph answer × TellsDrawn answer status old new) (new ≡ old)

-- the same for the font at the beginning of the bytes, within a limit, or why it is rejected
abbrev pub TellsGlyphIn : (bytes : List ℕ) (glyph limit : ℕ) → Result PsfFont Cause → (status : ℤ) → (old new : OutlineRoom) → Type 0
TellsGlyphIn bytes glyph limit (Ok font) status old new = TellsGlyphOf bytes (within limit font) glyph status old new
TellsGlyphIn bytes glyph limit (Err e) status old new = (status ≡ pos (code e)) × (new ≡ old)

abbrev pub TellsPlain : (bytes : List ℕ) (glyph limit : ℕ) (status : ℤ) (old new : OutlineRoom) → Type 0
TellsPlain bytes glyph limit status old new =
    (answer : Result PsfFont Cause) × OpensFont bytes answer × TellsGlyphIn bytes glyph limit answer status old new

-- the same for the `CFF ` table of a face, if the values give a location of it, or why they do not
abbrev pub TellsPlainAt : FontFile → (table : List ℕ) (values : List ℤ) (glyph limit : ℕ) (status : ℤ) (old new : OutlineRoom) → Type 0
TellsPlainAt file table values glyph limit status old new =
    ((coordinates : List ℤ) × AreCoordinatesAt file values coordinates × TellsPlain table glyph limit status old new)
    ⊎ ((e : Unplaced) × IsUnplaced file values e × (status ≡ pos (unplaced_code e)) × (new ≡ old))

-- a face without a `CFF2` table, with this `CFF ` table
abbrev pub HasPlain : FontFile → (table : List ℕ) → Type 0
HasPlain file table = HasNoTable file cff2 × IsTableOf file cff table

-- a face with a `CFF2` table, or with neither
abbrev pub HasNoPlain : FontFile → Type 0
HasNoPlain file = HasNoTable file cff2 → HasNoTable file cff

-- the status and the outputs for an outline of a face at the location with these values, by the table that it has
abbrev pub TellsEitherOf : FontFile → (values : List ℤ) (glyph limit : ℕ) (status : ℤ) (old new : OutlineRoom) → Type 0
TellsEitherOf file values glyph limit status old new =
    (HasNoPlain file × TellsVariedOf file values glyph limit status old new)
    ⊎ ((table : List ℕ) × HasPlain file table × TellsPlainAt file table values glyph limit status old new)

abbrev pub TellsEither : (bytes : List ℕ) (face : ℕ) (values : List ℤ) (glyph limit : ℕ) (status : ℤ) (old new : OutlineRoom) → Type 0
TellsEither bytes face values glyph limit status old new =
    TellsOfFace bytes face status (λ file. TellsEitherOf file values glyph limit status old new) (new ≡ old)

-- the number of glyphs of the font at the beginning of the bytes, or why it is rejected
abbrev pub TellsGlyphsOf : Result PsfFont Cause → (status : ℤ) → (old new : ℕ) → Type 0
TellsGlyphsOf (Ok font) status old new = (status ≡ pos 0) × (new ≡ font.glyphs)
TellsGlyphsOf (Err e) status old new = (status ≡ pos (code e)) × (new ≡ old)

abbrev pub TellsCountPlain : (bytes : List ℕ) (status : ℤ) (old new : ℕ) → Type 0
TellsCountPlain bytes status old new = (answer : Result PsfFont Cause) × OpensFont bytes answer × TellsGlyphsOf answer status old new

abbrev pub TellsCountEitherOf : FontFile → (status : ℤ) (old new : ℕ) → Type 0
TellsCountEitherOf file status old new =
    (HasNoPlain file × TellsCountOf file status old new)
    ⊎ ((table : List ℕ) × HasPlain file table × TellsCountPlain table status old new)

abbrev pub TellsCount : (bytes : List ℕ) (face : ℕ) (status : ℤ) (old new : ℕ) → Type 0
TellsCount bytes face status old new = TellsOfFace bytes face status (λ file. TellsCountEitherOf file status old new) (new ≡ old)
