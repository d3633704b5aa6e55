-- Values that are borrowed from a file: a face, its tables and its advance widths.
use Rattle.std.specs.Prelude.{◌≡◌, ℕ, ◌<◌, List}
use Rattle.postscript_sfnt.specs.Directory.{IsFace, IsDirectory, IsSpan, IsTable, Names, tag_at}
use Rattle.postscript_sfnt.specs.Metrics.{HasAdvances, advance_of}
use Rattle.postscript_sfnt.specs.declared.file.FontFile.{FontFile}
use Rattle.postscript_sfnt.specs.declared.glyph_names.GlyphNames.{GlyphNames}
use Rattle.postscript_sfnt.specs.declared.metrics.Advances.{Advances}

-- the face with this number, with its table directory at its offset
pub record IsFaceOf (bytes : List ℕ) (face : ℕ) (file : FontFile) : Type 0 where
  pub lent : file.bytes.now ≡ bytes
  pub begins : IsFace bytes face file.start
  pub directory : IsDirectory bytes file.start file.count

-- the number of tables in the directory of a face
abbrev pub tables_of : FontFile → ℕ
tables_of file = file.count

-- the tag of a record
abbrev pub tag_of : FontFile → (i : ℕ) → ℕ
tag_of file i = tag_at file.bytes.now file.start i

abbrev pub IsTableOf : FontFile → (tag : ℕ) → List ℕ → Type 0
IsTableOf file tag table = IsTable file.bytes.now file.start file.count tag table

-- the table with the tag has this offset and size
abbrev pub IsSpanOf : FontFile → (tag offset size : ℕ) → Type 0
IsSpanOf file tag offset size = IsSpan file.bytes.now file.start file.count tag offset size

abbrev pub HasNoTable : FontFile → (tag : ℕ) → Type 0
HasNoTable file tag = (i : ℕ) → i < file.count → Names file.bytes.now file.start tag i → ⊥

-- these are the advances of an `hmtx` table, counted by an `hhea` table
pub record AreAdvancesOf (hhea hmtx : List ℕ) (advances : Advances) : Type 0 where
  pub lent : advances.hmtx.now ≡ hmtx
  pub told : HasAdvances hhea hmtx advances.count

abbrev pub advance_in : Advances → (glyph : ℕ) → ℕ
advance_in advances glyph = advance_of advances.hmtx.now advances.count glyph

-- the `post` table that the glyph names are borrowed from
abbrev pub post_of : GlyphNames → List ℕ
post_of names = names.table.now
