-- A file with only some glyphs of a face (ISO/IEC 14496-22, 4.5 and 5.2).
use Rattle.std.specs.Prelude.{◌≡◌, ◌⊎◌, ◌↔◌, ℕ, ℤ, ◌+◌, ◌*◌, ◌^◌, ◌<◌, ◌≤◌, ◌==◌, List, [], ◌∷◌, Bool, true, false, Some, length, map, take, drop, replicate, slice_get, if◌then◌else◌}
use Rattle.std.specs.List.{Contains}
use Rattle.postscript_base.specs.Index.{number_at}
use Rattle.postscript_sfnt.specs.Lent.{HasNoTable, IsTableOf, advance_in, tables_of, tag_of}
use Rattle.postscript_sfnt.specs.Maps.{Maps}
use Rattle.postscript_sfnt.specs.Metrics.{IsGlyphs, IsWord}
use Rattle.postscript_sfnt.specs.declared.file.FontFile.{FontFile}
use Rattle.postscript_sfnt_write.specs.Files.{IsSoundFile, Opens}
use Rattle.postscript_sfnt_write.specs.Headers.{HaveHeaders}
use Rattle.postscript_sfnt_write.specs.Mappings.{AreToldIn4, FitFormat4, HasFormat4, HasOnlyFormat4, in_segments}
use Rattle.postscript_sfnt_write.specs.Metrics.{KeepsBut}
use Rattle.postscript_sfnt_write.specs.Records.{AllAscend, HasRecords}
use Rattle.postscript_sfnt_write.specs.Tables.{IsGiven}
use Rattle.postscript_sfnt_write.specs.declared.file.Table.{Table}
use Rattle.postscript_sfnt_write.specs.declared.mapping.Mapping.{Mapping}
use Rattle.postscript_view.specs.Contents.{View}
use Rattle.postscript_view.specs.Layout.{IsLaidOut}
use Rattle.postscript_view.specs.declared.font.FontView.{FontView}
use Rattle.postscript_write.specs.Components.{AreKept, IsOpened, IsSubset}
use Rattle.postscript_write.specs.Drawings.{DrawsKept, DrawsTheSame}
use Rattle.postscript_write.specs.Kept.{HasAllBy}
use Rattle.postscript_write.specs.Making.{IsFontBy}
use Rattle.postscript_write.specs.SameGlyphs.{GlyphsKept, IsSameGlyph}
use Rattle.postscript_write.specs.Sources.{AreThere, choice_by}
use Rattle.postscript_files.specs.Choices.{AreKeptPairs, AreMappingsOf, IsFirstOf, IsKept, NoneIsMissing, glyphs_of, named_of}
use Rattle.postscript_files.specs.Copies.{AreTooLarge, HasCopy, IsListed, tagged}
use Rattle.postscript_files.specs.Faces.{IsFaceIn, IsNeeded, NoFaceIn, cff_tag, cmap_tag, hhea_tag, hmtx_tag, maxp_tag, post_tag}
use Rattle.postscript_files.specs.Measures.{bearing_in}
use Rattle.postscript_files.specs.Origins.{AreOriginsOf, IsCutRefusedBy, IsKeptGlyph, IsOrigin, KeepsToLimit}
use Rattle.postscript_files.specs.Sequences.{IsNewNumber, IsSequenceGlyph, KeepsSequences, MayHaveAdded, chars_of}
use Rattle.postscript_files.specs.Sound.{IsSoundFont}
use Rattle.postscript_files.specs.declared.choice.Choice.{Choice}
use Rattle.postscript_files.specs.declared.choice.Given.{Given}
use Rattle.postscript_files.specs.declared.error.Error.{Error}
use Rattle.postscript_files.specs.declared.error.Error.TheVariants.{Cut, Font, Memory, MissingCharacter, NoAdvances, SameTag, TooLarge}
use Rattle.postscript_files.specs.declared.face.Face.{Face}

-- The glyphs that a subset is made for: each is chosen, or it is that of a kept character.
abbrev pub AreNamed : Choice → (old : Face) → (named : List ℕ) → Type 0
AreNamed choice old named = (glyph : ℕ) → Contains named glyph →
    Contains (glyphs_of choice) glyph ⊎ ((char : ℕ) × IsKept choice old.map char glyph)

-- The new `CFF ` table is one that `subset` writes, or `subset_keeping` if glyphs keep their numbers.
pub record IsSubsetFont (retain : Bool) (named cff new : List ℕ) : Type 0 where
  pub drawn : DrawsKept (choice_by retain) named cff new
  pub same : GlyphsKept (choice_by retain) named cff new
  pub written : IsSubset (IsFontBy retain) (choice_by retain) named cff new
  pub kept : HasAllBy retain named cff new
  pub sound : IsSoundFont cff new
  pub some : 0 < length named
  pub there : (font : View) → IsLaidOut cff 0 font → AreThere named (length font.char_strings)

-- the left side bearing of a glyph
abbrev pub bearing_of : Face → (glyph : ℕ) → ℤ
bearing_of face glyph = bearing_in face.hmtx.now (number_at face.hhea.now 34 2) glyph

-- A glyph of the new face is like one of the old face, however their fonts are opened. It is drawn with the same segments, and it has the
-- same code without calls, the same name or CID, the same advance in `CFF ` and in `hmtx`, and the same left side bearing.
pub record IsSame (old new : Face) (glyph i : ℕ) : Type 0 where
  pub drawn : (was is : FontView) → IsOpened old.cff.now was → IsOpened new.cff.now is → DrawsTheSame was is glyph i
  pub told : (was is : FontView) → IsOpened old.cff.now was → IsOpened new.cff.now is → IsSameGlyph was is glyph i
  pub advance : advance_in new.advances i ≡ advance_in old.advances glyph
  pub bearing : bearing_of new i ≡ bearing_of old glyph

-- it keeps its number, if glyphs do
abbrev pub KeepsNumber : (retain : Bool) → (glyph i : ℕ) → Type 0
KeepsNumber true glyph i = i ≡ glyph
KeepsNumber false glyph i = Unit {0}

-- the new face has the glyph under this number
abbrev pub HasSame : Choice → (old new : Face) → (glyph i : ℕ) → Type 0
HasSame choice old new glyph i = IsSame old new glyph i × KeepsNumber choice.retain_gids glyph i

-- The best map of the new face has such a glyph for each kept character, and no glyph for other characters.
pub record AreCharacters (choice : Choice) (old new : Face) : Type 0 where
  pub kept : (char glyph : ℕ) → IsKept choice old.map char glyph →
      (i : ℕ) × (0 < i) × Maps new.map char i × HasSame choice old new glyph i
  pub only : (char i : ℕ) → 0 < i → Maps new.map char i → (glyph : ℕ) × IsKept choice old.map char glyph

-- `CFF `, `maxp`, `hhea` and `hmtx` have the same number of glyphs, each with its own advance.
pub record AreCounted (new : Face) (count : ℕ) : Type 0 where
  pub font : (view : View) → IsLaidOut new.cff.now 0 view → length view.char_strings ≡ count
  pub maxp : IsGlyphs new.maxp.now count
  pub hhea : IsWord new.hhea.now 34 count
  pub hmtx : length new.hmtx.now ≡ count * 4

-- the advance in `hmtx` and the left side bearing are those of .notdef
pub record HasNotdefMetrics (old new : Face) (i : ℕ) : Type 0 where
  pub advance : advance_in new.advances i ≡ advance_in old.advances 0
  pub bearing : bearing_of new i ≡ bearing_of old 0

-- New glyph i is old glyph origins[i], and there are no others. If glyphs keep their numbers, this is said of the kept ones, and the others have
-- the metrics of .notdef. The best map gives each kept character the index of its old glyph.
pub record AreInOrder (choice : Choice) (old new : Face) (origins : List ℕ) : Type 0 where
  pub counted : AreCounted new (length origins)
  pub same : (i glyph : ℕ) → IsOrigin origins i glyph → IsKeptGlyph choice old glyph → IsSame old new glyph i
  pub emptied : (i : ℕ) → choice.retain_gids ≡ true → i < length origins → (IsKeptGlyph choice old i → ⊥) → HasNotdefMetrics old new i
  pub maps : (char glyph i : ℕ) → IsKept choice old.map char glyph → Maps new.map char i → IsOrigin origins i glyph

-- The `post` table has version 3.0, which has no names. Its other values are those of the old one, if this has 32 bytes, otherwise 0.
pub record IsPost (old new : Face) (post : List ℕ) : Type 0 where
  pub is : IsTableOf new.file post_tag post
  pub version : number_at post 0 4 ≡ 0x00030000
  pub kept : (was : List ℕ) → IsTableOf old.file post_tag was → 32 ≤ length was → drop 4 post ≡ drop 4 (take 32 was)
  pub lacking : ((was : List ℕ) → IsTableOf old.file post_tag was → length was < 32) → drop 4 post ≡ replicate 28 0

-- the tag of a table that is copied, and that the old face has
abbrev pub IsCopied : FontFile → (tags : List ℕ) → (tag : ℕ) → Type 0
IsCopied file tags tag = Contains tags tag × (HasNoTable file tag → ⊥)

-- the tag of a table of the caller's own
abbrev pub IsGivenTag : List Given → (tag : ℕ) → Type 0
IsGivenTag given tag = (i : ℕ) × (table : Given) × (slice_get given i ≡ Some table) × (table.tag ≡ tag)

-- the tag of a table that is made, copied or given
abbrev pub IsExpected : Choice → (old : FontFile) → (tag : ℕ) → Type 0
IsExpected choice old tag = IsNeeded tag ⊎ ((tag ≡ post_tag) ⊎ (IsCopied old choice.copied.now tag ⊎ IsGivenTag choice.given.now tag))

-- In `cmap` each subtable has its length, the language 0 and, in format 4, its search fields. One of them has format 4, for the first plane of
-- Unicode on Windows. Those of format 4 map the characters of the best map below U+FFFF, to the same glyphs, or none if these characters
-- form more than 8,000 segments. Each has format 4 if this has room for all characters of the best map. The encoding records are in order,
-- and so are the segments and groups. A subtable of variation sequences may be added to such a table.
pub record IsCmap (new : Face) : Type 0 where
  pub plain : List ℕ
  pub added : MayHaveAdded plain new.cmap.now
  pub headers : HaveHeaders plain
  pub format4 : HasFormat4 new.cmap.now
  pub mappings : List Mapping
  pub are : AreMappingsOf new.map mappings
  pub told_in_4 : AreToldIn4 new.cmap.now (in_segments mappings)
  pub only : FitFormat4 mappings → HasOnlyFormat4 plain
  pub records : HasRecords plain
  pub ascend : AllAscend new.cmap.now

-- The `cmap` table has the variation sequences of the kept characters: all without a glyph of their own, and those whose glyph is kept, under
-- its new number. It has no others.
pub record HasSequences (choice : Choice) (old new : Face) : Type 0 where
  pub pairs : List Mapping
  pub are : AreKeptPairs choice old.map pairs
  pub kept : List ℕ
  pub glyphs : AreKept (named_of (glyphs_of choice) pairs) old.cff.now kept
  pub sequences : KeepsSequences old.cmap.now (chars_of pairs) (IsNewNumber choice.retain_gids kept) new.cmap.now

-- the glyphs of the variation sequences of kept characters
abbrev pub AreSequenceGlyphs : Choice → Face → (glyphs : List ℕ) → Type 0
AreSequenceGlyphs choice face glyphs = (pairs : List Mapping) × AreKeptPairs choice face.map pairs
    × ((glyph : ℕ) → Contains glyphs glyph ↔ IsSequenceGlyph face.cmap.now (chars_of pairs) glyph)

-- a face is a subset of another one
pub record IsSubsetFace (choice : Choice) (old new : Face) : Type 0 where
  pub named : List ℕ
  pub are : AreNamed choice old named
  pub font : IsSubsetFont choice.retain_gids named old.cff.now new.cff.now
  pub glyphs : (glyph : ℕ) → Contains (glyphs_of choice) glyph → (i : ℕ) × HasSame choice old new glyph i
  pub characters : AreCharacters choice old new
  pub ordered : (origins : List ℕ) → AreOriginsOf choice old origins → AreInOrder choice old new origins
  pub counted : (count : ℕ) × AreCounted new count
  pub cmap : IsCmap new
  pub sequences : HasSequences choice old new
  pub hhea : KeepsBut 34 old.hhea.now new.hhea.now
  pub maxp : KeepsBut 4 old.maxp.now new.maxp.now
  pub post : (post : List ℕ) × IsPost old new post
  pub copied : (tag : ℕ) (table : List ℕ) → Contains choice.copied.now tag → IsTableOf old.file tag table → HasCopy new.file tag table
  pub given : (i : ℕ) (table : Given) → slice_get choice.given.now i ≡ Some table → HasCopy new.file table.tag table.bytes.items
  pub only : (i : ℕ) → i < tables_of new.file → IsExpected choice old.file (tag_of new.file i)

-- The old file has the face, with all characters that are asked for unless missing ones are left out. If there is a limit, the runs of the
-- kept glyphs share it. The new file is sound. It has one face, of version "OTTO", which opens, and it is such a subset however it is opened.
pub record IsSubsetOf (choice : Choice) (bytes : List ℕ) (number : ℕ) (file : List ℕ) : Type 0 where
  pub old : Face
  pub was : IsFaceIn bytes number old
  pub opens : (count : ℕ) × Opens file count
  pub sound : IsSoundFile file
  pub all : choice.lenient ≡ false → NoneIsMissing old.map choice.chars.now
  pub within : KeepsToLimit choice old
  pub there : (new : Face) × IsFaceIn file 0 new
  pub is : (new : Face) → IsFaceIn file 0 new → IsSubsetFace choice old new

-- The face has all characters that are asked for, unless missing ones are left out. If there is a limit, the runs of the kept glyphs share
-- it. The new file is sound. It has one face, of version "OTTO", which opens, and it is a subset of this face however it is opened.
pub record IsSubsetFile (choice : Choice) (old : Face) (file : List ℕ) : Type 0 where
  pub opens : (count : ℕ) × Opens file count
  pub sound : IsSoundFile file
  pub all : choice.lenient ≡ false → NoneIsMissing old.map choice.chars.now
  pub within : KeepsToLimit choice old
  pub there : (new : Face) × IsFaceIn file 0 new
  pub is : (new : Face) → IsFaceIn file 0 new → IsSubsetFace choice old new

-- how often a number is in a list
abbrev pub times : List ℕ → (n : ℕ) → ℕ
times [] n = 0
times (x ∷ xs) n = (if x == n then 1 else 0) + times xs n

abbrev pub given_tag : Given → ℕ
given_tag table = table.tag

-- how often a tag is among those of the six tables that are made, and of the given tables
abbrev pub times_put : Choice → (tag : ℕ) → ℕ
times_put choice tag = times (cff_tag ∷ cmap_tag ∷ hhea_tag ∷ hmtx_tag ∷ maxp_tag ∷ post_tag ∷ []) tag
    + times (map given_tag choice.given.now) tag

-- Two tables of the new file would have this tag. The tags that are to be copied count if the old face has the table.
abbrev pub IsTwice : Choice → (old : FontFile) → (tag : ℕ) → Type 0
IsTwice choice old tag = (2 ≤ times_put choice tag)
    ⊎ ((HasNoTable old tag → ⊥) × (2 ≤ times_put choice tag + times choice.copied.now tag))

-- the list has a table with this tag, whose bytes have this property
abbrev pub HasTable : List Table → (tag : ℕ) → (Is : List ℕ → Type 0) → Type 0
HasTable tables tag Is = (bytes : List ℕ) × IsListed tables tag bytes × Is bytes

-- The tables of the file of a subset, each with a tag of its own: `CFF ` with the glyphs, five more that are made, and the tables that are
-- copied and given.
pub record AreTablesOf (choice : Choice) (old : Face) (tables : List Table) : Type 0 where
  pub named : List ℕ
  pub are : AreNamed choice old named
  pub cff : HasTable tables cff_tag (λ cff. IsSubsetFont choice.retain_gids named old.cff.now cff)
  pub cmap : HasTable tables cmap_tag (λ cmap. (plain : List ℕ) × (length plain < 2 ^ 24) × MayHaveAdded plain cmap)
  pub hhea : HasTable tables hhea_tag (λ hhea. length hhea ≡ length old.hhea.now)
  pub hmtx : HasTable tables hmtx_tag (λ hmtx. length hmtx < 2 ^ 18)
  pub maxp : HasTable tables maxp_tag (λ maxp. length maxp ≡ length old.maxp.now)
  pub post : HasTable tables post_tag (λ post. length post ≡ 32)
  pub copied : (tag : ℕ) (table : List ℕ) → Contains choice.copied.now tag → IsTableOf old.file tag table → IsListed tables tag table
  pub given : (i : ℕ) (table : Given) → slice_get choice.given.now i ≡ Some table → IsListed tables table.tag table.bytes.items
  pub only : (i : ℕ) (table : Table) → IsGiven tables i table → IsExpected choice old.file table.tag
  pub once : (tag : ℕ) → tagged tables tag ≤ 1

-- these tables are too large for a file
abbrev pub IsSubsetTooLarge : Choice → (old : Face) → Type 0
IsSubsetTooLarge choice old = (tables : List Table) × AreTablesOf choice old tables × AreTooLarge tables

-- why no subset of the face is written
abbrev pub NoSubsetFrom : Choice → (old : Face) → Error → Type 0
NoSubsetFrom choice old Memory = Unit {0}
NoSubsetFrom choice old TooLarge = IsSubsetTooLarge choice old
NoSubsetFrom choice old Cut = length old.maxp.now < 6
NoSubsetFrom choice old (MissingCharacter char) = (choice.lenient ≡ false) × IsFirstOf old.map choice.chars.now char
NoSubsetFrom choice old (SameTag tag) = IsTwice choice old.file tag
NoSubsetFrom choice old (Font e) = (pairs : List Mapping) × AreKeptPairs choice old.map pairs
    × IsCutRefusedBy choice.limit choice.retain_gids (named_of (glyphs_of choice) pairs) old.cff.now e
NoSubsetFrom choice old _ = ⊥

-- No subset of the face is written, or its `hhea` table is truncated.
abbrev pub NoSubsetBy : Choice → (old : Face) → Error → Type 0
NoSubsetBy choice old NoAdvances = length old.hhea.now < 36
NoSubsetBy choice old e = NoSubsetFrom choice old e

-- There is no such face, or no subset of it.
abbrev pub NoSubsetOf : Choice → (bytes : List ℕ) → (number : ℕ) → Error → Type 0
NoSubsetOf choice bytes number e = NoFaceIn e bytes number ⊎ ((old : Face) × IsFaceIn bytes number old × NoSubsetFrom choice old e)
