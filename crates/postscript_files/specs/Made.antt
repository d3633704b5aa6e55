-- The tables that are made. Only private contracts, laws and proofs use these definitions.
use Rattle.std.specs.Prelude.{◌≡◌, ◌⊎◌, ℕ, ◌+◌, ◌*◌, ◌<◌, ◌≤◌, Bool, List, Option, length, map, take, drop, replicate, slice_index_or}
use Rattle.postscript_base.specs.Index.{number_at}
use Rattle.postscript_sfnt.specs.Lent.{IsTableOf}
use Rattle.postscript_sfnt.specs.Metrics.{IsGlyphs, IsWord}
use Rattle.postscript_sfnt.specs.declared.file.FontFile.{FontFile}
use Rattle.postscript_sfnt_write.specs.Files.{IsSoundFile, Opens}
use Rattle.postscript_sfnt_write.specs.Headers.{HaveHeaders}
use Rattle.postscript_sfnt_write.specs.Mappings.{AreTold, AreToldIn4, FitFormat4, HasFormat4, HasOnlyFormat4, IsReadable, in_segments}
use Rattle.postscript_sfnt_write.specs.Metrics.{CanBeRead, KeepsBut, TellsAdvances, TellsBearings}
use Rattle.postscript_sfnt_write.specs.Records.{AllAscend, HasRecords}
use Rattle.postscript_sfnt_write.specs.Sequences.{AreClosed}
use Rattle.postscript_sfnt_write.specs.declared.mapping.Mapping.{Mapping}
use Rattle.postscript_sfnt_write.specs.declared.metrics.Metric.{Metric}
use Rattle.postscript_view.specs.declared.font.FontView.{FontView}
use Rattle.postscript_write.specs.Components.{AreKept, IsOpened}
use Rattle.postscript_write.specs.Drawings.{DrawsKept, DrawsTheSame}
use Rattle.postscript_write.specs.SameGlyphs.{GlyphsKept, IsSameGlyph}
use Rattle.postscript_write.specs.Sources.{chosen}
use Rattle.postscript_write.specs.declared.error.Error.{Error as Refusal}
use Rattle.postscript_files.specs.Faces.{IsFaceIn, post_tag}
use Rattle.postscript_files.specs.Measures.{metric_in}
use Rattle.postscript_files.specs.Origins.{AreSmall, IsCutRefusedBy, IsOrigin, KeepsToLimit}
use Rattle.postscript_files.specs.Renumbered.{AreNumbersOf, AreRenumbered}
use Rattle.postscript_files.specs.Sequences.{IsFirstIndex, IsMapLike, KeepsSequences, chars_of}
use Rattle.postscript_files.specs.Subsets.{IsSubsetFace}
use Rattle.postscript_files.specs.declared.choice.Choice.{Choice}
use Rattle.postscript_files.specs.declared.error.Error.{Error}
use Rattle.postscript_files.specs.declared.error.Error.TheVariants as errors
use Rattle.postscript_files.specs.declared.face.Face.{Face}
use Rattle.postscript_files.specs.declared.subset.Made.{Made}

-- Each glyph that `kept_glyphs` returns is like the glyph at its index in the font that `subset` writes.
abbrev pub KeptAreTheSame : Type 0
KeptAreTheSame = (named cff flat kept : List ℕ) → AreKept named cff kept → DrawsKept chosen named cff flat →
    GlyphsKept chosen named cff flat → (i glyph : ℕ) → IsOrigin kept i glyph → (was is : FontView) → IsOpened cff was →
    IsOpened flat is → DrawsTheSame was is glyph i × IsSameGlyph was is glyph i

-- these are bytes
abbrev pub AreBytes : List ℕ → Type 0
AreBytes bytes = (i : ℕ) → slice_index_or bytes i 0 < 256

-- a `cmap` table of characters, with the new numbers of their glyphs, and without variation sequences
pub record IsPlainMap (pairs : List Mapping) (origins cmap : List ℕ) : Type 0 where
  pub mappings : List Mapping
  pub numbers : List ℕ
  pub numbered : AreNumbersOf origins numbers
  pub are : AreRenumbered pairs numbers mappings
  pub readable : IsReadable cmap
  pub told : AreTold cmap mappings
  pub headers : HaveHeaders cmap
  pub format4 : HasFormat4 cmap
  pub told_in_4 : AreToldIn4 cmap (in_segments mappings)
  pub only : FitFormat4 mappings → HasOnlyFormat4 cmap
  pub records : HasRecords cmap
  pub ascend : AllAscend cmap
  pub closed : AreClosed cmap
  pub size : length cmap ≤ 64076 + length pairs * 12

-- the same with the variation sequences of these characters in the old table, whose glyphs are placed at their new numbers
pub record IsMapOf (old : List ℕ) (pairs : List Mapping) (origins placed cmap : List ℕ) : Type 0 where
  pub plain : List ℕ
  pub is : IsPlainMap pairs origins plain
  pub like : IsMapLike plain cmap
  pub sequences : KeepsSequences old (chars_of pairs) (IsFirstIndex placed) cmap

-- a `post` table without names, with the other values of the old one, or zeros
pub record IsPostOf (file : FontFile) (post : List ℕ) : Type 0 where
  pub version : number_at post 0 4 ≡ 0x00030000
  pub kept : (was : List ℕ) → IsTableOf file post_tag was → 32 ≤ length was → drop 4 post ≡ drop 4 (take 32 was)
  pub lacking : ((was : List ℕ) → IsTableOf file post_tag was → length was < 32) → drop 4 post ≡ replicate 28 0

-- an `hmtx` table with the metrics of these glyphs
pub record IsHmtxOf (face : Face) (glyphs hmtx : List ℕ) : Type 0 where
  pub metrics : List Metric
  pub are : metrics ≡ map (metric_in face.advances face.hmtx.now (number_at face.hhea.now 34 2)) glyphs
  pub size : length hmtx ≡ length metrics * 4
  pub read : CanBeRead hmtx metrics
  pub advances : TellsAdvances hmtx metrics
  pub bearings : TellsBearings hmtx metrics

-- the tables that are made for characters, for the origins of the new glyphs, and for the kept glyphs at their new numbers
pub record IsMade (face : Face) (pairs : List Mapping) (origins placed : List ℕ) (made : Made) : Type 0 where
  pub small : AreSmall origins
  pub cmap : IsMapOf face.cmap.now pairs origins placed made.cmap.items
  pub cmap_bytes : AreBytes made.cmap.items
  pub hhea : IsWord made.hhea.items 34 (length origins)
  pub hhea_kept : KeepsBut 34 face.hhea.now made.hhea.items
  pub hmtx : IsHmtxOf face placed made.hmtx.items
  pub maxp : IsGlyphs made.maxp.items (length origins)
  pub maxp_kept : KeepsBut 4 face.maxp.now made.maxp.items
  pub post : IsPostOf face.file made.post.items
  pub post_size : length made.post.items ≡ 32

-- why the origins are not found
abbrev pub HasNoOrigins : Option ℕ → (retain : Bool) → (named cff : List ℕ) → Error → Type 0
HasNoOrigins limit retain named cff e = (e ≡ errors.Memory)
    ⊎ ((fault : Refusal) × (e ≡ errors.Font fault) × IsCutRefusedBy limit retain named cff fault)

-- A sound file that opens, and whose face is a subset of this one however it is read. If there is a limit, the kept glyphs share it.
pub record IsCutFile (choice : Choice) (old : Face) (file : List ℕ) : Type 0 where
  pub within : KeepsToLimit choice old
  pub opens : (count : ℕ) × Opens file count
  pub sound : IsSoundFile file
  pub there : (new : Face) × IsFaceIn file 0 new
  pub is : (new : Face) → IsFaceIn file 0 new → IsSubsetFace choice old new
