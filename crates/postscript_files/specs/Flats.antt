-- A file of a face without subroutines.
use Rattle.std.specs.Prelude.{◌≡◌, ◌≢◌, ◌⊎◌, ℕ, ◌<◌, List, ◌∷◌, length}
use Rattle.std.specs.List.{sum_by}
use Rattle.postscript_sfnt.specs.Lent.{HasNoTable, IsFaceOf, IsTableOf, tables_of, tag_of}
use Rattle.postscript_sfnt.specs.Refusals.{NoFace}
use Rattle.postscript_sfnt.specs.declared.file.FontFile.{FontFile}
use Rattle.postscript_sfnt_write.specs.Files.{IsSoundFile, Opens}
use Rattle.postscript_sfnt_write.specs.Tables.{IsGiven}
use Rattle.postscript_sfnt_write.specs.declared.file.Table.{Table}
use Rattle.postscript_write.specs.Drawings.{KeepsDrawings}
use Rattle.postscript_write.specs.Making.{IsKeptFont}
use Rattle.postscript_write.specs.Refusals.{HasOtherFonts, IsRefusedBy, NeedsNoName}
use Rattle.postscript_write.specs.SameGlyphs.{KeepsGlyphs}
use Rattle.postscript_write.specs.Sources.{IsWritten, every}
use Rattle.postscript_write.specs.declared.error.Error.{Error as Refusal}
use Rattle.postscript_write.specs.declared.error.Error.TheVariants.{SeveralFonts}
use Rattle.postscript_files.specs.Copies.{AreTooLarge, HasCopy}
use Rattle.postscript_files.specs.Faces.{OfFile, cff_tag}
use Rattle.postscript_files.specs.Sound.{IsSoundFont}
use Rattle.postscript_files.specs.declared.error.Error.{Error}
use Rattle.postscript_files.specs.declared.error.Error.TheVariants.{File, Font, Memory, MissingTable, Overlap, TooLarge}

-- The new `CFF ` table is one that `flat_font` writes.
pub record IsFlatFont (cff new : List ℕ) : Type 0 where
  pub drawn : KeepsDrawings every cff new
  pub same : KeepsGlyphs every cff new
  pub written : IsWritten IsKeptFont every cff new
  pub sound : IsSoundFont cff new

-- the tag of the digital signature, which would not be valid for the new file: "DSIG"
abbrev pub dsig_tag : ℕ
dsig_tag = 0x44534947

-- a table that is copied
abbrev pub Stays : (tag : ℕ) → Type 0
Stays tag = (tag ≢ cff_tag) × (tag ≢ dsig_tag)

-- The new face has another `CFF ` table, copies of all other tables of the old one but its signature, and no others. So it has the
-- characters, metrics and layout of the old one.
pub record IsFlatFace (old new : FontFile) : Type 0 where
  pub was : List ℕ
  pub is : List ℕ
  pub had : IsTableOf old cff_tag was
  pub has : IsTableOf new cff_tag is
  pub font : IsFlatFont was is
  pub others : (tag : ℕ) (table : List ℕ) → Stays tag → IsTableOf old tag table → HasCopy new tag table
  pub only : (i : ℕ) → i < tables_of new → (tag_of new i ≡ cff_tag) ⊎ (Stays (tag_of new i) × (HasNoTable old (tag_of new i) → ⊥))

-- The old file has the face. The new file is sound. It has one face, of version "OTTO", and it is such a face however it is read.
pub record IsFlatOf (bytes : List ℕ) (number : ℕ) (file : List ℕ) : Type 0 where
  pub old : FontFile
  pub was : IsFaceOf bytes number old
  pub opens : (count : ℕ) × Opens file count
  pub sound : IsSoundFile file
  pub is : (new : FontFile) → IsFaceOf file 0 new → IsFlatFace old new

-- The list has the tables of a face that are copied, each once. If two records have a tag, its table is that of the first one.
pub record AreStaying (old : FontFile) (tables : List Table) : Type 0 where
  pub each : (i : ℕ) (t : Table) → IsGiven tables i t → Stays t.tag × IsTableOf old t.tag t.bytes.now
  pub all : (tag : ℕ) (table : List ℕ) → Stays tag → IsTableOf old tag table → (i : ℕ) × (t : Table) × IsGiven tables i t × (t.tag ≡ tag)
  pub once : (i j : ℕ) (a b : Table) → i < j → IsGiven tables i a → IsGiven tables j b → a.tag ≢ b.tag

-- The tables that are copied have more than this number of bytes together.
pub record StayingHaveMore (old : FontFile) (most : ℕ) : Type 0 where
  pub tables : List Table
  pub are : AreStaying old tables
  pub more : most < sum_by (λ (t : Table). length t.bytes.now) tables

-- The tables that would be written are too large: another `CFF ` table, and the tables that are copied.
pub record IsFlatTooLarge (old : FontFile) (font : List ℕ) : Type 0 where
  pub first : Table
  pub rest : List Table
  pub named : first.tag ≡ cff_tag
  pub is : first.bytes.now ≡ font
  pub stay : AreStaying old rest
  pub too_large : AreTooLarge (first ∷ rest)

-- why a `CFF ` table is not written without subroutines, as `flat_font` says
pub record IsFlatRefusedBy (cff : List ℕ) (e : Refusal) : Type 0 where
  pub why : IsRefusedBy every cff e
  pub names : NeedsNoName e
  pub several : HasOtherFonts cff → e ≡ SeveralFonts

-- why no such file is written
abbrev pub NoFlatOf : (bytes : List ℕ) → (number : ℕ) → Error → Type 0
NoFlatOf bytes number (File e) = NoFace e bytes number
NoFlatOf bytes number (MissingTable tag) = (tag ≡ cff_tag) × OfFile bytes number (λ old. HasNoTable old cff_tag)
NoFlatOf bytes number (Font e) = OfFile bytes number (λ old. (cff : List ℕ) × IsTableOf old cff_tag cff × IsFlatRefusedBy cff e)
NoFlatOf bytes number Memory = Unit {0}
NoFlatOf bytes number Overlap = OfFile bytes number (λ old. StayingHaveMore old (length bytes))
NoFlatOf bytes number TooLarge = OfFile bytes number (λ old. (cff font : List ℕ) × IsTableOf old cff_tag cff × IsFlatFont cff font
    × IsFlatTooLarge old font)
NoFlatOf bytes number _ = ⊥
