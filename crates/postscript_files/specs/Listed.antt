-- Tables in the order in which they are put into a list. Only private contracts and proofs use these definitions.
use Rattle.std.specs.Prelude.{◌≡◌, ◌⊎◌, ℕ, ◌+◌, ◌<◌, ◌≤◌, ◌==◌, List, [], ◌∷◌, Some, length, map, slice_get, slice_index_or, if◌then◌else◌}
use Rattle.std.specs.List.{Contains}
use Rattle.postscript_sfnt.specs.Lent.{HasNoTable, IsFaceOf, IsTableOf, tables_of, tag_of}
use Rattle.postscript_sfnt.specs.declared.file.FontFile.{FontFile}
use Rattle.postscript_sfnt_write.specs.Files.{IsSoundFile, Opens}
use Rattle.postscript_sfnt_write.specs.Tables.{IsGiven}
use Rattle.postscript_sfnt_write.specs.declared.file.Table.{Table}
use Rattle.postscript_files.specs.Copies.{AreTooLarge, HasCopy, IsListed, tagged}
use Rattle.postscript_files.specs.Faces.{IsNeeded, cff_tag, cmap_tag, hhea_tag, hmtx_tag, maxp_tag, post_tag}
use Rattle.postscript_files.specs.Others.{Has}
use Rattle.postscript_files.specs.Subsets.{IsExpected, IsTwice, given_tag, times}
use Rattle.postscript_files.specs.declared.choice.Choice.{Choice}
use Rattle.postscript_files.specs.declared.choice.Given.{Given}
use Rattle.postscript_files.specs.declared.error.Error.{Error}
use Rattle.postscript_files.specs.declared.error.Error.TheVariants.{Cut, Memory, SameTag, TooLarge}
use Rattle.postscript_files.specs.declared.face.Face.{Face}
use Rattle.postscript_files.specs.declared.subset.Made.{Made}

-- Tables are added to a list, and the tag of each has this property.
pub record Adds (old : List Table) (IsAdded : ℕ → Type 0) (new : List Table) : Type 0 where
  pub kept : (tag : ℕ) (bytes : List ℕ) → IsListed old tag bytes → IsListed new tag bytes
  pub only : (tag : ℕ) → Has new tag → Has old tag ⊎ IsAdded tag

-- one table is added
pub record Puts (old : List Table) (tag : ℕ) (bytes : List ℕ) (new : List Table) : Type 0 where
  pub adds : Adds old (λ t. t ≡ tag) new
  pub times : (t : ℕ) → tagged new t ≡ tagged old t + (if tag == t then 1 else 0)
  pub there : IsListed new tag bytes

abbrev pub made_tags : List ℕ
made_tags = cff_tag ∷ cmap_tag ∷ hhea_tag ∷ hmtx_tag ∷ maxp_tag ∷ post_tag ∷ []

-- the six tables that are made
pub record AreMade (font : List ℕ) (made : Made) (tables : List Table) : Type 0 where
  pub cff : IsListed tables cff_tag font
  pub cmap : IsListed tables cmap_tag made.cmap.items
  pub hhea : IsListed tables hhea_tag made.hhea.items
  pub hmtx : IsListed tables hmtx_tag made.hmtx.items
  pub maxp : IsListed tables maxp_tag made.maxp.items
  pub post : IsListed tables post_tag made.post.items
  pub only : (tag : ℕ) → Has tables tag → IsNeeded tag ⊎ (tag ≡ post_tag)
  pub times : (tag : ℕ) → tagged tables tag ≡ times made_tags tag

-- the first given tables, up to this index, are in the list
abbrev pub AreGivenTo : List Given → (i : ℕ) → List Table → Type 0
AreGivenTo given i tables = (k : ℕ) (table : Given) → k < i → slice_get given k ≡ Some table → IsListed tables table.tag table.bytes.items

-- the tables of the first tags, up to this index, are in the list, as far as the face has them
abbrev pub AreCopiedTo : FontFile → (tags : List ℕ) → (i : ℕ) → List Table → Type 0
AreCopiedTo file tags i tables = (k : ℕ) (table : List ℕ) → k < i → IsTableOf file (slice_index_or tags k 0) table →
    IsListed tables (slice_index_or tags k 0) table

-- as many tables have a tag as there are given tables with it
abbrev pub CountsGiven : List Given → (old new : List Table) → Type 0
CountsGiven given old new = (tag : ℕ) → tagged new tag ≡ tagged old tag + times (map given_tag given) tag

-- at most as many tables have a tag as it is to be copied, and none if the face has no such table
pub record CountsCopied (file : FontFile) (tags : List ℕ) (old new : List Table) : Type 0 where
  pub none : (tag : ℕ) → HasNoTable file tag → tagged new tag ≡ tagged old tag
  pub most : (tag : ℕ) → tagged new tag ≤ tagged old tag + times tags tag

-- the tables of a new face
pub record AreParts (choice : Choice) (old : FontFile) (font : List ℕ) (made : Made) (tables : List Table) : Type 0 where
  pub cff : IsListed tables cff_tag font
  pub cmap : IsListed tables cmap_tag made.cmap.items
  pub hhea : IsListed tables hhea_tag made.hhea.items
  pub hmtx : IsListed tables hmtx_tag made.hmtx.items
  pub maxp : IsListed tables maxp_tag made.maxp.items
  pub post : IsListed tables post_tag made.post.items
  pub copied : (tag : ℕ) (table : List ℕ) → Contains choice.copied.now tag → IsTableOf old tag table → IsListed tables tag table
  pub given : (i : ℕ) (table : Given) → slice_get choice.given.now i ≡ Some table → IsListed tables table.tag table.bytes.items
  pub only : (i : ℕ) (table : Table) → IsGiven tables i table → IsExpected choice old table.tag

-- these tables, each with a tag of its own, are too large
abbrev pub ArePartsTooLarge : Choice → (old : FontFile) → (font : List ℕ) → Made → Type 0
ArePartsTooLarge choice old font made = (tables : List Table) × AreParts choice old font made tables × ((tag : ℕ) → tagged tables tag ≤ 1)
    × AreTooLarge tables

-- why no file of these tables is written
abbrev pub NoFileOfParts : Choice → (old : FontFile) → (font : List ℕ) → Made → Error → Type 0
NoFileOfParts choice old font made Memory = Unit {0}
NoFileOfParts choice old font made TooLarge = ArePartsTooLarge choice old font made
NoFileOfParts choice old font made (SameTag tag) = IsTwice choice old tag
NoFileOfParts choice old font made _ = ⊥

-- why the tables are not made
abbrev pub IsUnmade : Face → Error → Type 0
IsUnmade face Memory = Unit {0}
IsUnmade face Cut = length face.maxp.now < 6
IsUnmade face _ = ⊥

-- the tables of a new face
pub record HasParts (choice : Choice) (old : FontFile) (font : List ℕ) (made : Made) (new : FontFile) : Type 0 where
  pub cff : IsTableOf new cff_tag font
  pub cmap : IsTableOf new cmap_tag made.cmap.items
  pub hhea : IsTableOf new hhea_tag made.hhea.items
  pub hmtx : IsTableOf new hmtx_tag made.hmtx.items
  pub maxp : IsTableOf new maxp_tag made.maxp.items
  pub post : IsTableOf new post_tag made.post.items
  pub copied : (tag : ℕ) (table : List ℕ) → Contains choice.copied.now tag → IsTableOf old tag table → HasCopy new tag table
  pub given : (i : ℕ) (table : Given) → slice_get choice.given.now i ≡ Some table → HasCopy new table.tag table.bytes.items
  pub only : (i : ℕ) → i < tables_of new → IsExpected choice old (tag_of new i)

-- a sound file with these tables only
pub record IsFileOfParts (choice : Choice) (old : FontFile) (font : List ℕ) (made : Made) (bytes : List ℕ) : Type 0 where
  pub opens : (count : ℕ) × Opens bytes count
  pub sound : IsSoundFile bytes
  pub is : (new : FontFile) → IsFaceOf bytes 0 new → HasParts choice old font made new
