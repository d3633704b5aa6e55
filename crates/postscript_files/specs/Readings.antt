-- Two readings of one face (ISO/IEC 14496-22, 4.5 and 5.2.1).
use Rattle.std.specs.Prelude.{◌≡◌, ℕ, List}
use Rattle.postscript_sfnt.specs.Lent.{IsTableOf, advance_in}
use Rattle.postscript_sfnt.specs.Maps.{Maps}
use Rattle.postscript_files.specs.Faces.{IsFaceIn}
use Rattle.postscript_files.specs.declared.face.Face.{Face}

-- The faces have the same tables. Their maps give each character the same glyph, and each glyph has the same advance.
pub record Agree (a b : Face) : Type 0 where
  pub tables : (tag : ℕ) (table : List ℕ) → IsTableOf a.file tag table → IsTableOf b.file tag table
  pub cff : b.cff.now ≡ a.cff.now
  pub cmap : b.cmap.now ≡ a.cmap.now
  pub hhea : b.hhea.now ≡ a.hhea.now
  pub hmtx : b.hmtx.now ≡ a.hmtx.now
  pub maxp : b.maxp.now ≡ a.maxp.now
  pub map : (char glyph : ℕ) → Maps a.map char glyph → Maps b.map char glyph
  pub advances : (glyph : ℕ) → advance_in b.advances glyph ≡ advance_in a.advances glyph

-- A law: two readings of the face with a number of a file agree.
abbrev pub ReadingsAgree : Type 0
ReadingsAgree = (bytes : List ℕ) (number : ℕ) (a b : Face) → IsFaceIn bytes number a → IsFaceIn bytes number b → Agree a b
