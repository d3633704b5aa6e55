-- The characters that a subset needs, so that a shaper sets text of some characters as with the whole face.
use Rattle.std.specs.Prelude.{◌≡◌, ◌⊎◌, ℕ, List, map}
use Rattle.postscript_files.specs.Faces.{IsFaceIn, NoFaceIn}
use Rattle.postscript_files.specs.declared.error.Error.{Error as Cause}
use Rattle.postscript_files.specs.declared.error.Error.TheVariants as causes
use Rattle.postscript_files.specs.declared.face.Face.{Face}
use Rattle.postscript_sfnt.specs.Maps.{AreAll}
use Rattle.postscript_sfnt.specs.declared.character_map.CharacterMap.{CharacterMap}
use Rattle.postscript_shaping.specs.Shaping.{AreUsed}
use Rattle.postscript_subset.specs.declared.error.Error.{Error}
use Rattle.postscript_subset.specs.declared.error.Error.TheVariants as errors

-- all characters that a map gives a glyph, in ascending order
abbrev pub AreMapped : CharacterMap → (chars : List ℕ) → Type 0
AreMapped cmap chars = (all : List (ℕ × ℕ)) × AreAll cmap 0 all × (chars ≡ map (λ next. next.0) all)

-- the characters that a shaper may use for a text of some characters, in a face
pub record AreTextChars (bytes : List ℕ) (number : ℕ) (chars all : List ℕ) : Type 0 where
  pub face : Face
  pub is : IsFaceIn bytes number face
  pub mapped : List ℕ
  pub are : AreMapped face.map mapped
  pub used : AreUsed mapped chars all

-- the face is not opened, or memory runs out
abbrev pub NoTextChars : (bytes : List ℕ) → (number : ℕ) → Error → Type 0
NoTextChars bytes number e = (cause : Cause) × (e ≡ errors.File cause) × ((cause ≡ causes.Memory) ⊎ NoFaceIn cause bytes number)
