-- Why a file, or a face of it, is rejected. Each error has one cause.
use Rattle.std.specs.Prelude.{◌≡◌, ◌⊎◌, ℕ, ◌+◌, ◌*◌, ◌<◌, ◌≤◌, List, length}
use Rattle.postscript_base.specs.Index.{number_at}
use Rattle.postscript_sfnt.specs.Directory.{IsVersion, IsCollectionVersion, IsCollection, HasFaces, IsFace, collection}
use Rattle.postscript_sfnt.specs.declared.error.Error.{Error}
use Rattle.postscript_sfnt.specs.declared.error.Error.TheVariants.{Cut, UnknownVersion, NoSuchFace}

-- The header is truncated: a file has at least four bytes, and a collection at least twelve.
abbrev pub IsCutHeader : List ℕ → Type 0
IsCutHeader bytes = (length bytes < 4) ⊎ ((4 ≤ length bytes) × (number_at bytes 0 4 ≡ collection) × (length bytes < 12))

-- The file begins with neither a version of a face nor the tag of collections, or it is a collection with an unknown version.
abbrev pub IsStrange : List ℕ → Type 0
IsStrange bytes =
    ((4 ≤ length bytes) × ((number_at bytes 0 4 ≡ collection) → ⊥) × (IsVersion (number_at bytes 0 4) → ⊥))
    ⊎ ((12 ≤ length bytes) × (number_at bytes 0 4 ≡ collection) × (IsCollectionVersion (number_at bytes 4 4) → ⊥))

-- why the number of faces of a file is not known
abbrev pub NoFaces : Error → List ℕ → Type 0
NoFaces Cut bytes = IsCutHeader bytes
NoFaces UnknownVersion bytes = IsStrange bytes
NoFaces NoSuchFace bytes = ⊥

-- the collection lists the face, but its offset is truncated
pub record IsCutPlace (bytes : List ℕ) (face : ℕ) : Type 0 where
  pub header : IsCollection bytes
  pub listed : face < number_at bytes 8 4
  pub wanting : length bytes < 12 + face * 4 + 4

-- why the offset of a face is not known
abbrev pub NoPlace : Error → List ℕ → (face : ℕ) → Type 0
NoPlace Cut bytes face = IsCutHeader bytes ⊎ IsCutPlace bytes face
NoPlace UnknownVersion bytes face = IsStrange bytes
NoPlace NoSuchFace bytes face = (faces : ℕ) × HasFaces bytes faces × (faces ≤ face)

-- why there is no table directory at an offset
abbrev pub NoDirectory : Error → List ℕ → (start : ℕ) → Type 0
NoDirectory Cut bytes start =
    (length bytes < start + 12)
    ⊎ ((start + 12 ≤ length bytes) × IsVersion (number_at bytes start 4) × (length bytes < start + 12 + number_at bytes (start + 4) 2 * 16))
NoDirectory UnknownVersion bytes start = (start + 12 ≤ length bytes) × (IsVersion (number_at bytes start 4) → ⊥)
NoDirectory NoSuchFace bytes start = ⊥

-- why a face is rejected: its offset is not known, or there is no table directory at its offset
abbrev pub NoFace : Error → List ℕ → (face : ℕ) → Type 0
NoFace e bytes face = NoPlace e bytes face ⊎ ((start : ℕ) × IsFace bytes face start × NoDirectory e bytes start)
