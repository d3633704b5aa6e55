-- Results for a face of a file.
use Rattle.std.specs.Prelude.{◌≡◌, ◌⊎◌, ℕ, ℤ, pos, List}
use Rattle.postscript_c.specs.Files.{file_code}
use Rattle.postscript_sfnt.specs.Lent.{IsFaceOf}
use Rattle.postscript_sfnt.specs.Refusals.{NoFace}
use Rattle.postscript_sfnt.specs.declared.error.Error.{Error}
use Rattle.postscript_sfnt.specs.declared.file.FontFile.{FontFile}

-- The result for a face. If there is no such face, the status says why, and all outputs are unchanged.
abbrev pub TellsOfFace : (bytes : List ℕ) (face : ℕ) (status : ℤ) → (FontFile → Type 0) → (same : Type 0) → Type 0
TellsOfFace bytes face status tells same =
    ((file : FontFile) × IsFaceOf bytes face file × tells file)
    ⊎ ((e : Error) × (status ≡ pos (file_code e)) × NoFace e bytes face × same)
