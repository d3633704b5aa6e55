-- The number of glyphs of a variable font, for C. It is the number of charstrings in the `CFF2` table (OpenType 1.9, "CFF2",
-- "CharStringINDEX").
use Rattle.std.specs.Prelude.{◌≡◌, ◌⊎◌, ℕ, ℤ, pos, length}
use Rattle.postscript_c.specs.Varied.{HasFont, HasNoFont}
use Rattle.postscript_c.specs.VariedTold.{unvaried_code}
use Rattle.postscript_c.specs.declared.varied.Unvaried.{Unvaried}
use Rattle.postscript_cff2.specs.Shown.{view_shown}
use Rattle.postscript_cff2.specs.declared.font.Font.{Font}
use Rattle.postscript_sfnt.specs.declared.file.FontFile.{FontFile}

-- On 0 the number is stored. Otherwise the face has no `CFF2` table, or it is rejected, and the number is unchanged.
abbrev pub TellsCountOf : FontFile → (status : ℤ) (old new : ℕ) → Type 0
TellsCountOf file status old new =
    ((font : Font) × HasFont file font × (status ≡ pos 0) × (new ≡ length (view_shown font).char_strings))
    ⊎ ((e : Unvaried) × HasNoFont file e × (status ≡ pos (unvaried_code e)) × (new ≡ old))
