-- The maximum size of a `CFF ` table (Technical Note 5176, sections 3, 5, 10, 13 and 19).
use Rattle.std.specs.Prelude.{ℕ, ◌+◌, ◌⊎◌, ◌<◌, ◌≤◌, List, Option, Some, None, Vec, length}
use Rattle.std.specs.Borrow.{Bor}
use Rattle.std.specs.List.{sum_by}
use Rattle.std.specs.Option.{MatchOption}
use Rattle.std.specs.declared.alloc.Global.{Global}
use Rattle.postscript_cff2.specs.Shown.{view_shown}
use Rattle.postscript_cff2.specs.declared.font.Font.{Font}
use Rattle.postscript_instance.specs.declared.naming.Naming.{Naming}

-- the size in bytes of glyph names, of the given glyph names, if any, and of codes
abbrev pub names_size : List (Bor (List ℕ)) → ℕ
names_size names = sum_by (λ name. length name.now) names

abbrev pub glyphs_size : Option (Bor (List (Bor (List ℕ)))) → ℕ
glyphs_size None = 0
glyphs_size (Some names) = names_size names.now

abbrev pub codes_size : List (Vec ℕ Global) → ℕ
codes_size codes = sum_by (λ code. length code.items) codes

-- There are more names than SIDs after the standard strings, 391 to 64,999. Without names, there are more Font DICTs than FDSelect can
-- number with a byte.
abbrev pub IsCrowded : Font → Naming → Type 0
IsCrowded font naming =
    MatchOption naming.glyphs (256 < length (view_shown font).font_dictionaries) (λ names. 64609 < length names.now)

-- A table is too large if it has at least 65,536 glyphs, or too many names or Font DICTs. It is also too large if its codes, its Private
-- DICTs, its FontMatrix and the names of the font and its glyphs have at least 2,000,000,000 bytes together.
abbrev pub IsTooLarge : Font → Naming → (codes privates : List (Vec ℕ Global)) → (matrix : List ℕ) → Type 0
IsTooLarge font naming codes privates matrix = (65536 ≤ length codes) ⊎ IsCrowded font naming
    ⊎ (2000000000 ≤ length naming.font.now + glyphs_size naming.glyphs + codes_size codes + codes_size privates + length matrix)
