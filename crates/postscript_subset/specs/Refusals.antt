-- Errors of the search for lookups and glyphs. Only private contracts and proofs use these definitions.
use Rattle.std.specs.Prelude.{◌≡◌, ◌⊎◌, ℕ, ◌<◌, List}
use Rattle.std.specs.List.{Contains}
use Rattle.postscript_files.specs.declared.error.Error.TheVariants as causes
use Rattle.postscript_layout.specs.declared.error.Error.{Error as Search}
use Rattle.postscript_layout.specs.declared.error.Error.TheVariants as searches
use Rattle.postscript_subset.specs.declared.error.Error.{Error}
use Rattle.postscript_subset.specs.declared.error.Error.TheVariants as errors

-- the error of a search
abbrev pub IsSearchError : Search → Error → Type 0
IsSearchError searches.TooLong e = e ≡ errors.TooLong
IsSearchError searches.Memory e = e ≡ errors.File causes.Memory

-- memory runs out, or nothing is left of the limit
abbrev pub IsSearched : (left : ℕ) → Error → Type 0
IsSearched left e = (e ≡ errors.File causes.Memory) ⊎ ((e ≡ errors.TooLong) × (left ≡ 0))

-- memory runs out, or one of the glyphs has a number above 65,535
abbrev pub IsWide : (glyphs : List ℕ) → Error → Type 0
IsWide glyphs e = (e ≡ errors.File causes.Memory)
    ⊎ ((glyph : ℕ) × (e ≡ errors.LargeGlyph glyph) × Contains glyphs glyph × (65535 < glyph))
