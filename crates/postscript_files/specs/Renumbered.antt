-- The new numbers of glyphs, listed by their old numbers. Only private contracts use this file.
use Rattle.std.specs.Prelude.{◌≡◌, ℕ, ◌<◌, Bool, true, false, List, length, map, slice_index_or}
use Rattle.std.specs.List.{Contains}
use Rattle.postscript_sfnt_write.specs.declared.mapping.Mapping.{Mapping}
use Rattle.postscript_files.specs.Origins.{IsOrigin}

-- the number that is listed for an old glyph is that of a new glyph with this origin
abbrev pub IsNumbered : (origins numbers : List ℕ) → (glyph : ℕ) → Type 0
IsNumbered origins numbers glyph = IsOrigin origins (slice_index_or numbers glyph 0) glyph

abbrev pub AreNumbersOf : (origins numbers : List ℕ) → Type 0
AreNumbersOf origins numbers = (k : ℕ) → k < length origins → IsNumbered origins numbers (slice_index_or origins k 0)

-- a character with the new number of its glyph
abbrev pub renumber : (numbers : List ℕ) → Mapping → Mapping
renumber numbers pair = record { char = pair.char; glyph = slice_index_or numbers pair.glyph 0 }

abbrev pub AreRenumbered : List Mapping → (numbers : List ℕ) → List Mapping → Type 0
AreRenumbered pairs numbers all = all ≡ map (renumber numbers) pairs

-- all origins are below a number
abbrev pub AreBelow : (origins : List ℕ) → (above : ℕ) → Type 0
AreBelow origins above = (k : ℕ) → k < length origins → slice_index_or origins k 0 < above

-- a list of this length: each of these glyphs is at its own index, and 0 is at the other indices
pub record AreSpread (glyphs : List ℕ) (count : ℕ) (spread : List ℕ) : Type 0 where
  pub many : length spread ≡ count
  pub each : (glyph : ℕ) → glyph < count → Contains glyphs glyph → slice_index_or spread glyph 0 ≡ glyph
  pub only : (i : ℕ) → 0 < slice_index_or spread i 0 → (slice_index_or spread i 0 ≡ i) × Contains glyphs i

-- the kept glyphs at their new numbers
abbrev pub ArePlaced : (retain : Bool) → (kept : List ℕ) → (count : ℕ) → (placed : List ℕ) → Type 0
ArePlaced true kept count placed = AreSpread kept count placed
ArePlaced false kept count placed = placed ≡ kept
