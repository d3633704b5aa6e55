-- Advance widths at a location (OpenType 1.9, "hmtx - Horizontal Metrics Table", "HVAR - Horizontal Metrics Variations Table").
use Rattle.std.specs.Prelude.{◌≡◌, ◌⊎◌, ℕ, ◌<◌, ◌≤◌, ℤ, pos, ◌+ℤ◌, ◌*ℤ◌, ◌≤ℤ◌, ◌<ℤ◌, List, length, slice_get, Option, Some, None}
use Rattle.postscript_base.specs.declared.error.Error.TheVariants as causes
use Rattle.postscript_instance.specs.declared.advances.AdvancesAt.{AdvancesAt}
use Rattle.postscript_instance.specs.declared.error.Error.{Error}
use Rattle.postscript_instance.specs.declared.error.Error.TheVariants as errors
use Rattle.postscript_sfnt.specs.Lent.{advance_in}
use Rattle.postscript_variation.specs.LentAdvances.{AdvanceVariesBy, HasNoAdvance, in_whole}
use Rattle.postscript_variation.specs.declared.advances.AdvanceVariations.{AdvanceVariations}

-- The number that is added to the advance of a glyph at normalized coordinates. It is the variation, rounded to the nearest unit, or 0 if
-- the table has none.
abbrev pub IsAdded : Option AdvanceVariations → (glyph : ℕ) → (coordinates : List ℤ) → (added : ℤ) → Type 0
IsAdded None glyph coordinates added = added ≡ pos 0
IsAdded (Some variations) glyph coordinates added =
    ((total : ℤ) × AdvanceVariesBy variations glyph coordinates total × (added ≡ in_whole total))
    ⊎ (HasNoAdvance variations glyph × (added ≡ pos 0))

-- the advance of a glyph at the location: the advance in `hmtx` plus the added number
abbrev pub IsAdvanceAt : AdvancesAt → (glyph : ℕ) → (advance : ℤ) → Type 0
IsAdvanceAt advances glyph advance =
    (added : ℤ) × IsAdded advances.variations glyph advances.coordinates.now added
    × (advance ≡ pos (advance_in advances.default glyph) +ℤ added)

-- the advance can be the width of a charstring: it is from 0 to 32767
abbrev pub HasRoom : ℤ → Type 0
HasRoom advance = (pos 0 ≤ℤ advance) × (advance <ℤ pos 32768)

-- the advance of a glyph, in 16.16 bits
abbrev pub IsOperand : AdvancesAt → (glyph : ℕ) → (operand : ℤ) → Type 0
IsOperand advances glyph operand = (advance : ℤ) × IsAdvanceAt advances glyph advance × HasRoom advance × (operand ≡ advance *ℤ pos 65536)

-- these are the advances of the first `count` glyphs at the location, in 16.16 bits
pub record AreAdvancesAt (advances : AdvancesAt) (count : ℕ) (operands : List ℤ) : Type 0 where
  pub counted : length operands ≡ count
  pub each : (glyph : ℕ) → glyph < count → (operand : ℤ) × (slice_get operands glyph ≡ Some operand) × IsOperand advances glyph operand

-- the advance of the glyph cannot be a width, or the glyph number does not fit into two bytes
abbrev pub HasNoOperand : AdvancesAt → (glyph : ℕ) → Error → Type 0
HasNoOperand advances glyph (errors.Advance number) = (number ≡ glyph) × (advance : ℤ) × IsAdvanceAt advances glyph advance
    × (HasRoom advance → ⊥)
HasNoOperand advances glyph errors.TooLarge = 65536 ≤ glyph
HasNoOperand advances glyph e = ⊥

-- Why there are no advances: the first one that cannot be a width, more than 65,536 glyphs, or out of memory.
abbrev pub LacksRoom : AdvancesAt → (count : ℕ) → Error → Type 0
LacksRoom advances count (errors.Advance glyph) = (glyph < count) × HasNoOperand advances glyph (errors.Advance glyph)
    × ((before : List ℤ) × AreAdvancesAt advances glyph before)
LacksRoom advances count errors.TooLarge = 65536 < count
LacksRoom advances count (errors.Font e) = e ≡ causes.Memory
LacksRoom advances count e = ⊥
