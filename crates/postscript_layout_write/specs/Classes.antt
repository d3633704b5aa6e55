-- The glyph classes of the GDEF table (OpenType 1.9, "GDEF - Glyph Definition Table"; ISO/IEC 14496-22, 6.3.2): 1 base, 2 ligature, 3 mark,
-- 4 component.
use Rattle.std.specs.Prelude.{◌≡◌, ℕ, ◌<◌, ◌≤◌, ◌==◌, List, length, nat_lt, slice_index, if◌then◌else◌}
use Rattle.postscript_layout.specs.Numbers.{word}
use Rattle.postscript_layout_write.specs.Ranges.{class_of}
use Rattle.postscript_layout_write.specs.declared.error.Error.{Error}
use Rattle.postscript_layout_write.specs.declared.error.Error.TheVariants.{ListsTooLong, Memory, TooLarge, TooLong}

-- a class of 1 to 4, or 0 for any other number
abbrev pub known : (class : ℕ) → ℕ
known class = if nat_lt 4 class then 0 else class

-- the class of a glyph; the offset 0 says that there are no classes
abbrev pub glyph_class : List ℕ → (glyph : ℕ) → ℕ
glyph_class gdef glyph = if word gdef 4 == 0 then 0 else known (class_of gdef (word gdef 4) glyph)

-- The new table has version 1.0 and glyph classes only. Each kept glyph has its class, and other numbers have none.
pub record KeepsClasses (old kept new : List ℕ) : Type 0 where
  pub version : (word new 0 ≡ 1) × (word new 2 ≡ 0)
  pub only : (word new 6 ≡ 0) × (word new 8 ≡ 0) × (word new 10 ≡ 0)
  pub same : (k : ℕ) → k < length kept → glyph_class new k ≡ glyph_class old (slice_index kept k)
  pub none : (k : ℕ) → length kept ≤ k → glyph_class new k ≡ 0

-- entry k is the class of kept glyph k
pub record AreClasses (gdef kept classes : List ℕ) : Type 0 where
  pub many : length classes ≡ length kept
  pub small : (k : ℕ) → k < length classes → slice_index classes k < 5
  pub each : (k : ℕ) → k < length classes → slice_index classes k ≡ glyph_class gdef (slice_index kept k)

-- the cause of each error
abbrev pub RefusesClasses : Error → (kept : List ℕ) → (left : ℕ) → Type 0
RefusesClasses Memory kept left = Unit {0}
RefusesClasses TooLong kept left = left ≡ 0
RefusesClasses TooLarge kept left = 65535 < length kept
RefusesClasses ListsTooLong kept left = ⊥
