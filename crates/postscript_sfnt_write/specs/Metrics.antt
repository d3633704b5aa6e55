-- Metrics (ISO/IEC 14496-22, `hhea`, `hmtx`, `maxp` and `post`).
use Rattle.std.specs.Prelude.{◌≡◌, ◌⊎◌, ℕ, ◌+◌, ◌*◌, ◌<◌, ◌≤◌, List, Some, length, take, drop, slice_get}
use Rattle.postscript_sfnt.specs.Lent.{AreAdvancesOf, advance_in}
use Rattle.postscript_sfnt.specs.Metrics.{HasAdvances, IsWord, signed}
use Rattle.postscript_sfnt.specs.declared.metrics.Advances.{Advances}
use Rattle.postscript_sfnt_write.specs.declared.error.Error.{Error}
use Rattle.postscript_sfnt_write.specs.declared.error.Error.TheVariants.{Cut, Memory}
use Rattle.postscript_sfnt_write.specs.declared.metrics.Metric.{Metric}

-- the metric of a glyph
abbrev pub IsMetric : List Metric → (glyph : ℕ) → Metric → Type 0
IsMetric metrics glyph metric = slice_get metrics glyph ≡ Some metric

-- The table can be read with each `hhea` table whose number of metrics is not 0 and at most the number here.
abbrev pub CanBeRead : (hmtx : List ℕ) → List Metric → Type 0
CanBeRead hmtx metrics = (hhea : List ℕ) (n : ℕ) → IsWord hhea 34 n → 0 < n → n ≤ length metrics → HasAdvances hhea hmtx n

-- With an `hhea` table that has at most this number of metrics, each glyph below its number has the given advance. An `hhea` table can
-- count up to 65,535 metrics.
abbrev pub TellsAdvances : (hmtx : List ℕ) → List Metric → Type 0
TellsAdvances hmtx metrics = (hhea : List ℕ) (n : ℕ) (advances : Advances) → IsWord hhea 34 n → n ≤ length metrics →
    AreAdvancesOf hhea hmtx advances →
    (glyph : ℕ) (metric : Metric) → glyph < n → IsMetric metrics glyph metric → advance_in advances glyph ≡ metric.advance

-- the left side bearing of each glyph is after its advance
abbrev pub TellsBearings : (hmtx : List ℕ) → List Metric → Type 0
TellsBearings hmtx metrics = (glyph : ℕ) (metric : Metric) → IsMetric metrics glyph metric → signed hmtx (glyph * 4 + 2) ≡ metric.bearing

-- the table is unchanged, except for two bytes at an offset
pub record KeepsBut (place : ℕ) (old new : List ℕ) : Type 0 where
  pub size : length new ≡ length old
  pub before : take place new ≡ take place old
  pub behind : drop (place + 2) new ≡ drop (place + 2) old

-- `Cut` means that the table has fewer than `size` bytes. The only other error is `Memory`.
abbrev pub IsCutBelow : (size : ℕ) → (table : List ℕ) → Error → Type 0
IsCutBelow size table e = (e ≡ Memory) ⊎ ((e ≡ Cut) × (length table < size))
