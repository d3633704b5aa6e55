-- The advance and the left side bearing of a glyph (ISO/IEC 14496-22, 5.2.4 `hmtx`).
use Rattle.std.specs.Prelude.{ℕ, ℤ, pos, ◌+◌, ◌*◌, List, length, if◌then◌else◌, nat_lt}
use Rattle.postscript_sfnt.specs.Lent.{advance_in}
use Rattle.postscript_sfnt.specs.Metrics.{signed}
use Rattle.postscript_sfnt.specs.declared.metrics.Advances.{Advances}
use Rattle.postscript_sfnt_write.specs.declared.metrics.Metric.{Metric}

-- The offset of a left side bearing: it follows the advance of its glyph. The bearings of glyphs without their own advance follow these
-- pairs.
abbrev pub bearing_place : (advances glyph : ℕ) → ℕ
bearing_place advances glyph = if nat_lt glyph advances then glyph * 4 + 2 else (glyph + advances) * 2

-- the bearing of a glyph, or 0 if it is truncated
abbrev pub bearing_in : (hmtx : List ℕ) → (advances glyph : ℕ) → ℤ
bearing_in hmtx advances glyph =
    if nat_lt (length hmtx) (bearing_place advances glyph + 2) then pos 0 else signed hmtx (bearing_place advances glyph)

abbrev pub metric_in : Advances → (hmtx : List ℕ) → (advances glyph : ℕ) → Metric
metric_in told hmtx advances glyph = record { advance = advance_in told glyph; bearing = bearing_in hmtx advances glyph }
