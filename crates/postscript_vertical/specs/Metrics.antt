-- Vertical metrics (OpenType 1.9, "vhea - Vertical Header Table" and "vmtx - Vertical Metrics Table").
use Rattle.std.specs.Prelude.{◌≡◌, ℕ, ◌+◌, ◌-◌, ◌*◌, ◌<◌, ◌≤◌, List, length, min, take, drop, slice_index, nat_lt, if◌then◌else◌}
use Rattle.postscript_vertical.specs.Numbers.{word}

-- the number of glyphs that have an advance height of their own
abbrev pub metrics_in : (vhea : List ℕ) → ℕ
metrics_in vhea = word vhea 34

-- The tables can be read: the header is whole and counts at least one metric, and `vmtx` has all of them.
pub record HaveMetrics (vhea vmtx : List ℕ) : Type 0 where
  pub header : 36 ≤ length vhea
  pub some : 0 < metrics_in vhea
  pub room : metrics_in vhea * 4 ≤ length vmtx

-- the advance height of a glyph; glyphs after the last metric have the last advance height
abbrev pub advance_of : (vmtx : List ℕ) → (metrics glyph : ℕ) → ℕ
advance_of vmtx metrics glyph = word vmtx (min glyph (metrics - 1) * 4)

-- The offset of a top side bearing: it follows the advance height of its glyph. The bearings of glyphs without their own advance height follow
-- the metrics.
abbrev pub bearing_at : (metrics glyph : ℕ) → ℕ
bearing_at metrics glyph = if nat_lt glyph metrics then glyph * 4 + 2 else (glyph + metrics) * 2

-- the top side bearing of a glyph, or 0 if it is truncated; a negative bearing n is n + 65536
abbrev pub bearing_of : (vmtx : List ℕ) → (metrics glyph : ℕ) → ℕ
bearing_of vmtx metrics glyph = if nat_lt (length vmtx) (bearing_at metrics glyph + 2) then 0 else word vmtx (bearing_at metrics glyph)

-- the header has this number of metrics, and is otherwise unchanged
pub record IsHeader (old : List ℕ) (metrics : ℕ) (new : List ℕ) : Type 0 where
  pub size : length new ≡ length old
  pub before : take 34 new ≡ take 34 old
  pub number : metrics_in new ≡ metrics
  pub after : drop 36 new ≡ drop 36 old

-- each glyph has the advance height and the top side bearing of its origin
pub record AreMetricsOf (vmtx : List ℕ) (metrics : ℕ) (origins new : List ℕ) : Type 0 where
  pub size : length new ≡ length origins * 4
  pub advances : (i : ℕ) → i < length origins → advance_of new (length origins) i ≡ advance_of vmtx metrics (slice_index origins i)
  pub bearings : (i : ℕ) → i < length origins → bearing_of new (length origins) i ≡ bearing_of vmtx metrics (slice_index origins i)

-- the new tables have the metrics of the origins, and the header is otherwise unchanged
pub record KeepsMetrics (vhea vmtx origins new_vhea new_vmtx : List ℕ) : Type 0 where
  pub old : HaveMetrics vhea vmtx
  pub header : IsHeader vhea (length origins) new_vhea
  pub metrics : AreMetricsOf vmtx (metrics_in vhea) origins new_vmtx
