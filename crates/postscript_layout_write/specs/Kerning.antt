-- The kerning of the kept glyphs.
use Rattle.std.specs.Prelude.{◌≡◌, ℕ, ◌%◌, ◌<◌, ◌&&◌, List, length, nat_lt, slice_index, slice_range, if◌then◌else◌}
use Rattle.postscript_layout.specs.Numbers.{word}
use Rattle.postscript_layout_write.specs.Entries.{kept_by}
use Rattle.postscript_layout_write.specs.Pairs.{adjustment, flag_of, lookup_at, lookups_of}
use Rattle.postscript_layout_write.specs.ScriptLists.{ListsEnd}
use Rattle.postscript_layout_write.specs.Values.{nothing}
use Rattle.postscript_layout_write.specs.declared.values.Adjustment.{Adjustment}

-- the adjustment that a lookup of the old table gives to a pair of new numbers; other numbers than those of kept glyphs are not adjusted
abbrev pub kept_pair : (gpos kept : List ℕ) → (lookup x y : ℕ) → Adjustment
kept_pair gpos kept lookup x y =
    if nat_lt x (length kept) && nat_lt y (length kept) then kept_by gpos lookup (slice_index kept x) (slice_index kept y) else nothing

-- The new table has version 1.0. The script list and the feature list, with all tables that they name, have the same offsets and bytes, and the
-- lookup list follows them.
pub record KeepsLists (old new : List ℕ) : Type 0 where
  pub version : (word new 0 ≡ 1) × (word new 2 ≡ 0)
  pub offsets : slice_range new 4 8 ≡ slice_range old 4 8
  pub end : ListsEnd old (word new 8)
  pub tables : slice_range new 10 (word new 8) ≡ slice_range old 10 (word new 8)

-- The new table keeps scripts and features. It has as many lookups, each with the lowest four bits of its flag, and each adjusts pairs as the
-- old one.
pub record KeepsKerning (old kept new : List ℕ) : Type 0 where
  pub lists : KeepsLists old new
  pub lookups : lookups_of new ≡ lookups_of old
  pub flags : (i : ℕ) → i < lookups_of old → flag_of new i ≡ flag_of old i % 16
  pub pairs : (i x y : ℕ) → i < lookups_of old → adjustment new i x y ≡ kept_pair old kept (lookup_at old i) x y
