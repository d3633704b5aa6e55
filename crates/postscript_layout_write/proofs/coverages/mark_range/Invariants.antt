use Rattle.std.proofs.Common.{◌≡◌, ◌<◌, ◌&&◌, ◌||◌, ℕ, false, length}
use Rattle.std.specs.Prelude.{nat_le, nat_lt, slice_index_or}
use Rattle.postscript_layout_write.proofs.coverages.mark_range.Given as goal

abbrev pub invariant-loop-glyph : goal.invariant-loop-glyph
invariant-loop-glyph l = record {
  many : length l.marks.items ≡ 65536;
  each : (x : ℕ) → x < 65536 → slice_index_or l.marks.items x false ≡ (slice_index_or l.fn.marks.items x false || (nat_le l.first x && nat_lt x l.glyph));
}
