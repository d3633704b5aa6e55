use Rattle.std.proofs.Common.{◌≡◌, ◌+◌, ◌<◌, ◌++◌, drop, ℕ}
use Rattle.std.specs.Prelude.{slice_index}
use Rattle.postscript_layout_write.specs.Text.{offsets_text}
use Rattle.postscript_layout_write.proofs.subtables.put_offsets.Given as goal

-- the offsets that are left complete the array
abbrev pub invariant-loop-offset : goal.invariant-loop-offset
invariant-loop-offset l = record {
  text : l.out.items ++ offsets_text l.base (drop l.offset-index l.offsets) ≡ l.fn.out.items ++ offsets_text l.base l.offsets;
  fit : (k : ℕ) → k < l.offset-index → l.base + slice_index l.offsets k < 65536;
}
