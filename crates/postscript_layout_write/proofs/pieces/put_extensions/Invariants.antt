use Rattle.std.proofs.Common.{◌≡◌, ◌+◌, ◌*◌, ◌<◌, ◌++◌, ℕ, drop, length}
use Rattle.std.specs.Prelude.{slice_index}
use Rattle.postscript_layout_write.specs.Pieces.{extensions_text}
use Rattle.postscript_layout_write.proofs.pieces.put_extensions.Given as goal

-- the extensions that are left complete the text
abbrev pub invariant-loop-k : goal.invariant-loop-k
invariant-loop-k l = record {
  text : l.out.items ++ extensions_text l.distance (drop l.k l.offsets) ≡ l.fn.out.items ++ extensions_text l.distance l.offsets;
  long : (j : ℕ) → j < l.k → length l.offsets * 8 + l.distance + slice_index l.offsets j < 4294967296;
}
