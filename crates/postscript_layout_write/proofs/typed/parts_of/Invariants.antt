use Rattle.std.proofs.Common.{◌≤◌}
use Rattle.postscript_layout_write.specs.Typed.{HasParts}
use Rattle.postscript_layout_write.proofs.typed.parts_of.Given as goal

abbrev pub invariant-loop-j : goal.invariant-loop-j
invariant-loop-j l = record {
  parts : HasParts l.gpos l.lookup l.kind l.flag l.kept l.j l.parts.offsets.items l.parts.bytes.items;
  spent : l.limit ≤ l.fn.limit;
}
