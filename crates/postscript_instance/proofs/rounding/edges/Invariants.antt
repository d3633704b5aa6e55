use Rattle.std.proofs.Common.{◌≡◌, ◌++◌, pos, drop}
use Rattle.postscript_instance.specs.Far.{AreEdges}
use Rattle.postscript_instance.specs.Private.{rounded_edges}
use Rattle.postscript_instance.proofs.rounding.edges.Given as goal

-- those so far and those of the rest are all; and all are held where the rest are
abbrev pub invariant-loop-operand : goal.invariant-loop-operand
invariant-loop-operand l = record {
  all : l.edges.items ++ rounded_edges l.place.x (drop l.operand-index l.operands) ≡ rounded_edges (pos 0) l.fn.operands;
  near : AreEdges l.place.x (drop l.operand-index l.operands) → AreEdges (pos 0) l.fn.operands;
  rest : AreEdges (pos 0) l.fn.operands → AreEdges l.place.x (drop l.operand-index l.operands);
}
