use Rattle.postscript_layout_write.specs.Pieces.{AreExtensions}
use Rattle.postscript_layout_write.proofs.pieces.extensions_of.Given as goal

abbrev pub invariant-loop-k : goal.invariant-loop-k
invariant-loop-k l = AreExtensions l.k l.offsets.items
