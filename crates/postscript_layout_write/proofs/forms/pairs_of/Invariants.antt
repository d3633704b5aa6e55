use Rattle.std.proofs.Common.{◌≤◌, length}
use Rattle.postscript_layout_write.specs.ClassPairs.{AreRowsIfOpen}
use Rattle.postscript_layout_write.specs.Forms.{AreForms}
use Rattle.postscript_layout_write.specs.Scopes.{new_pair}
use Rattle.postscript_layout_write.proofs.forms.pairs_of.Given as goal

abbrev pub invariant-loop-k : goal.invariant-loop-k
invariant-loop-k l = record {
  forms : AreForms (new_pair l.scope l.gpos l.kept l.lookup) l.k l.forms;
  rows : AreRowsIfOpen (new_pair l.scope l.gpos l.kept l.lookup) (length l.kept) l.k l.rows;
  spent : l.limit ≤ l.fn.limit;
}
