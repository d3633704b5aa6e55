use Rattle.std.proofs.Common.{◌≡◌, length, sum_by, take}
use Rattle.postscript_sequences.specs.Rows.{AreRowsOf}
use Rattle.postscript_sequences.specs.Sizes.{tables_size}
use Rattle.postscript_sequences.proofs.writing.put_parts.Given as goal

abbrev pub invariant-loop-part : goal.invariant-loop-part
invariant-loop-part l = record {
  rows : AreRowsOf l.base (take l.part-index l.parts) l.rows.items l.tables.items;
  size : length l.tables.items ≡ sum_by tables_size (take l.part-index l.parts);
}
