use Rattle.postscript_files.specs.Others.{AreListedTo, AreOthers}
use Rattle.postscript_files.proofs.flat.put_others.Given as goal

abbrev pub invariant-loop-i : goal.invariant-loop-i
invariant-loop-i l = record {
  others : AreOthers l.file l.font l.tables.items;
  listed : AreListedTo l.file l.i l.tables.items;
}
