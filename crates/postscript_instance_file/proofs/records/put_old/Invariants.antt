use Rattle.postscript_instance_file.specs.Names.{AreKept}
use Rattle.postscript_instance_file.proofs.records.put_old.Given as goal

-- the records so far
abbrev pub invariant-loop-i : goal.invariant-loop-i
invariant-loop-i l = AreKept l.face.axes l.table l.i l.records.items
