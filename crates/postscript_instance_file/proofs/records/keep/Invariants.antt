use Rattle.std.proofs.Common.{take}
use Rattle.postscript_text.specs.NameTables.{Holds}
use Rattle.postscript_instance_file.proofs.records.keep.Given as goal

-- the records so far
abbrev pub invariant-loop-record : goal.invariant-loop-record
invariant-loop-record l = Holds l.kept (take l.record-index l.records)
