use Rattle.std.proofs.Common.{List}
use Rattle.postscript_text.specs.NameTables.{AreChosen, Holds}
use Rattle.postscript_text.specs.declared.names.Record.{Record}
use Rattle.postscript_text.proofs.names.trimmed.Given as goal

-- the records so far
abbrev pub invariant-loop-i : goal.invariant-loop-i
invariant-loop-i l = (records : List Record) × AreChosen l.table l.licence l.i records × Holds l.kept records
