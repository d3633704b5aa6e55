use Rattle.std.proofs.Common.{◌≡◌, ◌++◌, drop}
use Rattle.postscript_sfnt_write.specs.Layout.{tables_text}
use Rattle.postscript_sfnt_write.proofs.file.put_tables.Given as goal

-- what is still to be written completes the tables
abbrev pub invariant-loop-table : goal.invariant-loop-table
invariant-loop-table l =
    l.out.items ++ tables_text l.adjustment (drop l.table-index l.tables) ≡ l.fn.out.items ++ tables_text l.adjustment l.tables
