use Rattle.std.proofs.Common.{◌≡◌, ◌++◌, drop}
use Rattle.postscript_sfnt_write.specs.Grouping.{row_text}
use Rattle.postscript_sfnt_write.proofs.mapping.put_row.Given as goal

-- what is still to be written completes the row
abbrev pub invariant-loop-group : goal.invariant-loop-group
invariant-loop-group l = l.out.items ++ row_text l.row (drop l.group-index l.groups) ≡ l.fn.out.items ++ row_text l.row l.groups
