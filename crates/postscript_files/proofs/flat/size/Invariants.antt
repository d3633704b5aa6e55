use Rattle.std.proofs.Common.{◌+◌, ◌≤◌, drop, length}
use Rattle.std.specs.List.{sum_by}
use Rattle.postscript_sfnt_write.specs.declared.file.Table.{Table}
use Rattle.postscript_files.proofs.flat.size.Given as goal

abbrev pub invariant-loop-i : goal.invariant-loop-i
invariant-loop-i l =
    l.sum + sum_by (λ (t : Table). length t.bytes.now) (drop l.i l.tables) ≤ sum_by (λ (t : Table). length t.bytes.now) (drop 1 l.tables)
