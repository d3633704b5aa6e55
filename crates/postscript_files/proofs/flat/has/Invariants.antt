use Rattle.std.proofs.Common.{◌≡◌, ℕ, ◌<◌}
use Rattle.postscript_sfnt_write.specs.Tables.{IsGiven}
use Rattle.postscript_sfnt_write.specs.declared.file.Table.{Table}
use Rattle.postscript_files.proofs.flat.has.Given as goal

abbrev pub invariant-loop-table : goal.invariant-loop-table
invariant-loop-table l = (k : ℕ) (t : Table) → k < l.table-index → IsGiven l.tables k t → t.tag ≡ l.tag → ⊥
