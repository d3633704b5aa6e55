use Rattle.std.proofs.Common.{◌≡◌, ℕ, ◌+◌, ◌<◌}
use Rattle.postscript_sfnt_write.specs.Tables.{IsGiven}
use Rattle.postscript_sfnt_write.specs.declared.file.Table.{Table}
use Rattle.postscript_files.proofs.tables.twice.Given as goal

abbrev pub invariant-loop-i : goal.invariant-loop-i
invariant-loop-i l = (k : ℕ) (a b : Table) → k + 1 < l.i → IsGiven l.tables k a → IsGiven l.tables (k + 1) b → a.tag ≡ b.tag → ⊥
