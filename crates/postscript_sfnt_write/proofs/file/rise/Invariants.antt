use Rattle.std.proofs.Common.{ℕ, ◌<◌}
use Rattle.postscript_sfnt_write.specs.Tables.{IsGiven}
use Rattle.postscript_sfnt_write.specs.declared.file.Table.{Table}
use Rattle.postscript_sfnt_write.proofs.file.rise.Given as goal

-- the tags before this one rise
abbrev pub invariant-loop-i : goal.invariant-loop-i
invariant-loop-i l = (j k : ℕ) (a b : Table) → j < k → k < l.i → IsGiven l.tables j a → IsGiven l.tables k b → a.tag < b.tag
