use Rattle.std.proofs.Common.{ℕ, ◌<◌}
use Rattle.postscript_sfnt_write.specs.Mappings.{IsMapping}
use Rattle.postscript_sfnt_write.specs.declared.mapping.Mapping.{Mapping}
use Rattle.postscript_sfnt_write.proofs.mapping.chars_rise.Given as goal

-- the characters before this one rise
abbrev pub invariant-loop-i : goal.invariant-loop-i
invariant-loop-i l = (j k : ℕ) (a b : Mapping) → j < k → k < l.i → IsMapping l.mappings j a → IsMapping l.mappings k b → a.char < b.char
