use Rattle.std.proofs.Common.{◌≡◌, map}
use Rattle.postscript_base.specs.Compact1.Dictionary.{dictionary_of}
use Rattle.postscript_base.proofs.compact1.operations.of_all.Given as goal

-- the dictionary of the operations so far
abbrev pub invariant-loop-operation : goal.invariant-loop-operation
invariant-loop-operation l = l.operations ≡ dictionary_of (map (λ operation. (operation.0, operation.1.items)) l.yielded)
