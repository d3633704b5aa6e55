use Rattle.std.proofs.Common.{◌≡◌, take}
use Rattle.std.specs.Prelude.{flat_map}
use Rattle.postscript_write.specs.Renumbered.{renamed_if}
use Rattle.postscript_write.specs.Strings.{identifier_in}
use Rattle.postscript_write.specs.declared.naming.TheConstants.{SID_OPERATORS}
use Rattle.postscript_write.proofs.layout.renamed_operators.Given as goal

abbrev pub invariant-loop-operator : goal.invariant-loop-operator
invariant-loop-operator l =
    l.places.items ≡ flat_map (λ operator. renamed_if l.strings operator (identifier_in l.dictionary operator))
    (take l.operator-index SID_OPERATORS)
