use Rattle.std.proofs.Common.{◌≡◌, take}
use Rattle.std.specs.List.{filter_map}
use Rattle.postscript_write.specs.Strings.{identifier_in}
use Rattle.postscript_write.specs.declared.naming.TheConstants.{SID_OPERATORS}
use Rattle.postscript_write.proofs.strings.sids_of.Given as goal

abbrev pub invariant-loop-operator : goal.invariant-loop-operator
invariant-loop-operator l = l.identifiers.items ≡ filter_map (identifier_in l.dictionary) (take l.operator-index SID_OPERATORS)
