use Rattle.std.proofs.Common.{◌≡◌, sym, rules, ◌++◌, [], ◌∷◌}
use Rattle.postscript_write.specs.Strings.{identifier_in}
use Rattle.postscript_write.specs.declared.naming.TheConstants.{SID_OPERATORS}
use Rattle.postscript_write.proofs.NewStrings.{none_given, one_given}
use Rattle.postscript_write.proofs.strings.sids_of.Goals as goal
use Rattle.postscript_write.proofs.strings.sids_of.Goals.{in-Some+in_ok-push, in_default}

pub loop-operator-preserved : goal.loop-operator-preserved
loop-operator-preserved c =
    elim c.match-identifier_in.branch [
      | in-Some+in_ok-push w ↦
          (let more : c.match-identifier_in.identifiers.items ≡ c.loop-operator.identifiers.items ++ w.in-Some.identifier ∷ [] = search
          rules in
          one_given (identifier_in c.args.dictionary.now) SID_OPERATORS c.loop-operator.operator-index _ w.in-Some.identifier
          c.loop-operator.identifiers.items c.match-identifier_in.identifiers.items c.loop-operator-test.true c.loop-operator.invariant
          (sym w.in-Some.ensures) more)
      | in_default w ↦
          (let same : c.match-identifier_in.identifiers.items ≡ c.loop-operator.identifiers.items = search rules in
          none_given (identifier_in c.args.dictionary.now) SID_OPERATORS c.loop-operator.operator-index _
          c.loop-operator.identifiers.items c.match-identifier_in.identifiers.items c.loop-operator-test.true c.loop-operator.invariant
          (sym w.in_default.ensures) same)
    ]
