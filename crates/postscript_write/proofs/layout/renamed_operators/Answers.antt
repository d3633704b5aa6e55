use Rattle.postscript_write.specs.Renumbered.{renamed_if}
use Rattle.postscript_write.specs.Strings.{identifier_in}
use Rattle.postscript_write.specs.declared.naming.TheConstants.{SID_OPERATORS}
use Rattle.postscript_write.proofs.Arranged.{further}
use Rattle.postscript_write.proofs.layout.renamed_operators.Goals as goal

pub loop-operator-preserved : goal.loop-operator-preserved
loop-operator-preserved c =
    further (λ operator. renamed_if c.args.strings.now operator (identifier_in c.args.dictionary.now operator)) SID_OPERATORS
    c.loop-operator.operator-index _ _ _ c.loop-operator-test.true c.loop-operator.invariant c.in_ok-place_renamed.ensures.placed
