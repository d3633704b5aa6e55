use Rattle.std.proofs.Common.{None}
use Rattle.postscript_type2.specs.declared.operation.Operator.TheVariants.{Drop}
use Rattle.postscript_type2.proofs.Written.{call-stays, others-stay}
use Rattle.postscript_type2.proofs.program.inlined.kept.Goals as goal

pub returns-in-None : goal.returns-in-None
returns-in-None c = (
  Drop,
  call-stays c.args.said.operator c.args.said.bytes.now c.saturating_sub.result None c.in-CallSubr.is c.saturating_sub.ensures
      c.in-None.ensures,
)

pub returns-in_default : goal.returns-in_default
returns-in_default c = (
  c.args.said.operator,
  others-stay c.args.said.operator c.args.said.bytes.now c.in_default.not-CallSubr c.in_default.not-Return
      c.in_default.not-CallGSubr,
)
