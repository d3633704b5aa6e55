use Rattle.std.proofs.Common.{drop, map}
use Rattle.postscript_variable.specs.Told.{said_of}
use Rattle.postscript_instance.specs.Private.{AreHeldOrCut, HasMoreUncut}
use Rattle.postscript_instance.proofs.texts.check_operands.Given as goal

-- where all that is left fits, all fits; and what is left has no more than all have
abbrev pub invariant-loop-saying : goal.invariant-loop-saying
invariant-loop-saying l = record {
  fits : AreHeldOrCut l.width (map said_of (drop l.saying-index l.sayings)) → AreHeldOrCut l.fn.width (map said_of l.fn.sayings);
  more : HasMoreUncut l.width (map said_of (drop l.saying-index l.sayings)) → HasMoreUncut l.fn.width (map said_of l.fn.sayings);
}
