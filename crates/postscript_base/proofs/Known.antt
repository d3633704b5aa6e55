-- The operator of a code, as a reading.
use Rattle.std.proofs.Common.{arith}
use Rattle.std.proofs.Common.{ℕ, List, Option, [], ◌∷◌}
use Rattle.std.specs.Option.{ok_or}
use Rattle.postscript_base.specs.Error.{IsListed}
use Rattle.postscript_base.specs.Tape.Outcome.{Answers, same}
use Rattle.postscript_base.specs.Compact1.Operation.{known}
use Rattle.postscript_base.specs.declared.compact1.operator.Operator.{Operator}
use Rattle.postscript_base.specs.declared.error.Error.TheVariants.{UnknownOperator}

pub known_answers : (o : Option Operator) (bytes : List ℕ) (place : ℕ) → Answers same (ok_or o UnknownOperator) place (known o bytes place)
known_answers o bytes place = grind arith

pub known_listed : (o : Option Operator) → IsListed (1 ∷ 2 ∷ 9 ∷ []) (ok_or o UnknownOperator)
known_listed o = grind arith
