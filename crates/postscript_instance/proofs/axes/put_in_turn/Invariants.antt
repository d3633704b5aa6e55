use Rattle.std.proofs.Common.{◌≡◌, ◌++◌, drop}
use Rattle.postscript_instance.specs.Axes.{in_turn}
use Rattle.postscript_instance.proofs.axes.put_in_turn.Given as goal

-- what was appended, and the rest, are all
abbrev pub invariant-loop-operand : goal.invariant-loop-operand
invariant-loop-operand l =
    l.out.items ++ in_turn l.axis (drop l.operand-index l.operands) ≡ l.fn.out.items ++ in_turn l.fn.axis l.fn.operands
