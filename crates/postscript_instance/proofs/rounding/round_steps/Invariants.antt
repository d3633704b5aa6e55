use Rattle.std.proofs.Common.{◌≡◌, ◌++◌, drop}
use Rattle.postscript_instance.specs.Axes.{AreSteps, behind_steps, rounded_steps}
use Rattle.postscript_instance.proofs.rounding.round_steps.Given as goal

-- those so far and those of the rest are all; and all are held where the rest are
abbrev pub invariant-loop-step : goal.invariant-loop-step
invariant-loop-step l = record {
  all : l.operands.items ++ rounded_steps l.place (drop l.step-index l.steps) ≡ rounded_steps l.fn.from l.fn.steps;
  behind : behind_steps l.place (drop l.step-index l.steps) ≡ behind_steps l.fn.from l.fn.steps;
  near : AreSteps l.place (drop l.step-index l.steps) → AreSteps l.fn.from l.fn.steps;
  rest : AreSteps l.fn.from l.fn.steps → AreSteps l.place (drop l.step-index l.steps);
}
