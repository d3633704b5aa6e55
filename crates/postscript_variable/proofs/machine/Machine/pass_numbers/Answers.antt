use Rattle.std.proofs.Common.{arith}
use Rattle.postscript_variable.specs.Private.Working.{font_of, state_of}
use Rattle.postscript_variable.proofs.Numbers.{passes}
use Rattle.postscript_variable.proofs.machine.Machine.pass_numbers.Goals as goal

pub returns-clause-passes : goal.returns-clause-passes
returns-clause-passes c =
    let machine = c.args.self.now in
    let there = passes (font_of machine.font) machine.left machine.callers (state_of machine.state) c.in_ok-left.ensures.puts in
    record { answers = there.0; end = there.1; spends = there.2; less = there.3; no_more = omega (arith, there.4) }
