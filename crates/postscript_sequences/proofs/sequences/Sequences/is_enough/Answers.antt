use Rattle.std.proofs.Common.{arith, length}
use Rattle.postscript_sequences.specs.Sequences.{table_of}
use Rattle.postscript_sequences.specs.Tables.{records_of}
use Rattle.postscript_sequences.proofs.Spending.{units_none, units_within}
use Rattle.postscript_sequences.proofs.sequences.Sequences.is_enough.Goals as goal

pub loop-i-init : goal.loop-i-init
loop-i-init c = omega (arith, units_none (table_of c.args.self.now) (length c.args.chars.now))

pub returns-then-left-units : goal.returns-then-left-units
returns-then-left-units c = (
  λ e. absurd (cc),
  λ enough.
      let all = units_within (table_of c.args.self.now) (length c.args.chars.now) c.loop-i.i (records_of (table_of c.args.self.now))
      (omega (arith, c.loop-i-test.true, c.records-i-end.ensures.exact)) in
      absurd (omega (arith, enough, c.loop-i.invariant, c.if-left-units.true, c.units-units.ensures, all)),
)
