use Rattle.std.proofs.Common.{arith}
use Rattle.postscript_write.specs.Texts.{number_text}
use Rattle.postscript_write.proofs.OperationsStand.{longer}
use Rattle.postscript_write.proofs.Standing.{length-number_text}
use Rattle.postscript_write.proofs.dictionaries.put_integer.Goals as goal

pub returns-clause-sized : goal.returns-clause-sized
returns-clause-sized c =
    omega (
      arith,
      longer c.args.out.now.items c.put_number.new.out.items (number_text 1 0x1d) c.in_ok-put_number.ensures.ok,
      longer c.put_number.new.out.items c.put_number-2.new.out.items (number_text 4 c.args.number) c.in_ok-put_number-2.ensures.ok,
      length-number_text 1 0x1d,
      length-number_text 4 c.args.number,
    )
