use Rattle.std.proofs.Common.{◌∙◌, ap, ◌++◌, arith}
use Rattle.postscript_write.specs.Texts.{number_text}
use Rattle.postscript_write.proofs.Standing.{length-number_text}
use Rattle.postscript_write.proofs.OperationsStand.{longer, appended}
use Rattle.postscript_write.proofs.dictionaries.put_short.Goals as goal

pub returns-clause-one_more : goal.returns-clause-one_more
returns-clause-one_more c =
    appended c.args.out.now.items c.put_integers.new.out.items c.put_number.new.out.items c.args.numbers.now c.args.code c.args.operator
    c.in_ok-put_integers.ensures.held c.requires
    c.in_ok-put_integers.ensures.ok
    (c.in_ok-put_number.ensures.ok ∙ ap (λ n. c.put_integers.new.out.items ++ number_text 1 n) c.from.ensures)

pub returns-clause-sized : goal.returns-clause-sized
returns-clause-sized c =
    omega (
      arith,
      c.in_ok-put_integers.ensures.sized,
      longer c.put_integers.new.out.items c.put_number.new.out.items (number_text 1 c.from.result) c.in_ok-put_number.ensures.ok,
      length-number_text 1 c.from.result,
    )
