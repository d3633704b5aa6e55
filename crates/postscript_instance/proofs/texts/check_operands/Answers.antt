use Rattle.std.proofs.Common.{refl}
use Rattle.postscript_variable.specs.Told.{said_of}
use Rattle.postscript_instance.proofs.Rests.{room-held, fits-more, many-more, many-here}
use Rattle.postscript_instance.proofs.texts.check_operands.Goals as goal

pub returns-then-not-has_room-clause-refused : goal.returns-then-not-has_room-clause-refused
returns-then-not-has_room-clause-refused c =
    let many = many-here c.args.sayings.now c.loop-saying.saying-index c.saying-item.result c.loop-saying.width c.has_room.result
    c.saying-item.is c.loop-saying-test.true in
    (refl, c.loop-saying.invariant.more (many c.has_room.ensures c.if-not-has_room.true))

pub loop-saying-preserved : goal.loop-saying-preserved
loop-saying-preserved c =
    let held = room-held c.loop-saying.width
    (said_of c.saying-item.result) c.has_room.result c.has_room.ensures c.if-not-has_room.false in record {
      fits = λ rest. c.loop-saying.invariant.fits
          (fits-more c.args.sayings.now c.loop-saying.saying-index c.saying-item.result c.loop-saying.width c.saying-item.is
          c.loop-saying-test.true held rest);
      more = λ rest. c.loop-saying.invariant.more
          (many-more c.args.sayings.now c.loop-saying.saying-index c.saying-item.result c.loop-saying.width c.saying-item.is
          c.loop-saying-test.true rest);
    }
