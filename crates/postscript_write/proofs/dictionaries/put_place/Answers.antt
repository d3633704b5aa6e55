use Rattle.std.proofs.Common.{ap}
use Rattle.postscript_write.specs.Dictionaries.{numbers_of}
use Rattle.postscript_write.proofs.Making.{if_err}
use Rattle.postscript_write.proofs.Without.{place_held}
use Rattle.postscript_write.proofs.dictionaries.put_place.Goals as goal

pub returns-in-Some-clause-refused : goal.returns-in-Some-clause-refused
returns-in-Some-clause-refused c =
    if_err c.put_operation.result
    (λ e never other. place_held c.args.place.now _ (ap (λ s. numbers_of s c.args.place.now.offset) c.in-Some.is) (never other))
    c.put_operation.ensures.refused

pub returns-in-None-clause-refused : goal.returns-in-None-clause-refused
returns-in-None-clause-refused c =
    if_err c.put_operation-in-None.result
    (λ e never other. place_held c.args.place.now _ (ap (λ s. numbers_of s c.args.place.now.offset) c.in-None.is) (never other))
    c.put_operation-in-None.ensures.refused
