use Rattle.std.proofs.Common.{refl}
use Rattle.postscript_write.proofs.WholeEnd.{none_read, stops}
use Rattle.postscript_write.proofs.Without.{reached}
use Rattle.postscript_write.proofs.dictionaries.next_operator.Goals as goal

pub returns-in-Ok-clause-onward : goal.returns-in-Ok-clause-onward
returns-in-Ok-clause-onward c = let exact = c.in-Ok.ensures.exact refl in reached c.args.tape.now.inner.now c.args.tape.now.pos _ _ exact.1

pub returns-in-Err-UnexpectedEof-clause-cut : goal.returns-in-Err-UnexpectedEof-clause-cut
returns-in-Err-UnexpectedEof-clause-cut c = λ _.
    let exact = c.in-Err-UnexpectedEof.ensures.exact refl in
    stops c.args.tape.now.inner.now c.args.tape.now.inner.now c.args.tape.now.pos c.args.tape.now.pos c.in-Err-UnexpectedEof.field-0 refl
    refl c.in-Err-UnexpectedEof.field-0-is exact.1

pub returns-in-Err-UnexpectedEof-clause-ends : goal.returns-in-Err-UnexpectedEof-clause-ends
returns-in-Err-UnexpectedEof-clause-ends c = λ _ o next got.
    let exact = c.in-Err-UnexpectedEof.ensures.exact refl in
    none_read c.args.tape.now.inner.now c.args.tape.now.pos c.in-Err-UnexpectedEof.field-0 c.in-Err-UnexpectedEof.field-0-is exact.1 o
    next got
