use Rattle.std.proofs.Common.{sym, subst}
use Rattle.postscript_instance.specs.Private.{IsWritten}
use Rattle.postscript_instance.proofs.Rests.{rest-done, written-none, written-rest}
use Rattle.postscript_instance.proofs.texts.put_sayings.Goals as goal

pub loop-saying-preserved : goal.loop-saying-preserved
loop-saying-preserved c = λ end rest.
    let put = c.in_ok-put_saying.ensures.ok _ end rest in
    c.loop-saying.invariant end
    (written-rest c.args.sayings.now c.loop-saying.saying-index c.saying-item.result c.loop-saying.width c.loop-saying.out.items end
    c.saying-item.is c.loop-saying-test.true put)

pub returns-clause-ok : goal.returns-clause-ok
returns-clause-ok c =
    let old = c.loop-saying.out.items in
    let new = c.push.new.self.items in
    let width = c.in_ok-put_width.ensures in
    c.loop-saying.invariant new
    (subst (λ xs. IsWritten c.loop-saying.width xs old new)
    (sym (rest-done c.args.sayings.now c.loop-saying.saying-index c.loop-saying-test.false))
    (written-none c.loop-saying.width old c.put_width.new.out.items new width.ok c.in_ok-push.ensures.items width.held))
