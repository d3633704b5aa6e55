use Rattle.std.proofs.Common.{◌+◌, ap, sym, subst, ◌∙◌, drop, map}
use Rattle.std.proofs.lemmas.Result.{err_from_is_err_and}
use Rattle.postscript_variable.specs.Told.{said_of}
use Rattle.postscript_instance.proofs.Rests.{rest-done, rest-more}
use Rattle.postscript_instance.proofs.Rounds.{SoFar, begin, ends, far-here, mapped-one, one-more}
use Rattle.postscript_instance.specs.Rounded.{origin}
use Rattle.postscript_instance.proofs.whole.all_in_whole_units.Goals as goal

pub loop-saying-init : goal.loop-saying-init
loop-saying-init c =
    let says = map said_of c.args.sayings.now in
    subst (λ done. SoFar says says done origin) (sym (ap (map said_of) c.in_ok-whole.ensures.items)) (begin says)

pub loop-saying-preserved : goal.loop-saying-preserved
loop-saying-preserved c =
    let i = c.loop-saying.saying-index in
    let xs = c.args.sayings.now in
    let x = c.saying-item.result in
    let y = c.in_ok-rounded.rounded in
    let is = c.in_ok-rounded.ensures in
    let old = c.loop-saying.whole.items in
    one-more (map said_of xs) (map said_of (drop i xs)) (map said_of (drop (i + 1) xs)) (map said_of old)
    (map said_of c.push.new.self.items) c.loop-saying.place c.in_ok-rounded.behind
    (said_of x) (said_of y) (rest-more xs i x c.saying-item.is c.loop-saying-test.true) is.ok.0 is.ok.1 is.near
    (ap (map said_of) c.in_ok-push.ensures.items ∙ mapped-one old y) c.loop-saying.invariant

pub returns : goal.returns
returns c =
    let i = c.loop-saying.saying-index in
    let xs = c.args.sayings.now in
    let all = ends (map said_of xs) (map said_of (drop i xs)) (map said_of c.loop-saying.whole.items) c.loop-saying.place
    (rest-done xs i c.loop-saying-test.false) c.loop-saying.invariant in
    record { ok = all.0; near = all.1; far = tt }

pub returns-in_err-rounded-clause-far : goal.returns-in_err-rounded-clause-far
returns-in_err-rounded-clause-far c =
    let i = c.loop-saying.saying-index in
    let xs = c.args.sayings.now in
    let x = c.saying-item.result in
    let error = err_from_is_err_and c.from_residual-in_err-rounded.result c.from_residual-in_err-rounded.ensures.1 in
    rw (error.1, error.2)
    (far-here (map said_of xs) (map said_of (drop i xs)) (map said_of (drop (i + 1) xs))
    (map said_of c.loop-saying.whole.items) c.loop-saying.place (said_of x) c.in_err-rounded.field-0.0
    (rest-more xs i x c.saying-item.is c.loop-saying-test.true) c.loop-saying.invariant c.in_err-rounded.ensures.far)
