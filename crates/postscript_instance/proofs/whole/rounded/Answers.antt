use Rattle.std.proofs.Common.{ap, subst, ◌∙◌, [], map}
use Rattle.postscript_variable.specs.Told.{said_of}
use Rattle.postscript_instance.specs.Axes.{LeadsTooFar}
use Rattle.postscript_instance.specs.Private.{all_in_units, AreHeldOrCut, AreNear, IsFar, IsUnwritten, IsWritten}
use Rattle.postscript_instance.specs.Rounded.{origin}
use Rattle.postscript_instance.specs.Statics.{BearsWidth}
use Rattle.postscript_instance.proofs.InUnits.{rounded-of, unwritten-on, too-far-on}
use Rattle.postscript_instance.proofs.whole.rounded.Goals as goal

pub returns-clause-written : goal.returns-clause-written
returns-clause-written c =
    let width = c.args.width in
    let code = c.in_ok-code.code.items in
    let says = map said_of c.in_ok-sayings.sayings.items in
    let whole = map said_of c.in_ok-whole.whole.items in
    let first = ap (map said_of) c.deref.ensures.value in
    let then = ap (map said_of) c.deref-2.ensures.value in
    let same = c.in_ok-whole.ensures in
    let is = c.in_ok-code.ensures in
    rounded-of c.args.charstring width code says whole c.in_ok-sayings.ensures.said (same.ok ∙ ap (all_in_units origin) first)
    (subst (AreNear origin) first same.near)
    (subst (λ xs. IsWritten width xs [] code) then is.ok) (subst (AreHeldOrCut width) then is.fits) (subst (BearsWidth width) then is.bears)

pub returns-in_err-whole-clause-refused : goal.returns-in_err-whole-clause-refused
returns-in_err-whole-clause-refused c =
    let e = c.in_err-whole.field-0.0 in
    let back = c.from_residual-in_err-whole in
    too-far-on c.args.charstring c.args.width
    (map said_of c.in_ok-sayings.sayings.items) back.result e back.ensures.1 c.in_ok-sayings.ensures.said
    (subst (λ says. IsFar (LeadsTooFar origin says) e) (ap (map said_of) c.deref.ensures.value) c.in_err-whole.ensures.far)

pub returns-in_err-code-clause-refused : goal.returns-in_err-code-clause-refused
returns-in_err-code-clause-refused c =
    let width = c.args.width in
    let e = c.in_err-code.field-0.0 in
    let back = c.from_residual-in_err-code in
    let first = ap (map said_of) c.deref.ensures.value in
    unwritten-on c.args.charstring width
    (map said_of c.in_ok-sayings.sayings.items) back.result e back.ensures.1 c.in_ok-sayings.ensures.said
    (subst (λ says. IsUnwritten width says e)
    (ap (map said_of) c.deref-2.ensures.value ∙ c.in_ok-whole.ensures.ok ∙ ap (all_in_units origin) first) c.in_err-code.ensures.refused)
