use Rattle.std.proofs.Common.{ap, subst, [], map}
use Rattle.postscript_variable.specs.Told.{said_of}
use Rattle.postscript_instance.specs.Private.{AreHeldOrCut, IsUnwritten, IsWritten}
use Rattle.postscript_instance.specs.Statics.{BearsWidth}
use Rattle.postscript_instance.proofs.Runs.{static-of, refused-on}
use Rattle.postscript_instance.proofs.statics.charstring.Goals as goal

pub returns-clause-written : goal.returns-clause-written
returns-clause-written c =
    let width = c.args.width in
    let code = c.in_ok-code.code.items in
    let same = ap (map said_of) c.deref.ensures.value in
    let is = c.in_ok-code.ensures in
    static-of c.args.charstring width code (map said_of c.in_ok-sayings.sayings.items) c.in_ok-sayings.ensures.said
    (subst (λ says. IsWritten width says [] code) same is.ok)
    (subst (AreHeldOrCut width) same is.fits) (subst (BearsWidth width) same is.bears)

pub returns-in_err-code-clause-refused : goal.returns-in_err-code-clause-refused
returns-in_err-code-clause-refused c =
    let width = c.args.width in
    let e = c.in_err-code.field-0.0 in
    let back = c.from_residual-in_err-code in
    refused-on c.args.charstring width (map said_of c.in_ok-sayings.sayings.items) back.result e back.ensures.1 c.in_ok-sayings.ensures.said
    (subst (λ says. IsUnwritten width says e) (ap (map said_of) c.deref.ensures.value) c.in_err-code.ensures.refused)
