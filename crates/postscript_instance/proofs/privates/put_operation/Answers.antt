use Rattle.std.proofs.Common.{◌++◌, ◌∷◌, [], sym, subst}
use Rattle.postscript_instance.specs.Whole as whole
use Rattle.postscript_instance.specs.Encoded.{HasHints}
use Rattle.postscript_instance.proofs.Rests.{is-true}
use Rattle.postscript_instance.proofs.privates.put_operation.Goals as goal

pub returns-clause-hints : goal.returns-clause-hints
returns-clause-hints c = λ has.
    let one = c.in_ok-is_hint_operation.ensures.is.0 (is-true c.in_ok-is_hint_operation.field-0 c.if-not-branch.false) in
    let old = c.args.out.now.items in
    let all : HasHints (old ++ c.args.text.now) = (has.0 ++ one.0 ∷ [], whole.one_more old c.args.text.now has.0 one.0 has.1 one.1 one.2) in
    subst HasHints (sym c.in_ok-extend_from_slice.ensures.items) all
