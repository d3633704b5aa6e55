use Rattle.std.proofs.Common.{◌∙◌, ◌∷◌, [], All, ap, subst, sym, arith}
use Rattle.std.proofs.lemmas.List.Elements.{All-push}
use Rattle.postscript_write.proofs.Pieces.{all_left}
use Rattle.postscript_instance.specs.Encoded.{IsRange, spread}
use Rattle.postscript_instance.proofs.Sets.{range-longer}
use Rattle.postscript_instance.proofs.naming.put_after.Goals as goal

pub returns-in-Some-clause-spread : goal.returns-in-Some-clause-spread
returns-in-Some-clause-spread c =
    let is = c.in-Some.ensures in
    ap spread c.in_ok-push.ensures.items ∙ range-longer c.args.ranges.now.items c.args.last c.in-Some.longer c.args.number is.0 is.1 is.2

pub returns-in-Some-clause-small : goal.returns-in-Some-clause-small
returns-in-Some-clause-small c = λ all.
    let old = c.args.ranges.now.items in
    let is = c.in-Some.ensures in
    subst (All IsRange) (sym c.in_ok-push.ensures.items)
    (All-push IsRange old c.in-Some.longer (all_left IsRange old (c.args.last ∷ []) all) (omega (arith, is.0, is.1, is.2)))
