use Rattle.std.proofs.Common.{◌≡◌, ◌∙◌, ◌+◌, ◌++◌, ◌∷◌, [], All, ap, subst, sym, length, length-append}
use Rattle.std.proofs.lemmas.List.{map-append}
use Rattle.std.proofs.lemmas.List.Elements.{All-push}
use Rattle.postscript_type2.specs.Program.Routines.{texts}
use Rattle.postscript_instance.specs.Hints.{AreHintsAt}
use Rattle.postscript_instance.specs.Whole.{IsPrivate}
use Rattle.postscript_instance.proofs.Codes.{one-private}
use Rattle.postscript_instance.proofs.layout.privates_of.Goals as goal

pub loop-number-preserved : goal.loop-number-preserved
loop-number-preserved c =
    let so_far = c.loop-number.invariant in
    let old = texts c.loop-number.privates.items in
    let text = c.in_ok-private_of.field-0.items in
    let more : texts c.push.new.self.items ≡ old ++ text ∷ [] =
    ap texts c.in_ok-push.ensures.items ∙ map-append (λ v. v.items) c.loop-number.privates.items (c.in_ok-private_of.field-0 ∷ []) in
    record {
      counted = ap length more ∙ length-append old (text ∷ []) ∙ ap (λ n. n + 1) so_far.counted;
      are = subst (All IsPrivate) (sym more) (All-push IsPrivate old text so_far.are c.in_ok-private_of.ensures.is);
      hints = subst (λ texts. AreHintsAt c.args.font.now c.args.place.now texts (c.loop-number.number + 1)) (sym more)
          (one-private c.args.font.now c.args.place.now old c.loop-number.number c.private_bytes-source.result.now text so_far.counted so_far.hints
          c.private_bytes-source.ensures c.in_ok-private_of.ensures.at);
    }

pub returns-clause-hints : goal.returns-clause-hints
returns-clause-hints c =
    subst (AreHintsAt c.args.font.now c.args.place.now (texts c.loop-number.privates.items)) (sym c.loop-number.invariant.counted)
    c.loop-number.invariant.hints
