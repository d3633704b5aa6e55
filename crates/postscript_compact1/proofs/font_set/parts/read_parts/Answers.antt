use Rattle.std.proofs.Common.{◌∙◌, [], ◌∷◌, ◌++◌, ap, sym, refl}
use Rattle.std.proofs.lemmas.Result.{err_from_is_err_and}
use Rattle.postscript_compact1.specs.FontSet.Font.{more}
use Rattle.postscript_compact1.specs.Computed.Order.{parts}
use Rattle.postscript_compact1.specs.Computed.Parts.{part}
use Rattle.postscript_compact1.specs.FontSet.Value.{part_shown}
use Rattle.postscript_compact1.proofs.EachPart.{goes_on, ends, is_done, columns_more}
use Rattle.postscript_compact1.proofs.Outcomes.{refused_after}
use Rattle.postscript_compact1.proofs.font_set.parts.read_parts.Goals as goal

pub returns-in_err-part-clause-exact : goal.returns-in_err-part-clause-exact
unfolding parts
returns-in_err-part-clause-exact g c = λ honest.
    let so_far = c.loop-dictionary.invariant honest in
    let read = c.in_err-part.ensures.exact so_far.0.0 in
    let here = rw (so_far.0.1) at read.1 in
    let error = err_from_is_err_and c.from_residual.result c.from_residual.ensures.1 in (
      (read.0.0, read.0.1 ∙ so_far.0.1),
      rw (error.1, error.2) (λ other. refused_after _ _ _
          (ends (part c.args.manner c.args.start) so_far.1.0 c.args.dictionaries.now c.loop-dictionary.dictionary-index c.dictionary-item.result
          _ _ _ _ c.loop-dictionary-test.true c.dictionary-item.is (here other) so_far.1.2)),
    )

pub returns-in_err-push-clause-exact : goal.returns-in_err-push-clause-exact
returns-in_err-push-clause-exact g c = λ honest.
    let so_far = c.loop-dictionary.invariant honest in
    let read = c.in_ok-part.ensures.exact so_far.0.0 in
    let error = err_from_is_err_and c.from_residual-in_err-push.result c.from_residual-in_err-push.ensures.1 in
    ((read.0.0, read.0.1 ∙ so_far.0.1), rw (error.1, error.2) (λ other. absurd (other c.in_err-push.ensures.memory)))

pub loop-dictionary-preserved : goal.loop-dictionary-preserved
loop-dictionary-preserved g c = λ honest.
    let so_far = c.loop-dictionary.invariant honest in
    let read = c.in_ok-part.ensures.exact so_far.0.0 in
    let here = rw (so_far.0.1) at read.1 in
    let p = part_shown c.in_ok-part.part in (
      (read.0.0, read.0.1 ∙ so_far.0.1),
      (
        so_far.1.0 ++ p ∷ [],
        columns_more so_far.1.0 p ∙ (ap (λ k. more k p) so_far.1.1 ∙ sym c.in_ok-push.ensures.ok),
        goes_on (part c.args.manner c.args.start) so_far.1.0 c.args.dictionaries.now c.loop-dictionary.dictionary-index
            c.dictionary-item.result _ _ _ p _ c.loop-dictionary-test.true c.dictionary-item.is here so_far.1.2,
      ),
    )

pub returns-clause-exact : goal.returns-clause-exact
unfolding parts
returns-clause-exact g c = λ honest.
    let so_far = c.loop-dictionary.invariant honest in
    let all = is_done (part c.args.manner c.args.start) so_far.1.0 c.args.dictionaries.now c.loop-dictionary.dictionary-index _ _ _
    c.loop-dictionary-test.false so_far.1.2 in
    (so_far.0, rw (all, so_far.1.1) refl)
