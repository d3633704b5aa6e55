use Rattle.std.proofs.Common.{◌∙◌, [], ◌∷◌, ◌++◌, arith}
use Rattle.std.proofs.lemmas.Result.{err_from_is_err_and}
use Rattle.postscript_compact1.specs.Private.Passed.{passed_part, passed_parts}
use Rattle.postscript_compact1.proofs.EachPart.{goes_on, ends, is_done}
use Rattle.postscript_compact1.proofs.Outcomes.{refused_after}
use Rattle.postscript_compact1.proofs.font_set.parts.passed.pass_parts.Goals as goal

pub returns-in_err-pass_part-clause-exact : goal.returns-in_err-pass_part-clause-exact
unfolding passed_parts
returns-in_err-pass_part-clause-exact g c = λ honest.
    let so_far = c.loop-dictionary.invariant honest in
    let read = c.in_err-pass_part.ensures.exact so_far.0.0 in
    let here = rw (so_far.0.1) at read.1 in
    let error = err_from_is_err_and c.from_residual.result c.from_residual.ensures.1 in (
      (read.0.0, read.0.1 ∙ so_far.0.1),
      rw (error.1, error.2) (λ other. refused_after _ _ _
          (ends (passed_part c.args.manner c.args.start) so_far.1.0 c.args.dictionaries.now c.loop-dictionary.dictionary-index
          c.dictionary-item.result _ _ _ _ c.loop-dictionary-test.true c.dictionary-item.is (here other) so_far.1.1)),
    )

pub loop-dictionary-preserved : goal.loop-dictionary-preserved
loop-dictionary-preserved g c = λ honest.
    let so_far = c.loop-dictionary.invariant honest in
    let read = c.in_ok-pass_part.ensures.exact so_far.0.0 in
    let here = rw (so_far.0.1) at read.1 in (
      (read.0.0, read.0.1 ∙ so_far.0.1),
      (
        so_far.1.0 ++ tt ∷ [],
        goes_on (passed_part c.args.manner c.args.start) so_far.1.0 c.args.dictionaries.now c.loop-dictionary.dictionary-index
            c.dictionary-item.result _ _ _ tt _ c.loop-dictionary-test.true c.dictionary-item.is here so_far.1.1,
      ),
    )

pub returns-clause-exact : goal.returns-clause-exact
unfolding passed_parts
returns-clause-exact g c = grind (arith, is_done)
