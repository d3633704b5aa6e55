use Rattle.std.proofs.Common.{ap, refl, sym, subst, ◌+◌, ◌<◌, arith, below_more}
use Rattle.std.proofs.lemmas.Result.{err_from_is_err_and}
use Rattle.postscript_kern.specs.Languages.{LanguageKerns}
use Rattle.postscript_kern.specs.Numbers.{word}
use Rattle.postscript_kern.specs.Units.{language_units, listed_units}
use Rattle.postscript_kern.proofs.Spending.{total_next, total_within}
use Rattle.postscript_kern.proofs.languages.languages_kern.Goals as goal

pub returns-then-not-branch-clause-exact : goal.returns-then-not-branch-clause-exact
returns-then-not-branch-clause-exact c = (
  λ yes. absurd (cc),
  λ all. (
      let less : c.loop-j.j < word c.args.gpos.now (c.args.script + 2) = omega (arith, c.word-j-end.ensures.exact) in
      let here = subst (LanguageKerns c.args.gpos.now) (sym c.table_of-language.ensures.exact) (all c.loop-j.j less) in
      let yes = c.in_ok-language_kerns.ensures.exact.1 here in
      let no = c.if-not-branch.true in
      absurd (cc)
      ),
)

pub loop-j-preserved : goal.loop-j-preserved
loop-j-preserved c = record {
  each = below_more _ _ c.loop-j.invariant.each
      (subst (LanguageKerns c.args.gpos.now) c.table_of-language.ensures.exact (c.in_ok-language_kerns.ensures.exact.0 c.if-not-branch.false));
  spends = omega arith;
  most = (let next = total_next (listed_units c.args.gpos.now c.args.script) c.loop-j.j (c.loop-j.j + 1) refl in
      let here = ap (language_units c.args.gpos.now) c.table_of-language.ensures.exact in let one = c.in_ok-pay.ensures.paid in
      let rest = c.in_ok-language_kerns.ensures.most in omega (arith, c.loop-j.invariant.most, one, rest, here, next));
}

pub returns-then-not-branch-clause-most : goal.returns-then-not-branch-clause-most
returns-then-not-branch-clause-most c =
    let all = total_within (listed_units c.args.gpos.now c.args.script) _ _ _ c.word-j-end.ensures.exact c.loop-j-test.true in
    let here = ap (language_units c.args.gpos.now) c.table_of-language.ensures.exact in
    let one = c.in_ok-pay.ensures.paid in
    let rest = c.in_ok-language_kerns.ensures.most in
    omega (arith, c.loop-j.invariant.most, one, rest, here, all)

pub returns-in_err-pay-clause-lacking : goal.returns-in_err-pay-clause-lacking
returns-in_err-pay-clause-lacking c =
    let error = err_from_is_err_and c.from_residual.result c.from_residual.ensures.1 in
    let all = total_within (listed_units c.args.gpos.now c.args.script) _ _ _ c.word-j-end.ensures.exact c.loop-j-test.true in
    rw (error.1) (omega (arith, c.loop-j.invariant.most, c.in_err-pay.ensures.lacking, all))

pub returns-in_err-language_kerns-clause-lacking : goal.returns-in_err-language_kerns-clause-lacking
returns-in_err-language_kerns-clause-lacking c =
    let error = err_from_is_err_and c.from_residual-in_err-language_kerns.result c.from_residual-in_err-language_kerns.ensures.1 in
    let all = total_within (listed_units c.args.gpos.now c.args.script) _ _ _ c.word-j-end.ensures.exact c.loop-j-test.true in
    let here = ap (language_units c.args.gpos.now) c.table_of-language.ensures.exact in
    let one = c.in_ok-pay.ensures.paid in
    rw (error.1) (omega (arith, c.loop-j.invariant.most, one, c.in_err-language_kerns.ensures.lacking, here, all))
