use Rattle.std.proofs.Common.{◌≡◌, ap, refl, ◌∙◌, subst, ℕ, ◌+◌, List, arith, below_more}
use Rattle.std.proofs.lemmas.Result.{err_from_is_err_and}
use Rattle.postscript_kern.specs.Languages.{ScriptKerns, table_of}
use Rattle.postscript_kern.specs.Numbers.{word}
use Rattle.postscript_kern.specs.Units.{languages_units, script_units}
use Rattle.postscript_kern.proofs.Spending.{total_next, total_within}
use Rattle.postscript_kern.proofs.languages.scripts_kern.Goals as goal

script-is : (gpos : List ℕ) (list i script : ℕ) → list ≡ word gpos 4 → script ≡ table_of gpos list (list + 2) i →
    script ≡ table_of gpos (word gpos 4) (word gpos 4 + 2) i
script-is gpos list i script at is = is ∙ ap (λ (list : ℕ). table_of gpos list (list + 2) i) at

pub loop-i-preserved : goal.loop-i-preserved
loop-i-preserved c =
    let is = script-is c.args.gpos.now _ c.loop-i.i _ c.word-list.ensures.exact c.table_of-script.ensures.exact in
    record {
      each = below_more _ _ c.loop-i.invariant.each (subst (ScriptKerns c.args.gpos.now) is (c.in_ok-script_kerns.ensures.exact.0 c.if-not-branch.false));
      spends = omega arith;
      most = (let next = total_next (script_units c.args.gpos.now) c.loop-i.i (c.loop-i.i + 1) refl in
          let here = ap (languages_units c.args.gpos.now) is in let one = c.in_ok-pay.ensures.paid in
          let rest = c.in_ok-script_kerns.ensures.most in omega (arith, c.loop-i.invariant.most, one, rest, here, next));
    }

pub returns-then-not-branch-clause-most : goal.returns-then-not-branch-clause-most
returns-then-not-branch-clause-most c =
    let here = ap (languages_units c.args.gpos.now) (script-is c.args.gpos.now _ c.loop-i.i _ c.word-list.ensures.exact c.table_of-script.ensures.exact) in
    let count = c.word-i-end.ensures.exact ∙ ap (word c.args.gpos.now) c.word-list.ensures.exact in
    let all = total_within (script_units c.args.gpos.now) _ _ _ count c.loop-i-test.true in
    let one = c.in_ok-pay.ensures.paid in
    let rest = c.in_ok-script_kerns.ensures.most in
    omega (arith, c.loop-i.invariant.most, one, rest, here, all)

pub returns-in_err-pay-clause-lacking : goal.returns-in_err-pay-clause-lacking
returns-in_err-pay-clause-lacking c =
    let error = err_from_is_err_and c.from_residual.result c.from_residual.ensures.1 in
    let count = c.word-i-end.ensures.exact ∙ ap (word c.args.gpos.now) c.word-list.ensures.exact in
    let all = total_within (script_units c.args.gpos.now) _ _ _ count c.loop-i-test.true in
    rw (error.1) (omega (arith, c.loop-i.invariant.most, c.in_err-pay.ensures.lacking, all))

pub returns-in_err-script_kerns-clause-lacking : goal.returns-in_err-script_kerns-clause-lacking
returns-in_err-script_kerns-clause-lacking c =
    let error = err_from_is_err_and c.from_residual-in_err-script_kerns.result c.from_residual-in_err-script_kerns.ensures.1 in
    let here = ap (languages_units c.args.gpos.now) (script-is c.args.gpos.now _ c.loop-i.i _ c.word-list.ensures.exact c.table_of-script.ensures.exact) in
    let count = c.word-i-end.ensures.exact ∙ ap (word c.args.gpos.now) c.word-list.ensures.exact in
    let all = total_within (script_units c.args.gpos.now) _ _ _ count c.loop-i-test.true in
    let one = c.in_ok-pay.ensures.paid in
    rw (error.1) (omega (arith, c.loop-i.invariant.most, one, c.in_err-script_kerns.ensures.lacking, here, all))
