use Rattle.std.proofs.Common.{◌∙◌, [], refl, sym}
use Rattle.std.proofs.lemmas.Result.{err_from_is_err_and}
use Rattle.postscript_view.proofs.Untelling.{negative, no_operand}
use Rattle.postscript_view.proofs.select.wanted_offset.Goals as goal

pub returns-in_err-first-clause-why : goal.returns-in_err-first-clause-why
returns-in_err-first-clause-why c =
    let error = err_from_is_err_and c.from_residual.result c.from_residual.ensures.1 in
    rw (error.1, error.2) (no_operand c.in_err-first.field-0.0 c.args.dictionary.now c.args.operator c.in_err-first.ensures.exact
    c.in_err-first.ensures.listed)

pub returns-clause-why : goal.returns-clause-why
returns-clause-why c =
    negative _ c.args.dictionary.now c.args.operator c.in_ok-first.field-0 (c.in_ok-first.ensures.exact [] 0)
    (sym c.offset_of.ensures ∙ c.in_default.is) refl
