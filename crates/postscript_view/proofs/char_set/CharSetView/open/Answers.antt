use Rattle.postscript_view.proofs.Coding.{all_err}
use Rattle.postscript_view.proofs.char_set.CharSetView.open.Goals as goal

pub returns-in_err-identifiers-clause-none : goal.returns-in_err-identifiers-clause-none
returns-in_err-identifiers-clause-none c =
    all_err c.from_residual.result (λ set h. c.in_err-identifiers.ensures.none set.identifiers h.identifiers)
