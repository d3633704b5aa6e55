use Rattle.std.proofs.lemmas.Result.{err_from_is_err_and}
use Rattle.std.proofs.Common.{◌≡◌, [], ◌++◌, ap, subst, sym, ◌∙◌, rules}
use Rattle.postscript_outline.proofs.Receiving.{list-received}
use Rattle.postscript_variable.specs.Charstrings.{run_from}
use Rattle.postscript_variable.specs.Limit.{nothing}
use Rattle.postscript_variable.specs.Programs.{begun}
use Rattle.postscript_variable_font.specs.Drawn.{IsOutlineOf, origin}
use Rattle.postscript_variable_font.proofs.drawing.outline_of.Goals as goal

pub returns-in_err-segments-clause-spends : goal.returns-in_err-segments-clause-spends
returns-in_err-segments-clause-spends c =
    let error = err_from_is_err_and c.from_residual.result c.from_residual.ensures.1 in
    rw error.1 ((run_from c.args.charstring).costs, nothing)

pub returns-in-Ok-clause-drawn : goal.returns-in-Ok-clause-drawn
returns-in-Ok-clause-drawn c =
    let drawn = c.in-Ok.ensures.drawn in
    let empty : c.in_ok-segments.segments.items ≡ [] = search rules in
    let same : c.draw.new.sink.items ≡ drawn.segments = list-received drawn.segments _ _ drawn.taken
    ∙ ap (λ xs. xs ++ drawn.segments) empty in
    subst (λ xs. IsOutlineOf origin (begun (run_from c.args.charstring)) xs) (sym same) drawn.drawn
