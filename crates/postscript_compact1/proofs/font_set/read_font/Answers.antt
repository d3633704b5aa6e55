use Rattle.std.proofs.Common.{◌∙◌, sym}
use Rattle.std.proofs.lemmas.Result.{err_from_is_err_and}
use Rattle.postscript_compact1.specs.Computed.Order.{font_by}
use Rattle.postscript_compact1.proofs.Outcomes.{refused_after, got}
use Rattle.postscript_compact1.proofs.font_set.read_font.Goals as goal

pub returns-in_err-parts-clause-exact : goal.returns-in_err-parts-clause-exact
unfolding font_by
returns-in_err-parts-clause-exact g c = λ honest.
    let start = c.in_ok-start.ensures.exact honest in
    let same = got _ _ _ _ start.1 in
    let header = c.in_ok-header.ensures.exact start.0.0 in
    let tables = c.in_ok-tables.ensures.exact header.0.0 in
    let parts = c.in_err-parts.ensures.exact tables.0.0 in
    let header_here = rw (start.0.1, sym same.1) at header.1 in
    let tables_here = rw (header.0.1, start.0.1, sym same.0) at tables.1 in
    let parts_here = rw (tables.0.1, header.0.1, start.0.1, sym same.0, c.deref.ensures.value) at parts.1 in
    let error = err_from_is_err_and c.from_residual-in_err-parts.result c.from_residual-in_err-parts.ensures.1 in (
      (parts.0.0, parts.0.1 ∙ (tables.0.1 ∙ (header.0.1 ∙ start.0.1))),
      rw (error.1, error.2, header_here, tables_here) (λ other. refused_after _ _ _ (parts_here other)),
    )
