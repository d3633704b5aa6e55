use Rattle.std.proofs.Common.{◌≡◌, ◌∙◌, sym, ℤ, to_z, of_z, w32, rules}
use Rattle.postscript_c.specs.WholeFiles.{fit, no_face, no_table}
use Rattle.postscript_c.proofs.whole_files.asked_of.Goals as goal

pub returns-in_default-clause-end : goal.returns-in_default-clause-end
returns-in_default-clause-end c zero = no_face c.in_default.field-0 c.in_default.ensures.why

pub returns-in_default-table-clause-end : goal.returns-in_default-table-clause-end
returns-in_default-table-clause-end c zero = no_table c.in-Ok.file c.in-Ok.ensures.exact c.in_default-table.ensures

pub returns-clause-end : goal.returns-clause-end
returns-clause-end c zero =
    let same : to_z w32 (of_z w32 c.tell_fits_at_once.result) ≡ c.tell_fits_at_once.result = search rules in
    fit c.in-Ok.file c.in-Some.cff.now c.in-Ok.ensures.exact c.in-Some.ensures (c.tell_fits_at_once.ensures.fits (sym same ∙ zero))
