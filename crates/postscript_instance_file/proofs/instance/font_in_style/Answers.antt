use Rattle.std.proofs.Common.{subst, ℕ, List}
use Rattle.postscript_instance_file.specs.Instances.{IsFileWith}
use Rattle.std.proofs.lemmas.Result.{err_from_is_err_and}
use Rattle.postscript_instance_file.specs.Refusals.{NoFileWith, no_file, no_other_tables}
use Rattle.postscript_instance_file.proofs.instance.font_in_style.Goals as goal

pub returns-clause-written : goal.returns-clause-written
returns-clause-written c = record {
  font = c.in_ok-font.font.items;
  is = c.in_ok-font.ensures.written;
  has = subst (λ (font : List ℕ). IsFileWith font c.in_ok-file.file.items) c.deref.ensures.value c.in_ok-file.ensures.written;
}

pub returns-in_err-file-clause-why : goal.returns-in_err-file-clause-why
returns-in_err-file-clause-why c =
    let error = err_from_is_err_and c.from_residual-in_err-file.result c.from_residual-in_err-file.ensures.1 in
    let none = subst (λ (font : List ℕ). NoFileWith font c.in_err-file.field-0.0) c.deref.ensures.value c.in_err-file.ensures.why in
    rw (error.1, error.2) (no_file c.in_ok-font.font.items c.in_ok-font.ensures.written none)

pub returns-in_err-made-clause-why : goal.returns-in_err-made-clause-why
returns-in_err-made-clause-why c =
    let error = err_from_is_err_and c.from_residual-in_err-made.result c.from_residual-in_err-made.ensures.1 in
    rw (error.1, error.2) (no_other_tables c.in_ok-font.font.items c.in_ok-font.ensures.written c.in_err-made.ensures)
