use Rattle.std.proofs.Common.{refl}
use Rattle.std.proofs.lemmas.Result.{err_from_is_err_and}
use Rattle.postscript_instance_file.specs.Faces.{IsVariableFace}
use Rattle.postscript_instance_file.specs.Refusals.{bad_font, heavy}
use Rattle.postscript_instance_file.specs.declared.face.VariableFace.{VariableFace}
use Rattle.postscript_instance_file.proofs.face.VariableFace.open.Goals as goal

pub returns-in_err-read-clause-why : goal.returns-in_err-read-clause-why
returns-in_err-read-clause-why c =
    let error = err_from_is_err_and c.from_residual-in_err-read.result c.from_residual-in_err-read.ensures.1 in
    rw (error.1) (bad_font _ (c.in-Some.cff2.now, c.in-Some.ensures, c.in_err-read.ensures.why) error.2)

pub returns-in-Some-heavy_table-clause-why : goal.returns-in-Some-heavy_table-clause-why
returns-in-Some-heavy_table-clause-why c =
    let face : VariableFace = record {
      file = c.args.file.now;
      font = c.in_ok-read.field-0;
      glyphs = c.in_ok-glyphs_of.field-0;
      advances = c.in_ok-advances_of.field-0;
      names = c.names_of.result;
      axes = c.in_ok-axes_of.field-0;
      maps = c.in_ok-maps_of.field-0;
      variations = c.in_ok-variations_of.field-0;
    } in
    let is : IsVariableFace c.args.file.now face = record {
      same = refl;
      cff2 = c.in-Some.cff2.now;
      table = c.in-Some.ensures;
      lent = c.in_ok-read.ensures.lent;
      laid_out = c.in_ok-read.ensures.found;
      advances = c.in_ok-advances_of.ensures.found;
      names = c.names_of.ensures;
      axes = c.in_ok-axes_of.ensures.found;
      maps = c.in_ok-maps_of.ensures.found;
      variations = c.in_ok-variations_of.ensures.found;
    } in
    heavy c.in-Some-heavy_table.name face is c.in-Some-heavy_table.ensures refl
