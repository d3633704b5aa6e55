use Rattle.std.proofs.Common.{◌<◌, arith, sym, subst, length, List}
use Rattle.std.proofs.lemmas.Result.{err_from_is_err_and}
use Rattle.postscript_sfnt_write.specs.declared.file.Table.{Table}
use Rattle.postscript_instance_file.specs.Instances.{HaveFont}
use Rattle.postscript_instance_file.specs.Refusals.{no_file_of, no_tables}
use Rattle.postscript_instance_file.proofs.instance.write_file.Goals as goal

pub returns-clause-written : goal.returns-clause-written
returns-clause-written c = record {
  tables = c.as_slice.result.now;
  have = subst (λ (xs : List Table). HaveFont xs c.args.font.now) (sym c.as_slice.ensures.value) c.in_ok-tables.ensures.have;
  written = c.in_ok-file.ensures.file;
}

pub returns-clause-sound : goal.returns-clause-sound
returns-clause-sound c =
    let have = subst (λ (xs : List Table). HaveFont xs c.args.font.now) (sym c.as_slice.ensures.value) c.in_ok-tables.ensures.have in
    let below = have.there.1 in
    c.in_ok-file.ensures.sound (let some : 0 < length c.as_slice.result.now = omega (arith, below) in some)

pub returns-in_err-file-clause-why : goal.returns-in_err-file-clause-why
returns-in_err-file-clause-why c =
    let error = err_from_is_err_and c.from_residual-in_err-file.result c.from_residual-in_err-file.ensures.1 in
    let have = subst (λ (xs : List Table). HaveFont xs c.args.font.now) (sym c.as_slice.ensures.value) c.in_ok-tables.ensures.have in
    rw (error.1, error.2) (no_file_of c.as_slice.result.now have c.in_err-file.ensures.why)

pub returns-in_err-tables-clause-why : goal.returns-in_err-tables-clause-why
returns-in_err-tables-clause-why c =
    let error = err_from_is_err_and c.from_residual.result c.from_residual.ensures.1 in
    rw (error.1) (no_tables error.2)
