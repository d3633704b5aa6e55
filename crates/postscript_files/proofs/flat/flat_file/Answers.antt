use Rattle.std.proofs.lemmas.Result.{err_from_is_err_and}
use Rattle.postscript_files.proofs.Others.{flat-so, if-not-flat, no-cff-so, no-font-so}
use Rattle.postscript_files.proofs.flat.flat_file.Goals as goal

pub returns-clause-flat : goal.returns-clause-flat
returns-clause-flat c =
    flat-so c.with_font.result c.args.file.now c.args.number c.in_ok-face.face c.in_ok-cff.cff.now c.in_ok-font.font.items c.deref.result.now
    c.in_ok-face.ensures.exact c.in_ok-cff.ensures c.in_ok-font.ensures.font c.deref.ensures.value c.with_font.ensures.file

pub returns-clause-refused : goal.returns-clause-refused
returns-clause-refused c =
    if-not-flat c.with_font.result c.args.file.now c.args.number c.in_ok-face.face c.in_ok-cff.cff.now c.in_ok-font.font.items
    c.deref.result.now c.in_ok-face.ensures.exact c.in_ok-cff.ensures c.in_ok-font.ensures.font c.deref.ensures.value
    c.with_font.ensures.refused

pub returns-in_err-cff-clause-refused : goal.returns-in_err-cff-clause-refused
returns-in_err-cff-clause-refused c =
    let error = err_from_is_err_and c.from_residual-in_err-cff.result c.from_residual-in_err-cff.ensures.1 in
    rw (error.1, error.2) (no-cff-so c.args.file.now c.args.number c.in_ok-face.face _ c.in_ok-face.ensures.exact c.in_err-cff.ensures)

pub returns-in_err-font-clause-refused : goal.returns-in_err-font-clause-refused
returns-in_err-font-clause-refused c =
    let error = err_from_is_err_and c.from_residual-in_err-font.result c.from_residual-in_err-font.ensures.1 in
    rw (error.1, error.2) (no-font-so c.args.file.now c.args.number c.in_ok-face.face _ _ c.in_ok-face.ensures.exact c.in_ok-cff.ensures
    c.in_err-font.ensures.refused)
