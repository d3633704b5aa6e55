use Rattle.std.proofs.lemmas.Result.{err_from_is_err_and}
use Rattle.postscript_files.proofs.Others.{if-file-with, if-unwritten, unlisted}
use Rattle.postscript_files.proofs.flat.with_font.Goals as goal

pub returns-clause-file : goal.returns-clause-file
returns-clause-file c =
    if-file-with c.file_with.result c.args.face.now c.args.font.now c.in_ok-tables.tables.items c.deref.result.now c.deref.ensures.value
    c.in_ok-tables.ensures.others c.in_ok-tables.ensures.listed c.file_with.ensures.file

pub returns-clause-refused : goal.returns-clause-refused
returns-clause-refused c =
    if-unwritten c.file_with.result c.args.face.now c.args.most c.args.font.now c.in_ok-tables.tables.items c.deref.result.now
    c.deref.ensures.value c.in_ok-tables.ensures.others c.in_ok-tables.ensures.listed c.file_with.ensures.refused

pub returns-in_err-tables-clause-refused : goal.returns-in_err-tables-clause-refused
returns-in_err-tables-clause-refused c =
    let error = err_from_is_err_and c.from_residual.result c.from_residual.ensures.1 in
    rw (error.1, error.2) (unlisted _ c.args.face.now c.args.most c.args.font.now c.in_err-tables.ensures.refused)
