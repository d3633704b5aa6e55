use Rattle.std.proofs.Common.{inl, inr, refl}
use Rattle.std.proofs.lemmas.Result.{err_from_is_err_and}
use Rattle.postscript_files.proofs.Opening.{missing-so, no-advances-so, no-map-so}
use Rattle.postscript_files.proofs.face.Face.open.Goals as goal

pub returns-in_err-cff-clause-why : goal.returns-in_err-cff-clause-why
returns-in_err-cff-clause-why c =
    let error = err_from_is_err_and c.from_residual-in_err-cff.result c.from_residual-in_err-cff.ensures.1 in
    rw (error.1, error.2) (missing-so c.args.bytes.now c.args.number c.in_ok-file.file _ _ c.in_ok-file.ensures.exact
    (inl refl) c.in_err-cff.ensures)

pub returns-in_err-cmap-clause-why : goal.returns-in_err-cmap-clause-why
returns-in_err-cmap-clause-why c =
    let error = err_from_is_err_and c.from_residual-in_err-cmap.result c.from_residual-in_err-cmap.ensures.1 in
    rw (error.1, error.2) (missing-so c.args.bytes.now c.args.number c.in_ok-file.file _ _ c.in_ok-file.ensures.exact
    (inr (inl refl)) c.in_err-cmap.ensures)

pub returns-in_err-hhea-clause-why : goal.returns-in_err-hhea-clause-why
returns-in_err-hhea-clause-why c =
    let error = err_from_is_err_and c.from_residual-in_err-hhea.result c.from_residual-in_err-hhea.ensures.1 in
    rw (error.1, error.2) (missing-so c.args.bytes.now c.args.number c.in_ok-file.file _ _ c.in_ok-file.ensures.exact
    (inr (inr (inl refl))) c.in_err-hhea.ensures)

pub returns-in_err-hmtx-clause-why : goal.returns-in_err-hmtx-clause-why
returns-in_err-hmtx-clause-why c =
    let error = err_from_is_err_and c.from_residual-in_err-hmtx.result c.from_residual-in_err-hmtx.ensures.1 in
    rw (error.1, error.2) (missing-so c.args.bytes.now c.args.number c.in_ok-file.file _ _ c.in_ok-file.ensures.exact
    (inr (inr (inr (inl refl)))) c.in_err-hmtx.ensures)

pub returns-in_err-maxp-clause-why : goal.returns-in_err-maxp-clause-why
returns-in_err-maxp-clause-why c =
    let error = err_from_is_err_and c.from_residual-in_err-maxp.result c.from_residual-in_err-maxp.ensures.1 in
    rw (error.1, error.2) (missing-so c.args.bytes.now c.args.number c.in_ok-file.file _ _ c.in_ok-file.ensures.exact
    (inr (inr (inr (inr refl)))) c.in_err-maxp.ensures)

pub returns-in_err-map-clause-why : goal.returns-in_err-map-clause-why
returns-in_err-map-clause-why c =
    let error = err_from_is_err_and c.from_residual-in_err-map.result c.from_residual-in_err-map.ensures.1 in
    rw (error.1, error.2) (no-map-so c.args.bytes.now c.args.number c.in_ok-file.file _ _ c.in_ok-file.ensures.exact
    c.in_ok-cmap.ensures c.in_err-map.ensures)

pub returns-in_err-advances-clause-why : goal.returns-in_err-advances-clause-why
returns-in_err-advances-clause-why c =
    let error = err_from_is_err_and c.from_residual-in_err-advances.result c.from_residual-in_err-advances.ensures.1 in
    rw (error.1, error.2) (no-advances-so c.args.bytes.now c.args.number c.in_ok-file.file _ _ _ c.in_ok-file.ensures.exact
    c.in_ok-hhea.ensures c.in_ok-hmtx.ensures c.in_err-advances.ensures)
