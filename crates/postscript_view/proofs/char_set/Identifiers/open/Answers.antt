use Rattle.std.proofs.lemmas.Result.{err_from_is_err_and}
use Rattle.postscript_view.specs.Untold.{OfItsOffset}
use Rattle.postscript_view.proofs.Untelling.{no_set}
use Rattle.postscript_view.proofs.char_set.Identifiers.open.Goals as goal

pub returns-in_err-offset-clause-why : goal.returns-in_err-offset-clause-why
returns-in_err-offset-clause-why c =
    let error = err_from_is_err_and c.from_residual.result c.from_residual.ensures.1 in
    rw (error.1, error.2) (OfItsOffset c.in_err-offset.ensures.why)

pub returns-clause-why : goal.returns-clause-why
returns-clause-why c =
    no_set c.for_operand.result c.args.bytes.now c.args.dictionary.now c.args.glyphs c.in_ok-offset.offset c.in_ok-offset.ensures.found
    c.for_operand.ensures.why
