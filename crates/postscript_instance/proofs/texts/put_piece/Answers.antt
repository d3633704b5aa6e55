use Rattle.postscript_instance.specs.Texts.{width_numbers}
use Rattle.postscript_instance.proofs.Rests.{joined-held}
use Rattle.postscript_instance.proofs.texts.put_piece.Goals as goal

pub returns-clause-held : goal.returns-clause-held
returns-clause-held c =
    let piece = c.args.piece in
    joined-held (width_numbers c.args.width) _ c.in_ok-put_width.ensures.held
    (joined-held piece.stems.now piece.operands.now c.in_ok-put_numbers.ensures.held c.in_ok-put_numbers-2.ensures.held)
