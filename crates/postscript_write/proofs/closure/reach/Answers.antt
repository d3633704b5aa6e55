use Rattle.std.proofs.Common.{◌≡◌, ◌∙◌, sym, false, true, get_or}
use Rattle.std.proofs.lemmas.List.{get_or_default, length-set}
use Rattle.postscript_write.proofs.Reaching.{grow-marked, grow-one}
use Rattle.postscript_write.proofs.closure.reach.Goals as goal

pub returns-in_ok-push-clause-grown : goal.returns-in_ok-push-clause-grown
returns-in_ok-push-clause-grown c =
    let marks = c.args.marks.now.items in
    let off : get_or marks c.args.glyph false ≡ false = get_or_default marks c.args.glyph false c.index.result.now c.requires.there
    ∙ sym c.index.ensures ∙ c.if-not-index.true in
    rw c.in_ok-push.ensures.items
    (grow-one marks c.args.glyphs.now.items c.args.glyph c.requires.there off (length-set marks c.args.glyph true) c.requires.marked)

pub returns-else-not-index-clause-grown : goal.returns-else-not-index-clause-grown
returns-else-not-index-clause-grown c =
    let marks = c.args.marks.now.items in
    let set : get_or marks c.args.glyph false ≡ true = get_or_default marks c.args.glyph false c.index.result.now c.requires.there
    ∙ sym c.index.ensures ∙ c.if-not-index.false in
    grow-marked marks c.args.glyphs.now.items c.args.glyph set c.requires.marked
