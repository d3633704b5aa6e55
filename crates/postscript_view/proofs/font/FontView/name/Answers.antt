use Rattle.postscript_base.specs.Index.Lent.{items_of}
use Rattle.postscript_view.specs.Value.{view_shown}
use Rattle.postscript_view.proofs.Naming.{name_none, string_none}
use Rattle.postscript_view.proofs.font.FontView.name.Goals as goal

pub returns-in_default-clause-none : goal.returns-in_default-clause-none
returns-in_default-clause-none c = λ name h. c.in_default.ensures.none h.string.0 h.string.1

pub returns-clause-none : goal.returns-clause-none
returns-clause-none c =
    let font = c.args.self.now in
    let set = c.args.set.now in
    let glyph = c.args.glyph in
    name_none c.string.result (view_shown font) set glyph
    (string_none c.string.result set (items_of font.strings) glyph c.in-Some.identifier c.in-Some.ensures.found c.string.ensures)
