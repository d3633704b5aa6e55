use Rattle.std.proofs.Common.{length}
use Rattle.postscript_base.specs.Index.Lent.{items_of}
use Rattle.postscript_view.proofs.SameSets.{none_for, tied}
use Rattle.postscript_view.proofs.font.FontView.char_set.Goals as goal

pub returns-clause-none : goal.returns-clause-none
returns-clause-none c =
    let font = c.args.self.now in
    none_for c.open.result font.bytes.now font.dictionary c.len.result
    (length (items_of font.char_strings)) c.len.ensures c.open.ensures.none

pub returns-clause-same : goal.returns-clause-same
returns-clause-same c =
    let font = c.args.self.now in
    tied c.open.result font.bytes font.dictionary c.len.result
    (length (items_of font.char_strings)) c.len.ensures c.open.ensures.found c.open.ensures.none
