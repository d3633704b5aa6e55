use Rattle.postscript_view.specs.Value.{view_shown}
use Rattle.postscript_view.proofs.Coding.{code_found, code_none}
use Rattle.postscript_view.proofs.font.FontView.glyph_of_code.Goals as goal

pub returns-clause-found : goal.returns-clause-found
returns-clause-found c =
    let font = view_shown c.args.self.now in
    code_found c.glyph_of.result font c.args.encoding.now c.args.set.now c.args.code c.len.result c.len.ensures
    (λ keyed. let is = c.is_cid_keyed.ensures.1 keyed in let not = c.if-is_cid_keyed.false in absurd (cc)) c.glyph_of.ensures.found

pub returns-clause-none : goal.returns-clause-none
returns-clause-none c =
    code_none c.glyph_of.result
    (view_shown c.args.self.now) c.args.encoding.now c.args.set.now c.args.code c.len.result c.len.ensures c.glyph_of.ensures.none
