use Rattle.std.proofs.Common.{sym, ◌∙◌}
use Rattle.postscript_view.proofs.Coding.{of_its_own, of_the_font}
use Rattle.postscript_view.proofs.font.FontView.font_matrix.Goals as goal

pub returns-then-tells-clause-found : goal.returns-then-tells-clause-found
returns-then-tells-clause-found c =
    of_its_own c.get.result c.args.self.now c.args.glyph c.in_ok-own.own.now c.in_ok-own.ensures.found
    (sym c.tells.ensures ∙ c.if-tells.true) c.get.ensures

pub returns-else-tells-clause-found : goal.returns-else-tells-clause-found
returns-else-tells-clause-found c =
    of_the_font c.get-else-tells.result c.args.self.now c.args.glyph c.in_ok-own.own.now c.in_ok-own.ensures.found
    (sym c.tells.ensures ∙ c.if-tells.false) c.get-else-tells.ensures
