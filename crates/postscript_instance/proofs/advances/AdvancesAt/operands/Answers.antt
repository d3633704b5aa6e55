use Rattle.std.proofs.Common.{◌≡◌, [], ◌∷◌, ◌++◌, ◌+◌, rules, subst, sym}
use Rattle.postscript_instance.specs.Advances.{AreAdvancesAt}
use Rattle.postscript_instance.proofs.Codes.{one-advance}
use Rattle.postscript_instance.proofs.advances.AdvancesAt.operands.Goals as goal

pub loop-glyph-preserved : goal.loop-glyph-preserved
loop-glyph-preserved c =
    let n = c.loop-glyph.glyph in
    let operand = c.in_ok-operand.field-0 in
    let items : c.push.new.self.items ≡ c.loop-glyph.operands.items ++ operand ∷ [] = search rules in
    subst (AreAdvancesAt c.args.self.now (n + 1)) (sym items)
    (one-advance c.args.self.now n c.loop-glyph.operands.items operand c.loop-glyph.invariant c.in_ok-operand.ensures.is)
