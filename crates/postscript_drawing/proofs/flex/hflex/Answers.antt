use Rattle.std.proofs.Common.{◌≡◌, neg_ℤ, [], ◌∷◌, arith, rules, to_z, of_z, w64, sym, ap, ◌∙◌}
use Rattle.postscript_drawing.proofs.Flexes.{same-two}
use Rattle.postscript_drawing.proofs.Items.{items-read}
use Rattle.postscript_drawing.proofs.flex.hflex.Goals as goal
use Rattle.postscript_drawing.specs.Strokes.{by, hflex}

pub returns-in-len7 : goal.returns-in-len7
returns-in-len7 c =
    let operands = items-read c.args.operands.now
    (c.dx1-item.result ∷ c.dx2-item.result ∷ c.dy2-item.result ∷ c.dx3-item.result ∷ c.dx4-item.result ∷ c.dx5-item.result ∷ c.dx6-item.result ∷ []) (omega arith)
    (c.dx1-item.is, (c.dx2-item.is, (c.dy2-item.is, (c.dx3-item.is, (c.dx4-item.is, (c.dx5-item.is, (c.dx6-item.is, tt))))))) in
    let dy : to_z w64 (of_z w64 c.wide.result) ≡ c.dy2-item.result = search rules in
    let last = c.vector_back.ensures ∙ ap (λ y. by c.dx5-item.result (neg_ℤ y)) dy in
    ap hflex operands
    ∙ sym (same-two c.level.ensures c.vector_of.ensures c.level-in-len7.ensures c.level-in-len7-2.ensures last c.level-in-len7-3.ensures)
