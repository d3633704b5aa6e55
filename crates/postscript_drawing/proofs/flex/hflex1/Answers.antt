use Rattle.std.proofs.Common.{◌≡◌, neg_ℤ, [], ◌∷◌, arith, rules, to_z, of_z, w64, ◌+ℤ◌, sym, ap, ◌∙◌}
use Rattle.postscript_drawing.proofs.Flexes.{same-two}
use Rattle.postscript_drawing.proofs.Items.{items-read}
use Rattle.postscript_drawing.proofs.flex.hflex1.Goals as goal
use Rattle.postscript_drawing.specs.Strokes.{by, hflex1}

pub returns-in-len9 : goal.returns-in-len9
returns-in-len9 c =
    let operands = items-read c.args.operands.now
    (c.dx1-item.result ∷ c.dy1-item.result ∷ c.dx2-item.result ∷ c.dy2-item.result ∷ c.dx3-item.result ∷ c.dx4-item.result ∷ c.dx5-item.result ∷ c.dy5-item.result ∷ c.dx6-item.result ∷ []) (omega arith) (
      c.dx1-item.is,
      (
        c.dy1-item.is,
        (c.dx2-item.is, (c.dy2-item.is, (c.dx3-item.is, (c.dx4-item.is, (c.dx5-item.is, (c.dy5-item.is, (c.dx6-item.is, tt))))))),
      ),
    ) in
    let dy : to_z w64 (of_z w64 c.sum_of_three.result) ≡ c.dy1-item.result +ℤ c.dy2-item.result +ℤ c.dy5-item.result = search rules in
    let last = c.vector_back.ensures ∙ ap (λ y. by c.dx6-item.result (neg_ℤ y)) dy in
    ap hflex1 operands
    ∙ sym (same-two c.vector_of.ensures c.vector_of-in-len9.ensures c.level.ensures c.level-in-len9.ensures c.vector_of-in-len9-2.ensures last)
