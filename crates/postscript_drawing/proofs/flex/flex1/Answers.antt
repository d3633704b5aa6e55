use Rattle.std.proofs.Common.{◌≡◌, [], ◌∷◌, arith, rules, to_z, of_z, w64, ◌+ℤ◌, sym, ap, ◌∙◌}
use Rattle.postscript_drawing.proofs.Flexes.{same-two}
use Rattle.postscript_drawing.proofs.Items.{items-read}
use Rattle.postscript_drawing.proofs.flex.flex1.Goals as goal
use Rattle.postscript_drawing.specs.Strokes.{back, flex1}

pub returns-in-len11 : goal.returns-in-len11
returns-in-len11 c =
    let operands = items-read c.args.operands.now
    (c.dx1-item.result ∷ c.dy1-item.result ∷ c.dx2-item.result ∷ c.dy2-item.result ∷ c.dx3-item.result ∷ c.dy3-item.result ∷ c.dx4-item.result ∷ c.dy4-item.result ∷ c.dx5-item.result ∷ c.dy5-item.result ∷ c.d6-item.result ∷ []) (omega arith) (
      c.dx1-item.is,
      (
        c.dy1-item.is,
        (
          c.dx2-item.is,
          (
            c.dy2-item.is,
            (c.dx3-item.is, (c.dy3-item.is, (c.dx4-item.is, (c.dy4-item.is, (c.dx5-item.is, (c.dy5-item.is, (c.d6-item.is, tt))))))),
          ),
        ),
      ),
    ) in
    let dx : to_z w64 (of_z w64 c.sum_of_five-dx.result) ≡ c.dx1-item.result +ℤ c.dx2-item.result +ℤ c.dx3-item.result +ℤ
    c.dx4-item.result +ℤ c.dx5-item.result = search rules in
    let dy : to_z w64 (of_z w64 c.sum_of_five-dy.result) ≡ c.dy1-item.result +ℤ c.dy2-item.result +ℤ c.dy3-item.result +ℤ
    c.dy4-item.result +ℤ c.dy5-item.result = search rules in
    let last = c.back.ensures
    ∙ (ap (λ x. back x (to_z w64 (of_z w64 c.sum_of_five-dy.result)) c.d6-item.result) dx
    ∙ ap (λ y. back (c.dx1-item.result +ℤ c.dx2-item.result +ℤ c.dx3-item.result +ℤ c.dx4-item.result +ℤ c.dx5-item.result) y
    c.d6-item.result) dy) in
    ap flex1 operands
    ∙ sym (same-two c.vector_of.ensures c.vector_of-in-len11.ensures c.vector_of-in-len11-2.ensures c.vector_of-in-len11-3.ensures c.vector_of-in-len11-4.ensures last)
