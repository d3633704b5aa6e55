use Rattle.std.proofs.Common.{[], ◌∷◌, arith}
use Rattle.postscript_drawing.proofs.Items.{items-read}
use Rattle.postscript_drawing.proofs.flex.flex.Goals as goal

pub returns-in-len13 : goal.returns-in-len13
returns-in-len13 c =
    let operands = items-read c.args.operands.now
    (c.dx1-item.result ∷ c.dy1-item.result ∷ c.dx2-item.result ∷ c.dy2-item.result ∷ c.dx3-item.result ∷ c.dy3-item.result ∷ c.dx4-item.result ∷ c.dy4-item.result ∷ c.dx5-item.result ∷ c.dy5-item.result ∷ c.dx6-item.result ∷ c.dy6-item.result ∷ c._fd-item.result ∷ []) (omega arith) (
      c.dx1-item.is,
      (
        c.dy1-item.is,
        (
          c.dx2-item.is,
          (
            c.dy2-item.is,
            (
              c.dx3-item.is,
              (
                c.dy3-item.is,
                (c.dx4-item.is, (c.dy4-item.is, (c.dx5-item.is, (c.dy5-item.is, (c.dx6-item.is, (c.dy6-item.is, (c._fd-item.is, tt))))))),
              ),
            ),
          ),
        ),
      ),
    ) in
    rw operands (cc)
