use Rattle.std.proofs.Common.{◌≡◌, sym, ap, ◌∙◌, arith}
use Rattle.postscript_base.specs.Index.{number_at}
use Rattle.postscript_base.proofs.NumbersAt.{of_none}
use Rattle.postscript_base.proofs.index.number.number_at.Goals as goal

pub returns-in_default-clause-value : goal.returns-in_default-clause-value
returns-in_default-clause-value c =
    let none : c.args.size ≡ 0 = omega arith in
    sym (ap (number_at c.args.bytes.now c.args.place) none ∙ of_none c.args.bytes.now c.args.place)
