use Rattle.postscript_base.proofs.Decimals.{one_form}
use Rattle.postscript_base.proofs.compact1.laws.hash_alike.Goals as goal

pub returns : goal.returns
returns c = λ a b f g h. let e = one_form a.mantissa a.exponent b.mantissa b.exponent f.canonical g.canonical h in cc
