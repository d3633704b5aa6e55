use Rattle.std.proofs.Common.{◌≡◌, pos, refl, Some, arith}
use Rattle.std.proofs.lemmas.Int.{ints, to_z-of_z}
use Rattle.postscript_base.specs.Compact1.Decimal.{canonical}
use Rattle.postscript_base.proofs.Operands.{whole_operand}
use Rattle.postscript_base.proofs.compact1.operand.Operand.from_i32.Goals as goal

found : (c : goal.After-new) → c.new.result ≡ Some (canonical c.args.number (pos 0))
found c = grind (arith, ints, to_z-of_z, whole_operand)

pub unwrap-requires : goal.unwrap-requires
unwrap-requires c = rw (found c) refl

pub returns : goal.returns
returns c = let e = found c.before in let u = c.unwrap.ensures in cc
