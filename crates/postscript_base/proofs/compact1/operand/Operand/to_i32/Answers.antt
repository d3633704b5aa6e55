use Rattle.std.proofs.Common.{◌≡◌, arith, subst, to_z, of_z, ◌∙◌}
use Rattle.std.specs.Prelude.{IfSome, IfNone}
use Rattle.std.specs.Int.{w32, w64, w128}
use Rattle.std.specs.Int.RustNames.{unsigned_abs}
use Rattle.std.proofs.lemmas.Int.{ints, to_z-of_z}
use Rattle.postscript_base.specs.Compact1.Decimal.{IsOf32Bits}
use Rattle.postscript_base.proofs.Operands.{i32_below, i32_above, none_if_none, whole_if_some, finds_whole, scaled_at}
use Rattle.postscript_base.proofs.compact1.operand.Operand.to_i32.Goals as goal
use Rattle.postscript_base.proofs.compact1.operand.Operand.to_i32.Goals.{then-exponent-lt0-via-then-exponent-lt0, then-exponent-lt0-via-else-exponent-lt0+then-exponent-gt9}

pub returns-then-exponent-lt0-clause-exact : goal.returns-then-exponent-lt0-clause-exact
returns-then-exponent-lt0-clause-exact c =
    grind (
      arith,
      then-exponent-lt0-via-then-exponent-lt0,
      i32_below,
      ints,
      to_z-of_z,
      then-exponent-lt0-via-else-exponent-lt0+then-exponent-gt9,
      i32_above,
    )

pub returns-then-exponent-lt0-clause-none : goal.returns-then-exponent-lt0-clause-none
returns-then-exponent-lt0-clause-none c =
    none_if_none _ c.args.self.now c.mantissa-mantissa.ensures.operand (returns-then-exponent-lt0-clause-exact c)

pub returns-clause-exact : goal.returns-clause-exact
returns-clause-exact c =
    let d = c.args.self.now in
    let is = c.exponent-exponent.ensures in
    let low = c.if-exponent-lt0.false in
    let wide : to_z w128 (of_z w128 c.raised.result) ≡ c.raised.result = grind (arith, ints, to_z-of_z) in
    let power = wide ∙ c.raised.ensures
    ∙ scaled_at (to_z w64 (of_z w64 c.mantissa-mantissa.result)) d.mantissa
    (unsigned_abs (to_z w32 (of_z w32 c.exponent-exponent.result))) (unsigned_abs d.exponent) (grind (arith, ints, to_z-of_z))
    (grind (arith, ints, to_z-of_z)) in
    finds_whole c.in_32_bits.result d c.mantissa-mantissa.ensures.operand (grind (arith, ints, to_z-of_z))
    (subst (λ x. IfSome c.in_32_bits.result (λ v. (v ≡ x) × IsOf32Bits v)) power c.in_32_bits.ensures.some)
    (subst (λ x. IfNone c.in_32_bits.result (IsOf32Bits x → ⊥)) power c.in_32_bits.ensures.none)

pub returns-clause-some : goal.returns-clause-some
returns-clause-some c = whole_if_some c.in_32_bits.result c.args.self.now (returns-clause-exact c)

pub returns-clause-none : goal.returns-clause-none
returns-clause-none c = none_if_none c.in_32_bits.result c.args.self.now c.mantissa-mantissa.ensures.operand (returns-clause-exact c)
