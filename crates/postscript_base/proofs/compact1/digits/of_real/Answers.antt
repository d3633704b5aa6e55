use Rattle.std.proofs.Common.{None, ◌*◌, [], ◌++◌, ◌^◌, length, ap, sym, ◌∙◌, arith, rules}
use Rattle.std.proofs.lemmas.Int.{ints}
use Rattle.postscript_base.specs.Compact1.Decimal.{digits_number, real_value}
use Rattle.postscript_base.proofs.Zeros.{as_long, as_short}
use Rattle.postscript_base.proofs.RealValues.{long_none, zero_same, real_some, real_none, nothing, not_last, real_exact, signed_zero}
use Rattle.postscript_base.proofs.Operands.{zero_operand}
use Rattle.postscript_base.proofs.compact1.digits.of_real.Goals as goal

pub returns-then-kept-clause-none : goal.returns-then-kept-clause-none
returns-then-kept-clause-none c = λ d operand same.
    let n = digits_number (c.args.whole.now ++ c.args.fraction.now) in
    let kept = c.push_all-kept.ensures.keeps c.args.whole.now (c.push_all-front.ensures.keeps [] c.new.ensures.keeps) in
    long_none c.args.negative n _ d (as_long _ _ _ n c.if-kept.true kept) operand same

pub returns-then-kept-eq0-clause-some : goal.returns-then-kept-eq0-clause-some
returns-then-kept-eq0-clause-some c =
    let n = digits_number (c.args.whole.now ++ c.args.fraction.now) in
    let kept = c.push_all-kept.ensures.keeps c.args.whole.now (c.push_all-front.ensures.keeps [] c.new.ensures.keeps) in
    let short = as_short _ _ _ n c.if-kept.false kept in
    zero_same c.args.negative n _ c.zero.result (nothing _ _ n c.if-kept-eq0.true short) c.zero.ensures.value.0

pub overflow_add-scale : goal.overflow_add-scale
overflow_add-scale c = let s = c.with_sign-shift.ensures in omega (arith, ints)

pub of_digits-requires : goal.of_digits-requires
of_digits-requires c =
    let n = digits_number (c.args.whole.now ++ c.args.fraction.now) in
    let kept = c.push_all-kept.ensures.keeps c.args.whole.now (c.push_all-front.ensures.keeps [] c.new.ensures.keeps) in
    rw c.from-2.ensures (not_last c.push_all-kept.result.mantissa c.push_all-kept.result.zeros n c.if-kept-eq0.false
    (as_short _ _ _ n c.if-kept.false kept))

pub returns-clause-some : goal.returns-clause-some
returns-clause-some c =
    let n = digits_number (c.args.whole.now ++ c.args.fraction.now) in
    let kept = c.push_all-kept.ensures.keeps c.args.whole.now (c.push_all-front.ensures.keeps [] c.new.ensures.keeps) in
    let short = as_short _ _ _ n c.if-kept.false kept in
    real_some c.of_digits.result c.args.negative c.args.down n c.from-2.result c.push_all-kept.result.zeros (length c.args.fraction.now)
    (digits_number c.args.exponent.now) c.up_to_far-far.result _ c.of_digits.ensures.some c.of_digits.ensures.operand
    (short.whole ∙ ap (λ k. k * 10 ^ c.push_all-kept.result.zeros) (sym c.from-2.ensures))
    (record {
      few = search rules;
      few_places = search rules;
      near = c.up_to_far-far.ensures.value;
      computed = let s = c.with_sign-shift.ensures.value in let z = c.with_sign-shift.ensures.size in
          let near = c.up_to_far-far.ensures.near in omega (arith, ints);
    })

pub returns-clause-none : goal.returns-clause-none
returns-clause-none c =
    let n = digits_number (c.args.whole.now ++ c.args.fraction.now) in
    let kept = c.push_all-kept.ensures.keeps c.args.whole.now (c.push_all-front.ensures.keeps [] c.new.ensures.keeps) in
    let short = as_short _ _ _ n c.if-kept.false kept in
    real_none c.of_digits.result c.args.negative c.args.down n c.from-2.result c.push_all-kept.result.zeros (length c.args.fraction.now)
    (digits_number c.args.exponent.now) c.up_to_far-far.result _ c.of_digits.ensures.none
    (short.whole ∙ ap (λ k. k * 10 ^ c.push_all-kept.result.zeros) (sym c.from-2.ensures))
    (rw c.from-2.ensures (not_last c.push_all-kept.result.mantissa c.push_all-kept.result.zeros n c.if-kept-eq0.false short))
    (record {
      few = search rules;
      few_places = search rules;
      near = c.up_to_far-far.ensures.value;
      computed = let s = c.with_sign-shift.ensures.value in let z = c.with_sign-shift.ensures.size in
          let near = c.up_to_far-far.ensures.near in omega (arith, ints);
    })

pub returns-clause-exact : goal.returns-clause-exact
returns-clause-exact c =
    let a = c.args in
    real_exact c.of_digits.result (real_value a.negative a.whole.now a.fraction.now a.down a.exponent.now) c.of_digits.ensures.operand
    (returns-clause-some c) (returns-clause-none c)

pub returns-then-kept-clause-exact : goal.returns-then-kept-clause-exact
returns-then-kept-clause-exact c =
    let a = c.args in
    real_exact None (real_value a.negative a.whole.now a.fraction.now a.down a.exponent.now) tt tt (returns-then-kept-clause-none c)

pub returns-then-kept-eq0-clause-exact : goal.returns-then-kept-eq0-clause-exact
returns-then-kept-eq0-clause-exact c =
    let a = c.args in
    let n = digits_number (a.whole.now ++ a.fraction.now) in
    let kept = c.push_all-kept.ensures.keeps a.whole.now (c.push_all-front.ensures.keeps [] c.new.ensures.keeps) in
    let short = as_short _ _ _ n c.if-kept.false kept in
    let z = c.zero.ensures.value in
    zero_operand c.zero.result _ _ z.0 z.1 (signed_zero a.negative n (nothing _ _ n c.if-kept-eq0.true short))
