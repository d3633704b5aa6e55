use Rattle.std.proofs.Common.{sym, arith, ap, ℕ, ◌/◌, ◌%◌, ◌∙◌}
use Rattle.postscript_layout_write.proofs.Fields.{below-none, below-more, half}
use Rattle.postscript_layout_write.proofs.values.values_below.Goals as goal

pub loop-i-init : goal.loop-i-init
loop-i-init c = record { count = sym (below-none c.args.format); rest = omega arith; few = omega arith }

pub loop-i-preserved : goal.loop-i-preserved
loop-i-preserved c =
    let rest = c.loop-i.invariant.rest in
    record {
      count = (let more = below-more c.args.format c.loop-i._i in let count = c.loop-i.invariant.count in omega (arith, more, count, ap (λ (n : ℕ). n % 2) rest));
      rest = ap (λ (n : ℕ). n / 2) rest ∙ half c.args.format c.loop-i._i;
      few = omega arith;
    }
