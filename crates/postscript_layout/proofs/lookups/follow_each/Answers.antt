use Rattle.std.proofs.Common.{ℕ, ◌+◌, arith}
use Rattle.std.specs.Prelude.{slice_index}
use Rattle.postscript_layout.specs.Closure.{Rules}
use Rattle.postscript_layout.specs.Substitutions.{ByIndex}
use Rattle.postscript_layout.proofs.Cases.{follows-chosen}
use Rattle.postscript_layout.proofs.Following.{below-more}
use Rattle.postscript_layout.specs.Costs.{index_cost}
use Rattle.postscript_layout.proofs.Costs.{if-err, part-short, part-within, parts-within, short-by}
use Rattle.postscript_layout.proofs.lookups.follow_each.Goals as goal

pub loop-k-preserved : goal.loop-k-preserved
loop-k-preserved c =
    let gsub = c.args.gsub.now in
    let rules : ℕ → Rules = λ k. ByIndex gsub (slice_index c.args.lookups.now k) in
    record {
      follows = below-more rules c.loop-k.k c.args.set.now c.loop-k.set c.follow_index.new.set c.loop-k.invariant.follows
          c.in_ok-follow_index.ensures.done;
      spent = omega (arith, c.pay.ensures.spends, c.follow_index.ensures.spends, c.loop-k.invariant.spent);
      within = part-within (λ k. 1 + index_cost gsub (slice_index c.args.lookups.now k)) c.loop-k.k c.args.limit.now c.loop-k.limit c.follow_index.new.limit
          c.loop-k.invariant.within
          (let part = c.in_ok-follow_index.ensures.within in omega (arith, c.in_ok-pay.ensures.paid, part));
    }

pub returns-clause-done : goal.returns-clause-done
returns-clause-done c =
    let past = c.loop-k-test.false in
    let end = c.loop-k.auto.k-end in
    follows-chosen c.args.gsub.now c.args.lookups.now c.loop-k.k c.args.set.now c.loop-k.set (omega (arith, past, end)) c.loop-k.invariant.follows

pub returns-in_err-follow_index-clause-why : goal.returns-in_err-follow_index-clause-why
returns-in_err-follow_index-clause-why c =
    let cost : ℕ → ℕ = λ k. 1 + index_cost c.args.gsub.now (slice_index c.args.lookups.now k) in
    let k = c.loop-k.k in
    if-err c.from_residual-in_err-follow_index.result c.in_err-follow_index.field-0.0 _ c.from_residual-in_err-follow_index.ensures.1
    (part-short cost k _ c.args.limit.now c.loop-k.limit c.follow_index.new.limit _ c.loop-k.invariant.within c.loop-k-test.true
    (short-by _ (cost k) c.loop-k.limit c.pay.new.limit c.follow_index.new.limit _ (omega (arith, c.in_ok-pay.ensures.paid))
    c.in_err-follow_index.ensures.why))

pub returns-in_err-pay-clause-why : goal.returns-in_err-pay-clause-why
returns-in_err-pay-clause-why c =
    let cost : ℕ → ℕ = λ k. 1 + index_cost c.args.gsub.now (slice_index c.args.lookups.now k) in
    let k = c.loop-k.k in
    if-err c.from_residual.result c.in_err-pay.field-0.0 _ c.from_residual.ensures.1
    (part-short cost k _ c.args.limit.now c.loop-k.limit c.pay.new.limit _ c.loop-k.invariant.within c.loop-k-test.true
    (short-by 1 (cost k) c.loop-k.limit c.loop-k.limit c.pay.new.limit _ (omega arith) c.in_err-pay.ensures.why))

pub returns-clause-within : goal.returns-clause-within
returns-clause-within c =
    let past = c.loop-k-test.false in
    let end = c.loop-k.auto.k-end in
    parts-within (λ k. 1 + index_cost c.args.gsub.now (slice_index c.args.lookups.now k)) c.loop-k.k _ c.args.limit.now c.loop-k.limit c.loop-k.invariant.within
    (omega (arith, past, end))
