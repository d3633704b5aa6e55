use Rattle.std.proofs.Common.{◌≡◌, ◌∙◌, subst, ℕ, ◌+◌, ◌*◌, arith, ◌<◌}
use Rattle.postscript_layout.specs.Closure.{Rules}
use Rattle.postscript_layout.specs.Steps.{Below, Follows, in_range}
use Rattle.postscript_layout.proofs.Following.{below-more}
use Rattle.postscript_layout.specs.Costs.{range_cost}
use Rattle.postscript_layout.proofs.Costs.{if-err, part-short, part-within, parts-within, short-by}
use Rattle.postscript_layout.proofs.lookups.follow_ranges.Goals as goal

pub loop-r-preserved : goal.loop-r-preserved
loop-r-preserved c =
    let gsub = c.args.gsub.now in
    let b = c.loop-r.set in
    let d = c.follow_range.new.set in
    let rules : ℕ → Rules = λ r. in_range gsub c.args.kind c.args.subtable (c.args.coverage + 4 + r * 6) in
    record {
      follows = below-more rules c.loop-r.r c.args.set.now b d c.loop-r.invariant.follows
          (c.in_ok-follow_range.ensures.done);
      spent = omega (arith, c.pay.ensures.spends, c.follow_range.ensures.spends, c.loop-r.invariant.spent);
      within = part-within (λ r. range_cost c.args.gsub.now c.args.kind c.args.subtable (c.args.coverage + 4 + r * 6)) c.loop-r.r c.args.limit.now c.loop-r.limit c.follow_range.new.limit c.loop-r.invariant.within
          (let part = c.in_ok-follow_range.ensures.within in omega (arith, c.in_ok-pay.ensures.paid, part));
    }

pub returns-clause-done : goal.returns-clause-done
returns-clause-done c =
    let gsub = c.args.gsub.now in
    let rules : ℕ → Rules = λ r. in_range gsub c.args.kind c.args.subtable (c.args.coverage + 4 + r * 6) in
    let past = c.loop-r-test.false in
    let end = c.loop-r.auto.r-end in
    let all : c.loop-r.r ≡ c.word-count.result = omega (arith, past, end) in
    subst (λ (n : ℕ). Follows (Below rules n) c.args.set.now c.loop-r.set) (all ∙ c.word-count.ensures.exact) c.loop-r.invariant.follows

pub returns-in_err-follow_range-clause-why : goal.returns-in_err-follow_range-clause-why
returns-in_err-follow_range-clause-why c =
    let cost : ℕ → ℕ = λ r. range_cost c.args.gsub.now c.args.kind c.args.subtable (c.args.coverage + 4 + r * 6) in
    let k = c.loop-r.r in
    if-err c.from_residual-in_err-follow_range.result c.in_err-follow_range.field-0.0 _ c.from_residual-in_err-follow_range.ensures.1
    (part-short cost k _ c.args.limit.now c.loop-r.limit c.follow_range.new.limit _ c.loop-r.invariant.within
    (subst (λ (n : ℕ). k < n) c.word-count.ensures.exact c.loop-r-test.true)
    (short-by _ (cost k) c.loop-r.limit c.pay.new.limit c.follow_range.new.limit _ (omega (arith, c.in_ok-pay.ensures.paid)) c.in_err-follow_range.ensures.why))

pub returns-in_err-pay-clause-why : goal.returns-in_err-pay-clause-why
returns-in_err-pay-clause-why c =
    let cost : ℕ → ℕ = λ r. range_cost c.args.gsub.now c.args.kind c.args.subtable (c.args.coverage + 4 + r * 6) in
    let k = c.loop-r.r in
    if-err c.from_residual.result c.in_err-pay.field-0.0 _ c.from_residual.ensures.1
    (part-short cost k _ c.args.limit.now c.loop-r.limit c.pay.new.limit _ c.loop-r.invariant.within
    (subst (λ (n : ℕ). k < n) c.word-count.ensures.exact c.loop-r-test.true)
    (short-by 1 (cost k) c.loop-r.limit c.loop-r.limit c.pay.new.limit _ (omega arith) c.in_err-pay.ensures.why))

pub returns-clause-within : goal.returns-clause-within
returns-clause-within c =
    let gsub = c.args.gsub.now in
    let past = c.loop-r-test.false in
    let end = c.loop-r.auto.r-end in
    let all : c.loop-r.r ≡ c.word-count.result = omega (arith, past, end) in
    parts-within (λ r. range_cost c.args.gsub.now c.args.kind c.args.subtable (c.args.coverage + 4 + r * 6)) c.loop-r.r _ c.args.limit.now c.loop-r.limit c.loop-r.invariant.within
    (all ∙ c.word-count.ensures.exact)
