use Rattle.std.proofs.Common.{◌∙◌, ap, subst, ℕ, ◌+◌, ◌<◌, arith}
use Rattle.postscript_layout.specs.Features.{feature_at}
use Rattle.postscript_layout.specs.Numbers.{word}
use Rattle.postscript_layout.proofs.Costs.{if-err, part-short, part-within, short-by}
use Rattle.postscript_layout.proofs.Named.{below-more}
use Rattle.postscript_layout.proofs.features.put_features.Goals as goal

pub loop-i-preserved : goal.loop-i-preserved
loop-i-preserved c =
    let table = c.args.table.now in
    record {
      gathers = below-more table c.args.tags.now c.loop-i.i c.args.set.now c.loop-i.set c.put_feature.new.set c.loop-i.invariant.gathers
          c.in_ok-put_feature.ensures.done;
      spent = omega (arith, c.pay.ensures.spends, c.put_feature.ensures.spends, c.loop-i.invariant.spent);
      within = part-within (λ i. 1 + word table (feature_at table i + 2)) c.loop-i.i c.args.limit.now c.loop-i.limit c.put_feature.new.limit
          c.loop-i.invariant.within
          (let part = c.in_ok-put_feature.ensures.within in omega (arith, c.in_ok-pay.ensures.paid, part));
    }

pub returns-in_err-put_feature-clause-why : goal.returns-in_err-put_feature-clause-why
returns-in_err-put_feature-clause-why c =
    let table = c.args.table.now in
    let cost : ℕ → ℕ = λ i. 1 + word table (feature_at table i + 2) in
    let i = c.loop-i.i in
    if-err c.from_residual-in_err-put_feature.result c.in_err-put_feature.field-0.0 _ c.from_residual-in_err-put_feature.ensures.1
    (part-short cost i _ c.args.limit.now c.loop-i.limit c.put_feature.new.limit _ c.loop-i.invariant.within
    (subst (λ (n : ℕ). i < n) (c.word-count.ensures.exact ∙ ap (word table) c.word.ensures.exact) c.loop-i-test.true)
    (short-by _ (cost i) c.loop-i.limit c.pay.new.limit c.put_feature.new.limit _ (omega (arith, c.in_ok-pay.ensures.paid))
    c.in_err-put_feature.ensures.why))

pub returns-in_err-pay-clause-why : goal.returns-in_err-pay-clause-why
returns-in_err-pay-clause-why c =
    let table = c.args.table.now in
    let cost : ℕ → ℕ = λ i. 1 + word table (feature_at table i + 2) in
    let i = c.loop-i.i in
    if-err c.from_residual.result c.in_err-pay.field-0.0 _ c.from_residual.ensures.1
    (part-short cost i _ c.args.limit.now c.loop-i.limit c.pay.new.limit _ c.loop-i.invariant.within
    (subst (λ (n : ℕ). i < n) (c.word-count.ensures.exact ∙ ap (word table) c.word.ensures.exact) c.loop-i-test.true)
    (short-by 1 (cost i) c.loop-i.limit c.loop-i.limit c.pay.new.limit _ (omega arith) c.in_err-pay.ensures.why))
