use Rattle.std.proofs.Common.{◌≡◌, ◌∙◌, subst, ℕ, ◌+◌, arith, ◌<◌, ◌≤◌, ◌-◌}
use Rattle.postscript_layout.specs.Closure.{Rules}
use Rattle.postscript_layout.specs.Substitutions.{part_of}
use Rattle.postscript_layout.specs.Steps.{Below, Follows, joins}
use Rattle.postscript_layout.proofs.Following.{below-more}
use Rattle.postscript_layout.specs.Costs.{ligature_cost, IsShort}
use Rattle.postscript_layout.proofs.Costs.{if-err, part-short, part-within, parts-within, short-by}
use Rattle.postscript_layout.specs.Numbers.{word}
use Rattle.postscript_layout.proofs.substitutions.join_each.Goals as goal

pub loop-k-preserved : goal.loop-k-preserved
loop-k-preserved c =
    let gsub = c.args.gsub.now in
    let offset = c.args.offset in
    let b = c.loop-k.set in
    let d = c.join.new.set in
    let rules : ℕ → Rules = λ k. joins gsub c.args.glyph (part_of gsub offset (offset + 2) k) in
    let one = subst (λ (p : ℕ). Follows (joins gsub c.args.glyph p) b d) c.part_of-ligature.ensures.exact c.in_ok-join.ensures.done in
    record {
      follows = below-more rules c.loop-k.k c.args.set.now b d c.loop-k.invariant.follows one;
      held = one.grows c.args.glyph c.loop-k.invariant.held;
      spent = omega (arith, c.pay.ensures.spends, c.join.ensures.spends, c.loop-k.invariant.spent);
      within = part-within (λ k. ligature_cost c.args.gsub.now (part_of c.args.gsub.now c.args.offset (c.args.offset + 2) k)) c.loop-k.k c.args.limit.now c.loop-k.limit c.join.new.limit c.loop-k.invariant.within
          (let part = subst (λ (p : ℕ). c.pay.new.limit ≤ c.join.new.limit + (word c.args.gsub.now (p + 2) - 1)) c.part_of-ligature.ensures.exact c.in_ok-join.ensures.within in omega (arith, c.in_ok-pay.ensures.paid, part));
    }

pub returns-clause-done : goal.returns-clause-done
returns-clause-done c =
    let gsub = c.args.gsub.now in
    let offset = c.args.offset in
    let rules : ℕ → Rules = λ k. joins gsub c.args.glyph (part_of gsub offset (offset + 2) k) in
    let past = c.loop-k-test.false in
    let end = c.loop-k.auto.k-end in
    let all : c.loop-k.k ≡ c.word-count.result = omega (arith, past, end) in
    subst (λ (n : ℕ). Follows (Below rules n) c.args.set.now c.loop-k.set) (all ∙ c.word-count.ensures.exact) c.loop-k.invariant.follows

pub returns-in_err-join-clause-why : goal.returns-in_err-join-clause-why
returns-in_err-join-clause-why c =
    let cost : ℕ → ℕ = λ k. ligature_cost c.args.gsub.now (part_of c.args.gsub.now c.args.offset (c.args.offset + 2) k) in
    let k = c.loop-k.k in
    if-err c.from_residual-in_err-join.result c.in_err-join.field-0.0 _ c.from_residual-in_err-join.ensures.1
    (part-short cost k _ c.args.limit.now c.loop-k.limit c.join.new.limit _ c.loop-k.invariant.within
    (subst (λ (n : ℕ). k < n) c.word-count.ensures.exact c.loop-k-test.true)
    (short-by _ (cost k) c.loop-k.limit c.pay.new.limit c.join.new.limit _ (omega (arith, c.in_ok-pay.ensures.paid))
    (subst (λ (p : ℕ). IsShort (word c.args.gsub.now (p + 2) - 1) c.pay.new.limit c.join.new.limit c.in_err-join.field-0.0) c.part_of-ligature.ensures.exact c.in_err-join.ensures.why)))

pub returns-in_err-pay-clause-why : goal.returns-in_err-pay-clause-why
returns-in_err-pay-clause-why c =
    let cost : ℕ → ℕ = λ k. ligature_cost c.args.gsub.now (part_of c.args.gsub.now c.args.offset (c.args.offset + 2) k) in
    let k = c.loop-k.k in
    if-err c.from_residual.result c.in_err-pay.field-0.0 _ c.from_residual.ensures.1
    (part-short cost k _ c.args.limit.now c.loop-k.limit c.pay.new.limit _ c.loop-k.invariant.within
    (subst (λ (n : ℕ). k < n) c.word-count.ensures.exact c.loop-k-test.true)
    (short-by 1 (cost k) c.loop-k.limit c.loop-k.limit c.pay.new.limit _ (omega arith) c.in_err-pay.ensures.why))

pub returns-clause-within : goal.returns-clause-within
returns-clause-within c =
    let gsub = c.args.gsub.now in
    let past = c.loop-k-test.false in
    let end = c.loop-k.auto.k-end in
    let all : c.loop-k.k ≡ c.word-count.result = omega (arith, past, end) in
    parts-within (λ k. ligature_cost c.args.gsub.now (part_of c.args.gsub.now c.args.offset (c.args.offset + 2) k)) c.loop-k.k _ c.args.limit.now c.loop-k.limit c.loop-k.invariant.within
    (all ∙ c.word-count.ensures.exact)
