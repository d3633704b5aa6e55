use Rattle.std.proofs.Common.{◌≡◌, ◌∙◌, subst, ℕ, ◌+◌, arith, ◌<◌, ◌≤◌}
use Rattle.postscript_layout.specs.Closure.{Rules}
use Rattle.postscript_layout.specs.Numbers.{word}
use Rattle.postscript_layout.specs.Substitutions.{BySubtable, part_of, offset_of, type_of}
use Rattle.postscript_layout.specs.Steps.{Below, Follows}
use Rattle.postscript_layout.proofs.Following.{below-more}
use Rattle.postscript_layout.specs.Costs.{part_cost, IsShort}
use Rattle.postscript_layout.proofs.Costs.{if-err, part-short, part-within, parts-within, short-by}
use Rattle.postscript_layout.proofs.lookups.follow_lookup.Goals as goal

pub loop-j-preserved : goal.loop-j-preserved
loop-j-preserved c =
    let gsub = c.args.gsub.now in
    let b = c.loop-j.set in
    let d = c.follow_part.new.set in
    let rules : ℕ → Rules = λ j. BySubtable gsub (type_of gsub (word gsub c.args.lookup) (part_of gsub c.args.lookup (c.args.lookup + 6) j)) (offset_of gsub (word gsub c.args.lookup) (part_of gsub c.args.lookup (c.args.lookup + 6) j)) in
    record {
      follows = below-more rules c.loop-j.j c.args.set.now b d c.loop-j.invariant.follows
          (subst (λ (p : ℕ). Follows (BySubtable gsub (type_of gsub (word gsub c.args.lookup) p) (offset_of gsub (word gsub c.args.lookup) p)) b d)
          c.part_of-subtable.ensures.exact
          (subst (λ (t : ℕ). Follows (BySubtable gsub (type_of gsub t c.part_of-subtable.result) (offset_of gsub t c.part_of-subtable.result)) b d)
          c.word-kind.ensures.exact c.in_ok-follow_part.ensures.done));
      spent = omega (arith, c.pay.ensures.spends, c.follow_part.ensures.spends, c.loop-j.invariant.spent);
      within = part-within (λ j. 1 + part_cost c.args.gsub.now (word c.args.gsub.now c.args.lookup) (part_of c.args.gsub.now c.args.lookup (c.args.lookup + 6) j)) c.loop-j.j c.args.limit.now c.loop-j.limit c.follow_part.new.limit c.loop-j.invariant.within
          (let part = subst (λ (p : ℕ). c.pay.new.limit ≤ c.follow_part.new.limit + part_cost c.args.gsub.now (word c.args.gsub.now c.args.lookup) p) c.part_of-subtable.ensures.exact
          (subst (λ (t : ℕ). c.pay.new.limit ≤ c.follow_part.new.limit + part_cost c.args.gsub.now t c.part_of-subtable.result) c.word-kind.ensures.exact c.in_ok-follow_part.ensures.within) in omega (arith, c.in_ok-pay.ensures.paid, part));
    }

pub returns-clause-done : goal.returns-clause-done
returns-clause-done c =
    let gsub = c.args.gsub.now in
    let rules : ℕ → Rules = λ j. BySubtable gsub (type_of gsub (word gsub c.args.lookup) (part_of gsub c.args.lookup (c.args.lookup + 6) j)) (offset_of gsub (word gsub c.args.lookup) (part_of gsub c.args.lookup (c.args.lookup + 6) j)) in
    let past = c.loop-j-test.false in
    let end = c.loop-j.auto.j-end in
    let all : c.loop-j.j ≡ c.word-count.result = omega (arith, past, end) in
    subst (λ (n : ℕ). Follows (Below rules n) c.args.set.now c.loop-j.set) (all ∙ c.word-count.ensures.exact) c.loop-j.invariant.follows

pub returns-in_err-follow_part-clause-why : goal.returns-in_err-follow_part-clause-why
returns-in_err-follow_part-clause-why c =
    let cost : ℕ → ℕ = λ j. 1 + part_cost c.args.gsub.now (word c.args.gsub.now c.args.lookup) (part_of c.args.gsub.now c.args.lookup (c.args.lookup + 6) j) in
    let k = c.loop-j.j in
    if-err c.from_residual-in_err-follow_part.result c.in_err-follow_part.field-0.0 _ c.from_residual-in_err-follow_part.ensures.1
    (part-short cost k _ c.args.limit.now c.loop-j.limit c.follow_part.new.limit _ c.loop-j.invariant.within
    (subst (λ (n : ℕ). k < n) c.word-count.ensures.exact c.loop-j-test.true)
    (short-by _ (cost k) c.loop-j.limit c.pay.new.limit c.follow_part.new.limit _ (omega (arith, c.in_ok-pay.ensures.paid))
    (subst (λ (p : ℕ). IsShort (part_cost c.args.gsub.now (word c.args.gsub.now c.args.lookup) p) c.pay.new.limit c.follow_part.new.limit c.in_err-follow_part.field-0.0) c.part_of-subtable.ensures.exact
    (subst (λ (t : ℕ). IsShort (part_cost c.args.gsub.now t c.part_of-subtable.result) c.pay.new.limit c.follow_part.new.limit c.in_err-follow_part.field-0.0) c.word-kind.ensures.exact c.in_err-follow_part.ensures.why))))

pub returns-in_err-pay-clause-why : goal.returns-in_err-pay-clause-why
returns-in_err-pay-clause-why c =
    let cost : ℕ → ℕ = λ j. 1 + part_cost c.args.gsub.now (word c.args.gsub.now c.args.lookup) (part_of c.args.gsub.now c.args.lookup (c.args.lookup + 6) j) in
    let k = c.loop-j.j in
    if-err c.from_residual.result c.in_err-pay.field-0.0 _ c.from_residual.ensures.1
    (part-short cost k _ c.args.limit.now c.loop-j.limit c.pay.new.limit _ c.loop-j.invariant.within
    (subst (λ (n : ℕ). k < n) c.word-count.ensures.exact c.loop-j-test.true)
    (short-by 1 (cost k) c.loop-j.limit c.loop-j.limit c.pay.new.limit _ (omega arith) c.in_err-pay.ensures.why))

pub returns-clause-within : goal.returns-clause-within
returns-clause-within c =
    let gsub = c.args.gsub.now in
    let past = c.loop-j-test.false in
    let end = c.loop-j.auto.j-end in
    let all : c.loop-j.j ≡ c.word-count.result = omega (arith, past, end) in
    parts-within (λ j. 1 + part_cost c.args.gsub.now (word c.args.gsub.now c.args.lookup) (part_of c.args.gsub.now c.args.lookup (c.args.lookup + 6) j)) c.loop-j.j _ c.args.limit.now c.loop-j.limit c.loop-j.invariant.within
    (all ∙ c.word-count.ensures.exact)
