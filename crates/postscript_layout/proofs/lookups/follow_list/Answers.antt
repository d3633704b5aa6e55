use Rattle.std.proofs.Common.{◌≡◌, ◌∙◌, subst, ℕ, ◌+◌, ◌*◌, arith, ◌<◌}
use Rattle.postscript_layout.specs.Closure.{Rules}
use Rattle.postscript_layout.specs.Numbers.{word}
use Rattle.postscript_layout.specs.Substitutions.{SubstitutesGlyph}
use Rattle.postscript_layout.specs.Steps.{Below, Follows}
use Rattle.postscript_layout.proofs.Following.{below-more}
use Rattle.postscript_layout.specs.Costs.{glyph_cost}
use Rattle.postscript_layout.proofs.Costs.{if-err, part-short, part-within, parts-within}
use Rattle.postscript_layout.proofs.lookups.follow_list.Goals as goal

pub loop-i-preserved : goal.loop-i-preserved
loop-i-preserved c =
    let gsub = c.args.gsub.now in
    let b = c.loop-i.set in
    let d = c.follow_glyph.new.set in
    let rules : ℕ → Rules = λ i. SubstitutesGlyph gsub c.args.kind c.args.subtable i (word gsub (c.args.coverage + 4 + i * 2)) in
    record {
      follows = below-more rules c.loop-i.i c.args.set.now b d c.loop-i.invariant.follows
          (subst (λ (g : ℕ). Follows (SubstitutesGlyph gsub c.args.kind c.args.subtable c.loop-i.i g) b d) c.word-glyph.ensures.exact c.in_ok-follow_glyph.ensures.done);
      spent = omega (arith, c.follow_glyph.ensures.spends, c.loop-i.invariant.spent);
      within = part-within (λ i. glyph_cost c.args.gsub.now c.args.kind c.args.subtable i) c.loop-i.i c.args.limit.now c.loop-i.limit c.follow_glyph.new.limit c.loop-i.invariant.within
          (let part = c.in_ok-follow_glyph.ensures.within in omega (arith, part));
    }

pub returns-clause-done : goal.returns-clause-done
returns-clause-done c =
    let gsub = c.args.gsub.now in
    let rules : ℕ → Rules = λ i. SubstitutesGlyph gsub c.args.kind c.args.subtable i (word gsub (c.args.coverage + 4 + i * 2)) in
    let past = c.loop-i-test.false in
    let end = c.loop-i.auto.i-end in
    let all : c.loop-i.i ≡ c.word-count.result = omega (arith, past, end) in
    subst (λ (n : ℕ). Follows (Below rules n) c.args.set.now c.loop-i.set) (all ∙ c.word-count.ensures.exact) c.loop-i.invariant.follows

pub returns-in_err-follow_glyph-clause-why : goal.returns-in_err-follow_glyph-clause-why
returns-in_err-follow_glyph-clause-why c =
    let cost : ℕ → ℕ = λ i. glyph_cost c.args.gsub.now c.args.kind c.args.subtable i in
    let k = c.loop-i.i in
    if-err c.from_residual.result c.in_err-follow_glyph.field-0.0 _ c.from_residual.ensures.1
    (part-short cost k _ c.args.limit.now c.loop-i.limit c.follow_glyph.new.limit _ c.loop-i.invariant.within
    (subst (λ (n : ℕ). k < n) c.word-count.ensures.exact c.loop-i-test.true)
    c.in_err-follow_glyph.ensures.why)

pub returns-clause-within : goal.returns-clause-within
returns-clause-within c =
    let gsub = c.args.gsub.now in
    let past = c.loop-i-test.false in
    let end = c.loop-i.auto.i-end in
    let all : c.loop-i.i ≡ c.word-count.result = omega (arith, past, end) in
    parts-within (λ i. glyph_cost c.args.gsub.now c.args.kind c.args.subtable i) c.loop-i.i _ c.args.limit.now c.loop-i.limit c.loop-i.invariant.within
    (all ∙ c.word-count.ensures.exact)
