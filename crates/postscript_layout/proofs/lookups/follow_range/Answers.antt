use Rattle.std.proofs.Common.{◌≡◌, ◌∙◌, subst, ap, ℕ, ◌+◌, ◌-◌, arith, ◌<◌, ◌≤◌}
use Rattle.postscript_layout.specs.Closure.{Rules}
use Rattle.postscript_layout.specs.Numbers.{word}
use Rattle.postscript_layout.specs.Substitutions.{SubstitutesGlyph}
use Rattle.postscript_layout.specs.Steps.{Below, Follows}
use Rattle.postscript_layout.proofs.Following.{below-more}
use Rattle.postscript_layout.specs.Costs.{glyph_cost, IsShort}
use Rattle.postscript_layout.proofs.Costs.{if-err, part-short, part-within, parts-within}
use Rattle.postscript_layout.proofs.lookups.follow_range.Goals as goal

pub loop-n-preserved : goal.loop-n-preserved
loop-n-preserved c =
    let gsub = c.args.gsub.now in
    let b = c.loop-n.set in
    let d = c.follow_glyph.new.set in
    let rules : ℕ → Rules = λ n. SubstitutesGlyph gsub c.args.kind c.args.subtable (word gsub (c.args.range + 4) + n) (word gsub c.args.range + n) in
    record {
      follows = below-more rules c.loop-n.n c.args.set.now b d c.loop-n.invariant.follows
          (subst (λ (s : ℕ). Follows (SubstitutesGlyph gsub c.args.kind c.args.subtable (s + c.loop-n.n) (word gsub c.args.range + c.loop-n.n)) b d)
          c.word-start.ensures.exact
          (subst (λ (g : ℕ). Follows (SubstitutesGlyph gsub c.args.kind c.args.subtable (c.word-start.result + c.loop-n.n) (g + c.loop-n.n)) b d)
          c.word-first.ensures.exact c.in_ok-follow_glyph.ensures.done));
      spent = omega (arith, c.follow_glyph.ensures.spends, c.loop-n.invariant.spent);
      within = part-within (λ n. glyph_cost c.args.gsub.now c.args.kind c.args.subtable (word c.args.gsub.now (c.args.range + 4) + n)) c.loop-n.n c.args.limit.now c.loop-n.limit c.follow_glyph.new.limit c.loop-n.invariant.within
          (let part = subst (λ (s : ℕ). c.loop-n.limit ≤ c.follow_glyph.new.limit + glyph_cost c.args.gsub.now c.args.kind c.args.subtable (s + c.loop-n.n)) c.word-start.ensures.exact c.in_ok-follow_glyph.ensures.within in omega (arith, part));
    }

pub returns-clause-done : goal.returns-clause-done
returns-clause-done c =
    let gsub = c.args.gsub.now in
    let rules : ℕ → Rules = λ n. SubstitutesGlyph gsub c.args.kind c.args.subtable (word gsub (c.args.range + 4) + n) (word gsub c.args.range + n) in
    let past = c.loop-n-test.false in
    let end = c.loop-n.auto.n-end in
    let all : c.loop-n.n ≡ c.saturating_sub-count.result = omega (arith, past, end) in
    let many : c.saturating_sub-count.result ≡ word gsub (c.args.range + 2) + 1 - word gsub c.args.range =
    c.saturating_sub-count.ensures ∙ ap (λ (w : ℕ). w + 1 - c.word-first.result) c.word-end.ensures.exact
    ∙ ap (λ (w : ℕ). word gsub (c.args.range + 2) + 1 - w) c.word-first.ensures.exact in
    subst (λ (n : ℕ). Follows (Below rules n) c.args.set.now c.loop-n.set) (all ∙ many) c.loop-n.invariant.follows

pub returns-in_err-follow_glyph-clause-why : goal.returns-in_err-follow_glyph-clause-why
returns-in_err-follow_glyph-clause-why c =
    let cost : ℕ → ℕ = λ n. glyph_cost c.args.gsub.now c.args.kind c.args.subtable (word c.args.gsub.now (c.args.range + 4) + n) in
    let k = c.loop-n.n in
    if-err c.from_residual.result c.in_err-follow_glyph.field-0.0 _ c.from_residual.ensures.1
    (part-short cost k _ c.args.limit.now c.loop-n.limit c.follow_glyph.new.limit _ c.loop-n.invariant.within
    (subst (λ (n : ℕ). k < n) (c.saturating_sub-count.ensures ∙ ap (λ (w : ℕ). w + 1 - c.word-first.result) c.word-end.ensures.exact
    ∙ ap (λ (w : ℕ). word c.args.gsub.now (c.args.range + 2) + 1 - w) c.word-first.ensures.exact) c.loop-n-test.true)
    (subst (λ (s : ℕ). IsShort (glyph_cost c.args.gsub.now c.args.kind c.args.subtable (s + k)) c.loop-n.limit c.follow_glyph.new.limit c.in_err-follow_glyph.field-0.0) c.word-start.ensures.exact c.in_err-follow_glyph.ensures.why))

pub returns-clause-within : goal.returns-clause-within
returns-clause-within c =
    let gsub = c.args.gsub.now in
    let past = c.loop-n-test.false in
    let end = c.loop-n.auto.n-end in
    let all : c.loop-n.n ≡ c.saturating_sub-count.result = omega (arith, past, end) in
    let many : c.saturating_sub-count.result ≡ word gsub (c.args.range + 2) + 1 - word gsub c.args.range =
    c.saturating_sub-count.ensures ∙ ap (λ (w : ℕ). w + 1 - c.word-first.result) c.word-end.ensures.exact
    ∙ ap (λ (w : ℕ). word gsub (c.args.range + 2) + 1 - w) c.word-first.ensures.exact in
    parts-within (λ n. glyph_cost c.args.gsub.now c.args.kind c.args.subtable (word c.args.gsub.now (c.args.range + 4) + n)) c.loop-n.n _ c.args.limit.now c.loop-n.limit c.loop-n.invariant.within
    (all ∙ many)
