use Rattle.std.proofs.Common.{◌≡◌, ◌+◌, ◌<◌, ◌∙◌, subst, ℕ, arith}
use Rattle.std.specs.Prelude.{Option}
use Rattle.postscript_layout.specs.Numbers.{word}
use Rattle.postscript_layout_write.specs.Calls.{CallsAt, CallsIn}
use Rattle.postscript_layout_write.specs.Reaching.{AddsOnly}
use Rattle.postscript_layout_write.specs.Rules.{part_at, type_at}
use Rattle.postscript_layout_write.proofs.Reaching.{adds-so, below-step}
use Rattle.postscript_layout_write.proofs.called.Lookups.add_contexts.Goals as goal

pub loop-j-preserved : goal.loop-j-preserved
loop-j-preserved c =
    let gsub = c.args.source.now.gsub.now in
    let kept = c.args.source.now.kept.now in
    let kind = c.type_of-kind.result in
    record {
      added = below-step (λ j m. CallsIn gsub kept kind (part_at gsub c.args.lookup kind j) m) c.loop-j.j _ _ _ c.loop-j.invariant.added
          (subst (λ (p : Option ℕ). AddsOnly (CallsIn gsub kept kind p) c.loop-j.self.lookups.items c.add_part.new.self.lookups.items)
          c.part_at-part.ensures.exact c.in_ok-add_part.ensures.added);
      spent = omega (arith, c.pay.ensures.spends, c.add_part.ensures.spends, c.loop-j.invariant.spent);
    }

pub returns-clause-added : goal.returns-clause-added
returns-clause-added c =
    let gsub = c.args.source.now.gsub.now in
    let kept = c.args.source.now.kept.now in
    let lookup = c.args.lookup in
    let old = c.args.self.now.lookups.items in
    let new = c.loop-j.self.lookups.items in
    let all : c.loop-j.j ≡ c.word-count.result = omega arith in
    adds-so (λ m. (j : ℕ) × (j < word gsub (lookup + 4)) × CallsIn gsub kept (type_at gsub lookup) (part_at gsub lookup (type_at gsub lookup) j) m)
    (λ m. (j : ℕ) × CallsAt gsub kept lookup j m) old new (λ m one. (one.0, (one.1, one.2))) (λ m one. (one.0, one.1.0, one.1.1))
    (subst (λ t. AddsOnly (λ m. (j : ℕ) × (j < word gsub (lookup + 4)) × CallsIn gsub kept t (part_at gsub lookup t j) m) old new) c.type_of-kind.ensures.exact
    (subst (λ k. AddsOnly (λ m. (j : ℕ) × (j < k) × CallsIn gsub kept c.type_of-kind.result (part_at gsub lookup c.type_of-kind.result j) m) old new)
    (all ∙ c.word-count.ensures.exact) c.loop-j.invariant.added))
