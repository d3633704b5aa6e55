use Rattle.std.proofs.Common.{◌+◌, ◌++◌, ◌∷◌, [], ◌∙◌, ℕ, ap, arith}
use Rattle.postscript_layout.specs.Substitutions.{ligature_of}
use Rattle.postscript_layout_write.specs.Renumbering.{kept_rules}
use Rattle.postscript_layout_write.specs.RuleSets.{lists}
use Rattle.postscript_layout_write.specs.Rules.{ligature_rule, ligature_rules}
use Rattle.postscript_layout_write.proofs.RuleRows.{kept-on, ligatures-more}
use Rattle.postscript_layout_write.proofs.rules.add_ligatures.Goals as goal

pub loop-k-preserved : goal.loop-k-preserved
loop-k-preserved c =
    let gsub = c.args.gsub.now in
    let kept = c.args.kept.now in
    let set = c.args.set in
    let k = c.loop-k.k in
    record {
      added = kept-on kept (lists c.args.rules.now.items) (lists c.loop-k.rules.items) (lists c.add_ligature.new.rules.items)
          (ligature_rules gsub set k) (ligature_rule gsub (ligature_of gsub set k) ∷ []) (ligature_rules gsub set (k + 1))
          c.loop-k.invariant.added
          (c.in_ok-add_ligature.ensures.added
          ∙ ap (λ (n : ℕ). lists c.loop-k.rules.items ++ kept_rules kept (ligature_rule gsub (set + n) ∷ [])) c.word.ensures.exact)
          (ligatures-more gsub set k);
      spent = omega (arith, c.pay.ensures.spends, c.add_ligature.ensures.spends, c.loop-k.invariant.spent);
    }
