use Rattle.std.proofs.Common.{◌+◌, arith}
use Rattle.postscript_layout_write.specs.RuleSets.{lists}
use Rattle.postscript_layout_write.specs.Rules.{all_rules, or_none, part_at, rules_in}
use Rattle.postscript_layout_write.proofs.RuleRows.{below-more, kept-step}
use Rattle.postscript_layout_write.proofs.rules.all_rules.Goals as goal

pub loop-j-preserved : goal.loop-j-preserved
loop-j-preserved c =
    let gsub = c.args.gsub.now in
    let kept = c.args.kept.now in
    let lookup = c.args.lookup in
    let kind = c.args.kind in
    let glyph = c.args.glyph in
    let j = c.loop-j.j in
    record {
      rules = kept-step kept (lists c.loop-j.rules.items) (lists c.add_part.new.rules.items)
          (all_rules gsub lookup kind glyph j) (or_none (rules_in gsub kind (part_at gsub lookup kind j) glyph)) (all_rules gsub lookup kind glyph (j + 1))
          c.loop-j.invariant.rules c.in_ok-add_part.ensures.added
          (below-more (λ j. or_none (rules_in gsub kind (part_at gsub lookup kind j) glyph)) j);
      spent = omega (arith, c.pay.ensures.spends, c.add_part.ensures.spends, c.loop-j.invariant.spent);
    }
