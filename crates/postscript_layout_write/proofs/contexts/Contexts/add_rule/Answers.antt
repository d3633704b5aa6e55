use Rattle.std.proofs.Common.{◌+◌, ◌*◌, ◌∙◌, ap, length}
use Rattle.std.proofs.lemmas.List.FromFn.{length-map-range_with_len}
use Rattle.postscript_layout.specs.Numbers.{word}
use Rattle.postscript_layout_write.specs.Labels.{listed_context}
use Rattle.postscript_layout_write.proofs.contexts.Contexts.add_rule.Goals as goal

pub add_made-requires : goal.add_made-requires
add_made-requires c = record {
  count = ap length c.in_ok-made.ensures.exact.actions
      ∙ length-map-range_with_len (λ k. word c.args.gsub.now (c.args.parts.actions_at + k * 2)) 0 (c.args.parts.actions * 2);
}

pub returns-clause-added : goal.returns-clause-added
returns-clause-added c = c.in_ok-add_made.ensures.added (listed_context c.args.gsub.now c.args.labels.now c.args.start.now c.args.parts) c.in_ok-made.ensures.exact
