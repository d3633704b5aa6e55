use Rattle.std.proofs.Common.{◌<◌, ◌∷◌, [], subst, List, ℕ}
use Rattle.std.specs.List.{All}
use Rattle.postscript_layout_write.specs.Labels.{having_at}
use Rattle.postscript_layout_write.proofs.ContextCollecting.{adds-both, begins-same, begins-trans, labelled-as, part-of}
use Rattle.postscript_layout_write.proofs.context_rules.made_of.Goals as goal

pub returns-clause-exact : goal.returns-clause-exact
returns-clause-exact c =
    let gsub = c.args.gsub.now in
    let labels = c.args.labels.now in
    let parts = c.args.parts in
    let before = labelled-as gsub _ labels.before.items parts.before_at parts.before _ _ _ _ c.deref.ensures.value c.in_ok-add_labelled.ensures.added in
    let input = adds-both (c.args.start.now ∷ []) (having_at gsub labels.input.items parts.input_at parts.input) _ _ _ _ _ _ c.in_ok-add.ensures.added
    (labelled-as gsub _ labels.input.items parts.input_at parts.input _ _ _ _ c.deref-2.ensures.value c.in_ok-add_labelled-2.ensures.added) in
    let after = labelled-as gsub _ labels.after.items parts.after_at parts.after _ _ _ _ c.deref-3.ensures.value c.in_ok-add_labelled-3.ensures.added in
    record {
      before = part-of (having_at gsub labels.before.items parts.before_at parts.before) _ _ _ _ _ c.new-before.ensures.offsets c.new-before.ensures.some before
          (begins-trans _ _ _ input.more after.more);
      input = part-of (c.args.start.now ∷ having_at gsub labels.input.items parts.input_at parts.input) _ _ _ _ _ c.new-input.ensures.offsets c.new-input.ensures.some input
          after.more;
      after = part-of (having_at gsub labels.after.items parts.after_at parts.after) _ _ _ _ _ c.new-after.ensures.offsets c.new-after.ensures.some after (begins-same _);
      actions = c.in_ok-actions.ensures.exact;
      small = subst (λ (xs : List ℕ). All (λ n. n < 65536) xs) c.in_ok-actions.ensures.exact c.in_ok-actions.ensures.small;
    }
