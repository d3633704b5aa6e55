use Rattle.std.proofs.Common.{◌∙◌, ap, subst, ℕ, List}
use Rattle.postscript_subset.specs.Closing.{AreClosed, below}
use Rattle.postscript_subset.specs.declared.features.Features.{Features}
use Rattle.postscript_subset.proofs.glyphs.glyphs_with_layout.Goals as goal

pub returns-clause-made : goal.returns-clause-made
returns-clause-made c = record {
  gsub = c.gsub_in-gsub.result.now;
  is = c.gsub_in-gsub.ensures;
  lookups = c.in_ok-closed.closed.lookups.items;
  closed = c.in_ok-closed.closed.glyphs.items;
  are =
      subst (λ (f : Features). AreClosed c.args.choice.now f c.args.face.now c.gsub_in-gsub.result.now c.in_ok-closed.closed.lookups.items
      c.in_ok-closed.closed.glyphs.items) c.counted_features-features.ensures c.in_ok-closed.ensures.closed;
  count = c.in_ok-count.count;
  counted = c.in_ok-count.ensures.counted;
  kept = c.in_ok-glyphs.ensures.below ∙ ap (λ (xs : List ℕ). below c.in_ok-count.count xs) c.deref.ensures.value;
}
