use Rattle.postscript_c.proofs.layouts.laid_out.Goals as goal

pub returns : goal.returns
returns c = record {
  features = c.features_of.result;
  are = c.features_of.ensures;
  left = c.subset_with_layout.new.limit;
  spends = c.subset_with_layout.ensures.spends;
  subset = c.subset_with_layout.ensures.subset;
  in_place = c.subset_with_layout.ensures.in_place;
  refused = c.subset_with_layout.ensures.why;
}
