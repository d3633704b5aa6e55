use Rattle.postscript_files.proofs.subset.map_of.Goals as goal

pub returns-clause-map : goal.returns-clause-map
returns-clause-map c = record {
  plain = c.in_ok-plain.plain.items;
  is = c.in_ok-plain.ensures.map;
  like = c.in_ok-cmap.ensures.map;
  sequences = c.in_ok-cmap.ensures.sequences;
}
