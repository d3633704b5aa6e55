use Rattle.std.proofs.Common.{◌≡◌, ◌≤◌, [], ◌∷◌}
use Rattle.std.specs.Prelude.{is_some, if◌then◌else◌}
use Rattle.postscript_layout_write.specs.First.{all_below}
use Rattle.postscript_layout_write.specs.Reverses.{if_some, new_substitute}
use Rattle.postscript_layout_write.proofs.reverses.substitutes_of.Given as goal

abbrev pub invariant-loop-k : goal.invariant-loop-k
invariant-loop-k l = record {
  glyphs : l.found.glyphs.items ≡ all_below (λ k. if is_some (new_substitute l.source.gsub.now l.source.kept.now l.subtable k) then k ∷ [] else []) l.k;
  others : l.found.others.items ≡ all_below (λ k. if_some (new_substitute l.source.gsub.now l.source.kept.now l.subtable k)) l.k;
  spent : l.limit ≤ l.fn.limit;
}
