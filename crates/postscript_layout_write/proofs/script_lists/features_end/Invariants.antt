use Rattle.std.proofs.Common.{◌+◌, ◌*◌, ◌<◌, ◌≤◌, ℕ}
use Rattle.postscript_layout.specs.Numbers.{word, long}
use Rattle.postscript_layout_write.specs.ScriptLists.{FeatureEnds, FeaturesEnd, named}
use Rattle.postscript_layout_write.proofs.script_lists.features_end.Given as goal

abbrev pub invariant-loop-i : goal.invariant-loop-i
invariant-loop-i l = record {
  records : word l.gpos 6 + 2 + word l.gpos (word l.gpos 6) * 6 ≤ l.end;
  features : (i : ℕ) → i < l.i →
      FeatureEnds l.gpos l.end (long l.gpos (word l.gpos 6 + 2 + i * 6)) (named l.gpos (word l.gpos 6) (word l.gpos 6 + 2) i);
  least : (m : ℕ) → FeaturesEnd l.gpos m → l.end ≤ m;
  spent : l.limit ≤ l.fn.limit;
}
