use Rattle.std.proofs.Common.{◌≡◌, ◌+◌, ◌≤◌, length}
use Rattle.std.specs.Prelude.{filter_map}
use Rattle.postscript_layout.specs.Numbers.{words}
use Rattle.postscript_layout_write.specs.Renumbering.{new_number}
use Rattle.postscript_layout_write.proofs.languages.new_features.Given as goal

abbrev pub invariant-loop-k : goal.invariant-loop-k
invariant-loop-k l = record {
  features : l.features.items ≡ filter_map (new_number l.kept) (words l.table (l.language + 6) l.k);
  few : length l.features.items ≤ l.k;
  spent : l.limit ≤ l.fn.limit;
}
