use Rattle.std.proofs.Common.{◌+◌, ◌*◌, ◌≤◌, length}
use Rattle.std.specs.Prelude.{slice_index}
use Rattle.postscript_layout.specs.Numbers.{long, word}
use Rattle.postscript_layout_write.specs.Features.{KeepsFeature}
use Rattle.postscript_layout_write.specs.Records.{AreRecords}
use Rattle.postscript_layout_write.specs.ScriptLists.{named}
use Rattle.postscript_layout_write.proofs.features.features_of.Given as goal

abbrev pub invariant-loop-j : goal.invariant-loop-j
invariant-loop-j l = record {
  records : AreRecords (λ j. long l.table (word l.table 6 + 2 + slice_index l.kept j * 6))
      (λ j. KeepsFeature l.table (long l.table (word l.table 6 + 2 + slice_index l.kept j * 6))
      (named l.table (word l.table 6) (word l.table 6 + 2) (slice_index l.kept j))) (2 + length l.kept * 6) l.j l.records.numbers.items l.records.tables.bytes.items;
  spent : l.limit ≤ l.fn.limit;
}
