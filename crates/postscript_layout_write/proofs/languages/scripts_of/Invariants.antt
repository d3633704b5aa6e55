use Rattle.std.proofs.Common.{◌+◌, ◌*◌, ◌≤◌}
use Rattle.postscript_layout.specs.Numbers.{long, word}
use Rattle.postscript_layout_write.specs.Features.{KeepsScript}
use Rattle.postscript_layout_write.specs.Records.{AreRecords}
use Rattle.postscript_layout_write.specs.ScriptLists.{named}
use Rattle.postscript_layout_write.proofs.languages.scripts_of.Given as goal

abbrev pub invariant-loop-i : goal.invariant-loop-i
invariant-loop-i l = record {
  records : AreRecords (λ i. long l.table (word l.table 4 + 2 + i * 6)) (λ i. KeepsScript l.kept l.table (named l.table (word l.table 4) (word l.table 4 + 2) i))
      (2 + word l.table (word l.table 4) * 6) l.i l.records.numbers.items l.records.tables.bytes.items;
  spent : l.limit ≤ l.fn.limit;
}
