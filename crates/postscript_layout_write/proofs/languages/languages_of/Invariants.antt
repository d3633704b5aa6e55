use Rattle.std.proofs.Common.{◌≡◌, ◌+◌, ◌*◌, ◌≤◌}
use Rattle.std.specs.Prelude.{◌⊎◌}
use Rattle.postscript_layout.specs.Numbers.{long, word}
use Rattle.postscript_layout_write.specs.Features.{KeepsLanguage}
use Rattle.postscript_layout_write.specs.Records.{AreRecords, Stands}
use Rattle.postscript_layout_write.specs.ScriptLists.{named}
use Rattle.postscript_layout_write.proofs.languages.languages_of.Given as goal

abbrev pub invariant-loop-j : goal.invariant-loop-j
invariant-loop-j l = record {
  default : (word l.table l.script ≡ 0) ⊎ Stands (KeepsLanguage l.kept l.table (l.script + word l.table l.script)) l.records.tables.bytes.items 0;
  records : AreRecords (λ j. long l.table (l.script + 4 + j * 6)) (λ j. KeepsLanguage l.kept l.table (named l.table l.script (l.script + 4) j))
      (4 + word l.table (l.script + 2) * 6) l.j l.records.numbers.items l.records.tables.bytes.items;
  spent : l.limit ≤ l.fn.limit;
}
