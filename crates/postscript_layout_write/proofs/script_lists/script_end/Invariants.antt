use Rattle.std.proofs.Common.{◌+◌, ◌*◌, ◌≡◌, ◌<◌, ◌≤◌, ℕ}
use Rattle.std.specs.Prelude.{◌⊎◌}
use Rattle.postscript_layout.specs.Numbers.{word}
use Rattle.postscript_layout_write.specs.ScriptLists.{LanguageEnds, ScriptEnds, named}
use Rattle.postscript_layout_write.proofs.script_lists.script_end.Given as goal

abbrev pub invariant-loop-j : goal.invariant-loop-j
invariant-loop-j l = record {
  records : l.script + 4 + word l.gpos (l.script + 2) * 6 ≤ l.end;
  default : (word l.gpos l.script ≡ 0) ⊎ LanguageEnds l.gpos l.end (l.script + word l.gpos l.script);
  languages : (j : ℕ) → j < l.j → LanguageEnds l.gpos l.end (named l.gpos l.script (l.script + 4) j);
  least : (m : ℕ) → ScriptEnds l.gpos m l.script → l.end ≤ m;
  spent : l.limit ≤ l.fn.limit;
}
