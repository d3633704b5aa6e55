use Rattle.std.proofs.Common.{◌+◌, ◌*◌, ◌<◌, ◌≤◌, ℕ}
use Rattle.postscript_layout.specs.Numbers.{word}
use Rattle.postscript_layout_write.specs.ScriptLists.{ScriptEnds, ScriptsEnd, named}
use Rattle.postscript_layout_write.proofs.script_lists.scripts_end.Given as goal

abbrev pub invariant-loop-i : goal.invariant-loop-i
invariant-loop-i l = record {
  records : word l.gpos 4 + 2 + word l.gpos (word l.gpos 4) * 6 ≤ l.end;
  scripts : (i : ℕ) → i < l.i → ScriptEnds l.gpos l.end (named l.gpos (word l.gpos 4) (word l.gpos 4 + 2) i);
  least : (m : ℕ) → ScriptsEnd l.gpos m → l.end ≤ m;
  spent : l.limit ≤ l.fn.limit;
}
