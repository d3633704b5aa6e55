use Rattle.std.proofs.Common.{ℕ, ◌+◌, ◌<◌, ◌≤◌}
use Rattle.postscript_kern.specs.Languages.{ScriptKerns, table_of}
use Rattle.postscript_kern.specs.Numbers.{word}
use Rattle.postscript_kern.specs.Units.{script_units, total}
use Rattle.postscript_kern.proofs.languages.scripts_kern.Given as goal

-- the scripts so far kern
abbrev pub invariant-loop-i : goal.invariant-loop-i
invariant-loop-i l = record {
  each : (i : ℕ) → i < l.i → ScriptKerns l.gpos (table_of l.gpos (word l.gpos 4) (word l.gpos 4 + 2) i);
  spends : l.limit ≤ l.fn.limit;
  most : l.fn.limit ≤ l.limit + total (script_units l.gpos) l.i;
}
