use Rattle.std.proofs.Common.{ℕ, ◌+◌, ◌<◌, ◌≤◌}
use Rattle.postscript_kern.specs.Languages.{LanguageKerns, table_of}
use Rattle.postscript_kern.specs.Units.{listed_units, total}
use Rattle.postscript_kern.proofs.languages.languages_kern.Given as goal

-- the language systems so far kern
abbrev pub invariant-loop-j : goal.invariant-loop-j
invariant-loop-j l = record {
  each : (j : ℕ) → j < l.j → LanguageKerns l.gpos (table_of l.gpos l.script (l.script + 4) j);
  spends : l.limit ≤ l.fn.limit;
  most : l.fn.limit ≤ l.limit + total (listed_units l.gpos l.script) l.j;
}
