use Rattle.std.proofs.Common.{◌≡◌, ◌<◌, ℕ}
use Rattle.std.specs.Prelude.{slice_index}
use Rattle.postscript_layout_write.specs.Lines.{cell}
use Rattle.postscript_layout_write.proofs.lines.Lines.has_line.Given as goal

abbrev pub invariant-loop-k : goal.invariant-loop-k
invariant-loop-k l = (j : ℕ) → j < l.k → cell l.self.cells.items l.self.width l.class j ≡ slice_index l.line j
