use Rattle.std.proofs.Common.{◌≡◌, ℕ, List, IsTrue, drop}
use Rattle.postscript_compact1.specs.Computed.Encodings.{Run, in_runs, are_standard}
use Rattle.postscript_compact1.proofs.encoding.in_runs.Given as goal

-- the runs that are left have the code where all have it, and name standard strings
pub record Searched (all left : List Run) (code : ℕ) : Type 0 where
  pub same : in_runs left code ≡ in_runs all code
  pub standard : IsTrue (are_standard left)

abbrev pub invariant-loop-run : goal.invariant-loop-run
invariant-loop-run l = Searched l.runs (drop l.run-index l.runs) l.code
