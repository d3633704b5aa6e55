use Rattle.std.proofs.Common.{ℕ, ◌<◌, get_or}
use Rattle.postscript_files.specs.Choices.{IsMissing}
use Rattle.postscript_files.proofs.choice.refuse_missing.Given as goal

abbrev pub invariant-loop-char : goal.invariant-loop-char
invariant-loop-char l = (k : ℕ) → k < l.char-index → IsMissing l.map (get_or l.chars k 0) → ⊥
