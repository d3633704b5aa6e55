use Rattle.std.proofs.Common.{◌++◌, ◌-◌, ℕ, List, [], length}
use Rattle.postscript_instance.specs.Encoded.{HasHints, shown}
use Rattle.postscript_instance.specs.Hints.{HintsAt}
use Rattle.postscript_instance.proofs.privates.hints_of.Given as goal

-- the hints so far, and those of the rest, are all
abbrev pub invariant-loop-place : goal.invariant-loop-place
invariant-loop-place l = record {
  at : (more : List ℕ) → HintsAt l.tables l.bytes l.place (shown l.state) more →
      HintsAt l.tables l.bytes 0 (record { index = 0; numbers = [] }) (l.state.out.items ++ more);
  hints : HasHints l.state.out.items;
}

abbrev pub decreases-loop-place : goal.decreases-loop-place
decreases-loop-place l = length l.bytes - l.place
