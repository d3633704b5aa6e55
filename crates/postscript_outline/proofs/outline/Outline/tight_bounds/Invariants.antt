use Rattle.std.proofs.Common.{take}
use Rattle.postscript_outline.proofs.outline.Outline.tight_bounds.Given as goal
use Rattle.postscript_outline.specs.Sinks.{Receives}
use Rattle.postscript_outline.specs.Tight.{TakesIn, no_bounds}

-- the segments so far are taken in
abbrev pub invariant-loop-segment : goal.invariant-loop-segment
invariant-loop-segment l = Receives TakesIn no_bounds (take l.segment-index l.self.segments.items) l.bounds
