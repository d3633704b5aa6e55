use Rattle.std.proofs.Common.{take}
use Rattle.postscript_outline.proofs.sink.give.Given as goal
use Rattle.postscript_outline.specs.Sinks.{Receives}

-- the segments so far have been given
abbrev pub invariant-loop-segment : goal.invariant-loop-segment
invariant-loop-segment g l = Receives g.S.Sink.after (g.S.Sink.state l.fn.sink) (take l.segment-index l.segments) (g.S.Sink.state l.sink)
