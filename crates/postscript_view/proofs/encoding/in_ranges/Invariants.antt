use Rattle.std.proofs.Common.{◌≡◌, ◌+◌}
use Rattle.postscript_view.specs.Encoding.{coded}
use Rattle.postscript_view.proofs.Coding.{HaveNot}
use Rattle.postscript_view.proofs.encoding.in_ranges.Given as goal

-- the glyph is the first of range r, and none of the ranges so far has the code
abbrev pub invariant-loop-r : goal.invariant-loop-r
invariant-loop-r l = (l.glyph ≡ 1 + coded l.ranges l.r) × HaveNot l.ranges l.code l.r
