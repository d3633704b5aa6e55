use Rattle.std.proofs.Common.{◌+◌, ◌-◌, ◌<◌, ◌≤◌}
use Rattle.postscript_view.specs.Select.{first_glyph}
use Rattle.postscript_view.proofs.select.Ranges.range_of.Given as goal

-- the glyph lies behind the first glyph of one range and before that of another
abbrev pub invariant-loop-high : goal.invariant-loop-high
invariant-loop-high l =
    (l.low < l.high) × (l.high ≤ l.self.count) × (first_glyph l.self.bytes.now
    (l.self.place + 3) l.low ≤ l.glyph) × (l.glyph < first_glyph l.self.bytes.now (l.self.place + 3) l.high)

abbrev pub decreases-loop-high : goal.decreases-loop-high
decreases-loop-high l = l.high - l.low
