use Rattle.std.proofs.Common.{◌≡◌, map, ◌++◌, drop}
use Rattle.postscript_compact1.specs.Index.{lengths_from}
use Rattle.postscript_compact1.proofs.index.lengths_from.Given as goal

-- the lengths that are found and those still to be found are all
abbrev pub invariant-loop-high : goal.invariant-loop-high
invariant-loop-high l =
    map (λ length. length.0) l.lengths.items ++ lengths_from l.low (drop l.high-index l.others) ≡ lengths_from l.fn.first l.others
