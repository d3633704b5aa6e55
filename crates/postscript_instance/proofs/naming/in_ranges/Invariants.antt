use Rattle.std.proofs.Common.{◌≡◌, ◌∷◌, ◌++◌, drop}
use Rattle.postscript_instance.specs.Encoded.{ranges_text}
use Rattle.postscript_instance.proofs.naming.in_ranges.Given as goal

-- the bytes so far, and those of the rest, are all
abbrev pub invariant-loop-range : goal.invariant-loop-range
invariant-loop-range l = l.set.items ++ ranges_text (drop l.range-index l.ranges) ≡ 2 ∷ ranges_text l.ranges
