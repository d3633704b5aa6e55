use Rattle.std.proofs.Common.{◌≡◌, ◌++◌, drop, false}
use Rattle.postscript_instance.specs.Reals.{cut}
use Rattle.postscript_instance.proofs.reals.shorten_real.Given as goal

-- what is kept so far, and of the rest, is all that is kept
abbrev pub invariant-loop-nibble : goal.invariant-loop-nibble
invariant-loop-nibble l =
    l.kept.items ++ cut l.digits.count l.digits.is_fraction l.digits.is_exponent (drop l.nibble-index l.nibbles)
    ≡ cut 0 false false l.nibbles
