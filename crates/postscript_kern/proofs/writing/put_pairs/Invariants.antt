use Rattle.std.proofs.Common.{◌≡◌, ◌++◌, flat_map}
use Rattle.postscript_kern.specs.Written.{pair_text}
use Rattle.postscript_kern.proofs.writing.put_pairs.Given as goal

-- what is still to be written completes the pairs
abbrev pub invariant-loop-pair : goal.invariant-loop-pair
invariant-loop-pair l = l.out.items ++ flat_map pair_text l.pair-iterator ≡ l.fn.out.items ++ flat_map pair_text l.pairs.entries
