use Rattle.std.proofs.Common.{◌≡◌, ◌++◌, ◌*◌, drop, length}
use Rattle.postscript_instance.specs.Hints.{blended_each}
use Rattle.postscript_instance.proofs.privates.blended_each.Given as goal

-- the numbers so far, and those of the rest, are all
abbrev pub invariant-loop-default : goal.invariant-loop-default
invariant-loop-default l = record {
  are : l.numbers.items ++ blended_each (drop l.default-index l.defaults) l.rest l.scalars ≡ blended_each l.defaults l.deltas l.scalars;
  many : length l.rest ≡ length (drop l.default-index l.defaults) * length l.scalars;
}
