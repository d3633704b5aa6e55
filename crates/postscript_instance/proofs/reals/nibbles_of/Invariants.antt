use Rattle.std.proofs.Common.{◌≡◌, ◌++◌, drop}
use Rattle.postscript_base.specs.Compact1.Nibbles.{nibbles}
use Rattle.postscript_instance.proofs.reals.nibbles_of.Given as goal

-- the nibbles so far, and those of the rest, are all
abbrev pub invariant-loop-byte : goal.invariant-loop-byte
invariant-loop-byte l = l.nibbles.items ++ nibbles (drop l.byte-index l.bytes) ≡ nibbles l.bytes
