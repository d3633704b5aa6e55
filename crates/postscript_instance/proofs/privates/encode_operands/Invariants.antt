use Rattle.std.proofs.Common.{◌≡◌, ◌++◌, drop}
use Rattle.std.specs.List.{flat_map}
use Rattle.postscript_instance.specs.Hints.{text_of}
use Rattle.postscript_instance.proofs.privates.encode_operands.Given as goal

-- the bytes so far, and those of the rest, are all
abbrev pub invariant-loop-number : goal.invariant-loop-number
invariant-loop-number l =
    l.text.items ++ flat_map (text_of l.bytes) (drop l.number-index l.numbers) ≡ flat_map (text_of l.bytes) l.numbers
