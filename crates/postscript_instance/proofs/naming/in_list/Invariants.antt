use Rattle.std.proofs.Common.{◌≡◌, ◌∷◌, ◌++◌, drop}
use Rattle.postscript_instance.specs.Encoded.{list_text}
use Rattle.postscript_instance.proofs.naming.in_list.Given as goal

-- the bytes so far, and those of the rest, are all
abbrev pub invariant-loop-number : goal.invariant-loop-number
invariant-loop-number l = l.set.items ++ list_text (drop l.number-index l.numbers) ≡ 0 ∷ list_text l.numbers
