use Rattle.std.proofs.Common.{◌≡◌, ◌∷◌}
use Rattle.postscript_layout_write.specs.CaretLists.{value_offsets}
use Rattle.postscript_layout_write.proofs.carets.numbers_of.Given as goal

abbrev pub invariant-loop-i : goal.invariant-loop-i
invariant-loop-i l = l.numbers.items ≡ l.count ∷ value_offsets l.count l.i
