use Rattle.std.proofs.Common.{◌≡◌, ◌++◌, length, take}
use Rattle.std.specs.Prelude.{flat_map}
use Rattle.postscript_write.specs.Selected.{range_text}
use Rattle.postscript_write.specs.Texts.{number_text}
use Rattle.postscript_write.proofs.numbering.put_ranges.Given as goal

abbrev pub invariant-loop-r : goal.invariant-loop-r
invariant-loop-r l =
    l.out.items ≡ l.fn.out.items ++ (number_text 1
    3 ++ (number_text 2 (length l.firsts) ++ flat_map (range_text l.numbers) (take l.r l.firsts)))
