use Rattle.std.proofs.Common.{◌≡◌, ◌++◌}
use Rattle.std.specs.List.{range_with_len}
use Rattle.std.specs.Prelude.{flat_map}
use Rattle.postscript_write.specs.SetTexts.{span_text}
use Rattle.postscript_write.specs.Texts.{number_text}
use Rattle.postscript_write.proofs.char_sets.put_spans.Given as goal

abbrev pub invariant-loop-r : goal.invariant-loop-r
invariant-loop-r l =
    l.out.items ≡ l.fn.out.items ++ (number_text 1 1 ++ flat_map (span_text l.identifiers l.firsts) (range_with_len 0 l.r))
