use Rattle.std.proofs.Common.{◌≡◌, ◌++◌, drop, flat_map}
use Rattle.postscript_sequences.specs.Text.{range_text}
use Rattle.postscript_sequences.proofs.writing.put_ranges.Given as goal

-- what is still to be written completes the list
abbrev pub invariant-loop-char : goal.invariant-loop-char
invariant-loop-char l = l.out.items ++ flat_map range_text (drop l.char-index l.chars) ≡ l.fn.out.items ++ flat_map range_text l.chars
