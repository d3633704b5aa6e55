use Rattle.std.proofs.Common.{◌≡◌, ◌++◌, drop, flat_map}
use Rattle.postscript_sequences.specs.Text.{mapping_text}
use Rattle.postscript_sequences.proofs.writing.put_mappings.Given as goal

-- what is still to be written completes the list
abbrev pub invariant-loop-char : goal.invariant-loop-char
invariant-loop-char l = l.out.items ++ flat_map mapping_text (drop l.char-index l.mapped) ≡ l.fn.out.items ++ flat_map mapping_text l.mapped
