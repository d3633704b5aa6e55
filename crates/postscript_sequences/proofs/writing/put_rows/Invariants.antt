use Rattle.std.proofs.Common.{◌≡◌, ◌++◌, drop, flat_map}
use Rattle.postscript_sequences.specs.Text.{row_text}
use Rattle.postscript_sequences.proofs.writing.put_rows.Given as goal

-- what is still to be written completes the list
abbrev pub invariant-loop-row : goal.invariant-loop-row
invariant-loop-row l = l.out.items ++ flat_map row_text (drop l.row-index l.rows) ≡ l.fn.out.items ++ flat_map row_text l.rows
