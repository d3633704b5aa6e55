use Rattle.std.proofs.Common.{◌≡◌, ◌++◌}
use Rattle.postscript_sfnt_write.specs.Moving.{RecordsFit, moved_text}
use Rattle.postscript_sfnt_write.proofs.sequences.put_records.Given as goal

-- the records so far
abbrev pub invariant-loop-k : goal.invariant-loop-k
invariant-loop-k l = record {
  text : l.out.items ≡ l.fn.out.items ++ moved_text l.cmap l.from l.k;
  fit : RecordsFit l.cmap l.from l.k;
}
