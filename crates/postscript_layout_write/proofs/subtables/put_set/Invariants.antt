use Rattle.std.proofs.Common.{◌≡◌, ◌++◌, drop, take}
use Rattle.std.specs.List.{All}
use Rattle.postscript_layout_write.specs.Text.{EntryFits, entries_text, set_text}
use Rattle.postscript_layout_write.proofs.subtables.put_set.Given as goal

-- the entries that are left complete the set
abbrev pub invariant-loop-entry : goal.invariant-loop-entry
invariant-loop-entry l = record {
  text : l.out.items ++ entries_text l.form (drop l.entry-index l.entries) ≡ l.fn.out.items ++ set_text l.form l.entries;
  fit : All (EntryFits l.form) (take l.entry-index l.entries);
}
