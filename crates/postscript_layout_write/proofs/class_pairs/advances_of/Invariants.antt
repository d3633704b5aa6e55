use Rattle.std.proofs.Common.{◌≡◌, ◌<◌, ◌⊎◌, ℕ, length, get_or}
use Rattle.std.specs.Prelude.{slice_index}
use Rattle.postscript_layout_write.specs.ClassPairs.{advance}
use Rattle.postscript_layout_write.specs.Entries.{AreEntries}
use Rattle.postscript_layout_write.specs.declared.entries.Entry.{Entry}
use Rattle.postscript_layout_write.specs.declared.values.Adjustment.{Adjustment}
use Rattle.postscript_layout_write.proofs.class_pairs.advances_of.Given as goal

abbrev pub invariant-loop-entry : goal.invariant-loop-entry
invariant-loop-entry l = record {
  long : length l.line.items ≡ l.width;
  done : (f : ℕ → Adjustment) → AreEntries f l.width l.entries → (j : ℕ) (d : Entry) → j < l.entry-index →
      f (get_or l.entries j d).second ≡ advance (slice_index l.line.items (get_or l.entries j d).second);
  right : (f : ℕ → Adjustment) → AreEntries f l.width l.entries → (y : ℕ) → (slice_index l.line.items y ≡ 0) ⊎ (f y ≡ advance (slice_index l.line.items y));
}
