use Rattle.std.proofs.Common.{take}
use Rattle.postscript_layout_write.specs.Text.{AreOfForm}
use Rattle.postscript_layout_write.proofs.subtables.of_form.Given as goal

abbrev pub invariant-loop-entry : goal.invariant-loop-entry
invariant-loop-entry l = AreOfForm l.form (take l.entry-index l.entries) l.found.items
