use Rattle.postscript_base.specs.Index.Lent.{items_of}
use Rattle.postscript_type2.specs.Program.Routines.{texts}
use Rattle.postscript_write.specs.NewStrings.{AreAdded, AreRenumbered}
use Rattle.postscript_write.proofs.strings.Strings.add_all.Given as goal

abbrev pub invariant-loop-i : goal.invariant-loop-i
invariant-loop-i l = record {
  written : AreRenumbered (items_of l.own) (texts l.self.texts.items) l.self.renumbered.items;
  added : AreAdded l.fn.self.renumbered.items l.identifiers l.i l.self.renumbered.items;
}
