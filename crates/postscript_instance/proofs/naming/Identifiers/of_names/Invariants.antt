use Rattle.std.proofs.Common.{◌≤◌, length, take}
use Rattle.std.specs.List.{concat}
use Rattle.postscript_type2.specs.Program.Routines.{texts}
use Rattle.postscript_instance.specs.Encoded.{AreIdentified}
use Rattle.postscript_instance.specs.Rooms.{names_size}
use Rattle.postscript_instance.specs.Whole.{AreCustom}
use Rattle.postscript_instance.proofs.naming.Identifiers.of_names.Given as goal

-- the names so far
abbrev pub invariant-loop-i : goal.invariant-loop-i
invariant-loop-i l = record {
  custom : AreCustom (take l.i l.names) (texts l.identifiers.strings.items);
  identified : AreIdentified (take l.i l.names) (texts l.identifiers.strings.items) l.identifiers.numbers.items;
  few : length l.identifiers.strings.items ≤ l.i;
  small : length (concat (texts l.identifiers.strings.items)) ≤ names_size (take l.i l.names);
}
