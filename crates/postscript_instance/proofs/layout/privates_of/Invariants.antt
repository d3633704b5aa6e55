use Rattle.std.proofs.Common.{◌≡◌, All, length}
use Rattle.postscript_type2.specs.Program.Routines.{texts}
use Rattle.postscript_instance.specs.Hints.{AreHintsAt}
use Rattle.postscript_instance.specs.Whole.{IsPrivate}
use Rattle.postscript_instance.proofs.layout.privates_of.Given as goal

-- the Private DICTs so far
abbrev pub invariant-loop-number : goal.invariant-loop-number
invariant-loop-number l = record {
  counted : length (texts l.privates.items) ≡ l.number;
  are : All IsPrivate (texts l.privates.items);
  hints : AreHintsAt l.font l.place (texts l.privates.items) l.number;
}
