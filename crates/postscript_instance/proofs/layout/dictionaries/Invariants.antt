use Rattle.std.proofs.Common.{◌≡◌, ◌+◌, ◌++◌, drop, length}
use Rattle.std.specs.List.{concat}
use Rattle.postscript_type2.specs.Program.Routines.{texts}
use Rattle.postscript_instance.specs.Encoded.{font_dicts}
use Rattle.postscript_instance.proofs.layout.dictionaries.Given as goal

-- the Font DICTs so far, and those of the rest, are all
abbrev pub invariant-loop-private : goal.invariant-loop-private
invariant-loop-private l = record {
  all : texts l.all.items ++ font_dicts (texts (drop l.private-index l.privates)) l.offset ≡ font_dicts (texts l.privates) l.place;
  end : l.offset + length (concat (texts (drop l.private-index l.privates))) ≡ l.place + length (concat (texts l.privates));
}
