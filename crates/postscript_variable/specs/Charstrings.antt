-- Charstrings with the subroutines that they may call, and the data for blend.
use Rattle.std.specs.Prelude.{List}
use Rattle.postscript_type2.specs.Program.Charstrings.{lists_of}
use Rattle.postscript_type2.specs.Program.Runs.{Answer}
use Rattle.postscript_variable.specs.declared.charstring.Charstring.{Charstring}
use Rattle.postscript_variable.specs.State.{Font}
use Rattle.postscript_variable.specs.Evaluation.{Run, run_of}
use Rattle.postscript_variable.specs.Meaning.{End, IsRunOf}
use Rattle.postscript_variable.specs.Programs.{font}

-- the subroutines and the scalars of a charstring
abbrev pub font_from : Charstring → Font
font_from charstring = font (lists_of charstring.subroutines) charstring.blends.tables.now

-- the run of a charstring, computed, and by the rules
abbrev pub run_from : Charstring → Run
run_from charstring = run_of (font_from charstring) charstring.blends.index charstring.code.now

abbrev pub IsRunFrom : Charstring → List Answer → End → Type 0
IsRunFrom charstring answers end = IsRunOf (font_from charstring) charstring.blends.index charstring.code.now answers end
