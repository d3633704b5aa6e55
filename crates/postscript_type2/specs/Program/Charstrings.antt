-- Charstrings and the subroutines that they may call.
use Rattle.std.specs.Prelude.{ℕ, List}
use Rattle.postscript_base.specs.Index.Lent.{items_of}
use Rattle.postscript_type2.specs.declared.program.charstring.Charstring.{Charstring}
use Rattle.postscript_type2.specs.declared.program.subroutines.Routines.{Routines}
use Rattle.postscript_type2.specs.declared.program.subroutines.Routines.TheVariants.{Listed, Lent}
use Rattle.postscript_type2.specs.declared.program.subroutines.Subroutines.{Subroutines}
use Rattle.postscript_type2.specs.Program.Evaluation.{run_of}
use Rattle.postscript_type2.specs.Program.Meaning.{IsRunOf}
use Rattle.postscript_type2.specs.Program.Routines.{Lists, texts}
use Rattle.postscript_type2.specs.Program.Runs.{Run}

-- the bytes of each subroutine
abbrev pub routines_of : Routines → List (List ℕ)
routines_of (Listed routines) = texts routines.now
routines_of (Lent items) = items_of items

-- subroutines as bytes: the global ones of a font set and the local ones of a font
abbrev pub lists_of : Subroutines → Lists
lists_of subroutines = record { global = routines_of subroutines.global; local = routines_of subroutines.local }

-- the run of a charstring over its subroutines, computed, and by the rules
abbrev pub run_from : Charstring → Run
run_from charstring = run_of (lists_of charstring.subroutines) charstring.code.now

abbrev pub IsRunFrom : Charstring → Run → Type 0
IsRunFrom charstring run = IsRunOf (lists_of charstring.subroutines) charstring.code.now run
