-- The operations and the width of a charstring, and the results of calls for it.
use Rattle.std.specs.Prelude.{◌≡◌, ℕ, ℤ, List, [], ◌∷◌, map, Vec, Option, None, Some, slice_get}
use Rattle.std.specs.Option.{option_or}
use Rattle.std.specs.declared.alloc.Global.{Global}
use Rattle.postscript_base.specs.Refusal.{Refusal}
use Rattle.postscript_compact1.specs.Index.{Index}
use Rattle.postscript_compact1.specs.FontSet.Font.{Font}
use Rattle.postscript_type2.specs.declared.operation.Operator.{Operator}
use Rattle.postscript_type2.specs.Program.Evaluation.{run_of}
use Rattle.postscript_type2.specs.Program.Routines.{Lists}
use Rattle.postscript_type2.specs.Program.Runs.{operation, width_of, fault_of}
use Rattle.postscript_type2.specs.Program.RunAnswers.{operation_of}

-- operations and a width
abbrev pub Drawn : Type 0
Drawn = List (Operator × List ℤ) × Option ℤ

-- the operations and the width of a code's run
abbrev pub drawn_by : Lists → List ℕ → Drawn
drawn_by lists code = (map operation (run_of lists code).answers, width_of (run_of lists code))

abbrev pub drawn : Vec (Operator × Vec ℤ Global) Global × Option ℤ → Drawn
drawn glyph = (map operation_of glyph.0.items, glyph.1)

-- the subroutines of two INDEXes
abbrev pub lists : (global local : Index) → Lists
lists global local = record { global = global.items; local = local.items }

-- the error of a code's run, if it fails
abbrev pub refused_by : Lists → List ℕ → Option Refusal
refused_by lists code = fault_of (run_of lists code).end

-- the error of the first of these runs that fails
abbrev pub first_refused_by : Lists → List (List ℕ) → Option Refusal
first_refused_by lists [] = None
first_refused_by lists (code ∷ codes) = option_or (refused_by lists code) (first_refused_by lists codes)

-- one of a font's dictionaries, counted from 0, has these charstrings and these local subroutines
abbrev pub HasGlyphs : Font → ℕ → (codes local : Index) → Type 0
HasGlyphs font dictionary codes local = (slice_get font.char_strings dictionary ≡ Some codes)
    × (slice_get font.local_subroutines dictionary ≡ Some local)
