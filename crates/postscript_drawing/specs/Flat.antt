-- Outlines of flat code.
use Rattle.std.specs.Prelude.{◌≡◌, ℕ, List, None}
use Rattle.postscript_drawing.specs.Outline.{outline_of}
use Rattle.postscript_type2.specs.Program.Evaluation.{run_of}
use Rattle.postscript_type2.specs.Program.Flat.{flat_text}
use Rattle.postscript_type2.specs.Program.Inlined.{inlined_text}
use Rattle.postscript_type2.specs.Program.Routines.{Lists}
use Rattle.postscript_type2.specs.Program.Runs.{Run, fault_of, width_of}

-- two runs with the same outline and width
pub record SameGlyph (run other : Run) : Type 0 where
  pub outline : outline_of run ≡ outline_of other
  pub width : width_of run ≡ width_of other

-- A law: if a run ends without a fault, its flat text draws the same over any lists.
abbrev pub FlatTextDrawsTheSame : Type 0
FlatTextDrawsTheSame = (lists other : Lists) (code : List ℕ) → fault_of (run_of lists code).end ≡ None →
    SameGlyph (run_of other (flat_text (run_of lists code).trace)) (run_of lists code)

-- A law: if a run ends without a fault, its inlined text draws the same over any lists.
abbrev pub InlinedTextDrawsTheSame : Type 0
InlinedTextDrawsTheSame = (lists other : Lists) (code : List ℕ) → fault_of (run_of lists code).end ≡ None →
    SameGlyph (run_of other (inlined_text (run_of lists code).trace)) (run_of lists code)
