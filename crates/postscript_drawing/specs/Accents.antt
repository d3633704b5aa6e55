-- `seac` glyphs: adx ady bchar achar endchar (Technical Note 5177, Appendix C, "Compatibility and Deprecated Operators").
use Rattle.std.specs.Prelude.{◌≡◌, ℕ, ◌<◌, ℤ, pos, List, [], ◌∷◌, length, Option, Some, None}
use Rattle.postscript_base.specs.Index.Lent.{items_of}
use Rattle.postscript_type2.specs.Number.{to_int}
use Rattle.postscript_type2.specs.Program.Evaluation.{run_of}
use Rattle.postscript_type2.specs.Program.Routines.{lent}
use Rattle.postscript_type2.specs.Program.Runs.{Run, taken_by}
use Rattle.postscript_view.specs.declared.font.Glyph.{Glyph}
use Rattle.postscript_drawing.specs.declared.accent.Accent.{Accent}

-- the run of the charstring of a glyph, over the global subroutines and the local ones of its part
abbrev pub run_by : Glyph → Run
run_by glyph = run_of (lent (items_of glyph.global_subroutines) (items_of glyph.part.now.subroutines)) glyph.code.now

-- an operand is a code: an integer from 0 to 255
abbrev pub IsCode : (operand : ℤ) → (code : ℕ) → Type 0
IsCode operand code = (code < 256) × (to_int operand ≡ Some (pos code))

-- These operands are adx ady bchar achar.
pub record IsAccent (operands : List ℤ) (accent : Accent) : Type 0 where
  pub bchar : ℤ
  pub achar : ℤ
  pub four : operands ≡ accent.dx ∷ accent.dy ∷ bchar ∷ achar ∷ []
  pub base_is : IsCode bchar accent.base
  pub accent_is : IsCode achar accent.accent

-- There are four operands, but the last two are not both codes.
abbrev pub HasNoCodes : (operands : List ℤ) → Type 0
HasNoCodes operands = (length operands ≡ 4) × ((accent : Accent) → IsAccent operands accent → ⊥)

-- the run of a `seac` glyph, whose `endchar` takes these operands
abbrev pub IsAccentOf : Accent → Run → Type 0
IsAccentOf accent run = IsAccent (taken_by run.end) accent

-- the run of a plain glyph: its `endchar` takes no operands, or it does not reach one
abbrev pub IsPlain : Run → Type 0
IsPlain run = taken_by run.end ≡ []

-- A run is plain, or it is one of a `seac` glyph with these operands.
abbrev pub IsTold : Option Accent → Run → Type 0
IsTold None run = IsPlain run
IsTold (Some accent) run = IsAccentOf accent run
