-- The advance of a glyph (Technical Note 5176, Table 23, "defaultWidthX" and "nominalWidthX"; Technical Note 5177, 3.1).
use Rattle.std.specs.Prelude.{◌≡◌, ◌⊎◌, ℕ, ℤ, pos, ◌*ℤ◌, ◌+ℤ◌, List, [], Option, Some, None, Result, Ok, Err}
use Rattle.std.specs.Option.{option_map}
use Rattle.postscript_base.specs.Compact1.Decimal.{Decimal, to_i32}
use Rattle.postscript_base.specs.Compact1.Defaults.{look, first_of}
use Rattle.postscript_base.specs.Compact1.Dictionary.{Dictionary}
use Rattle.postscript_base.specs.declared.compact1.operator.Operator.TheVariants.{DefaultWidthX, NominalWidthX}
use Rattle.postscript_base.specs.Index.Lent.{items_of}
use Rattle.postscript_base.specs.declared.error.Error.{Error}
use Rattle.postscript_base.specs.declared.error.Error.TheVariants.{Memory}
use Rattle.postscript_type2.specs.Program.Evaluation.{run_of}
use Rattle.postscript_type2.specs.Program.Limit.{Spends, IsLast}
use Rattle.postscript_type2.specs.Program.Routines.{lent}
use Rattle.postscript_type2.specs.Program.Runs.{End, Phrase, Run, fault_of, width_of}
use Rattle.postscript_view.specs.Glyphs.{HasGlyph}
use Rattle.postscript_view.specs.declared.advance.Advance.{Advance}
use Rattle.postscript_view.specs.declared.advance.Advance.TheVariants.{Default, Nominal}
use Rattle.postscript_view.specs.declared.advance.AdvanceWithin.{AdvanceWithin}
use Rattle.postscript_view.specs.declared.advance.AdvanceWithin.TheVariants.{Known, Unknown, TooLong}
use Rattle.postscript_view.specs.declared.font.FontView.{FontView}
use Rattle.postscript_view.specs.declared.private_dict.PrivateDict.{PrivateDict}

-- The default width if a charstring has no width. Otherwise it is the sum of the nominal width and the difference in the charstring.
abbrev pub advance_of : Dictionary → Option ℤ → Option Advance
advance_of private None = option_map Default (first_of (look private DefaultWidthX))
advance_of private (Some difference) = option_map (λ nominal. Nominal nominal difference) (first_of (look private NominalWidthX))

-- A glyph has this run: the run of its charstring, over the global subroutines and the local ones of its part.
pub record HasRun (font : FontView) (glyph : ℕ) (part : PrivateDict) (run : Run) : Type 0 where
  pub code : List ℕ
  pub has : HasGlyph font glyph code part
  pub runs : run ≡ run_of (lent (items_of font.global_subroutines) (items_of part.subroutines)) code

-- the outcome for an advance, or for none
abbrev pub outcome_of : Option Advance → AdvanceWithin
outcome_of (Some advance) = Known advance
outcome_of None = Unknown

-- The outcome of a run with this end and this advance. If the run ends without a fault, it is the advance, or `Unknown` if there is none.
-- If the limit is used up first, nothing is stated about the advance.
abbrev pub TellsAdvance : Option Advance → End → AdvanceWithin → Type 0
TellsAdvance advance end (Known found) = (advance ≡ Some found) × (fault_of end ≡ None)
TellsAdvance advance end Unknown = (advance ≡ None) × (fault_of end ≡ None)
TellsAdvance advance end TooLong = Unit {0}

-- How a limit is spent on the phrases of a run. If the run ends, it is spent on all of them. If the run fails, it is spent on those before
-- the phrase at which it fails, unless memory runs out. If the limit is used up, nothing is left of it.
abbrev pub PaysPhrases : List Phrase → (limit : ℕ) → Result AdvanceWithin Error → (left : ℕ) → Type 0
PaysPhrases phrases limit (Ok (Known advance)) left = Spends limit phrases left []
PaysPhrases phrases limit (Ok Unknown) left = Spends limit phrases left []
PaysPhrases phrases limit (Ok TooLong) left = (left ≡ 0) × ((rest : List Phrase) × Spends limit phrases left rest)
PaysPhrases phrases limit (Err e) left = (rest : List Phrase) × Spends limit phrases left rest × ((e ≡ Memory) ⊎ IsLast rest)

-- there is no such glyph, or it has no part
abbrev pub LacksGlyph : FontView → (glyph : ℕ) → Type 0
LacksGlyph font glyph = (code : List ℕ) (part : PrivateDict) → HasGlyph font glyph code part → ⊥

-- The outcome for a glyph is the one for its run. A glyph that does not exist has no advance.
abbrev pub TellsGlyph : FontView → (glyph : ℕ) → AdvanceWithin → Type 0
TellsGlyph font glyph told = (LacksGlyph font glyph × (told ≡ Unknown))
    ⊎ ((part : PrivateDict) × (run : Run) × HasRun font glyph part run
    × TellsAdvance (advance_of part.dictionary (width_of run)) run.end told)

-- The limit is spent on the run of the glyph. A glyph that does not exist costs nothing.
abbrev pub PaysGlyph : FontView → (glyph limit : ℕ) → Result AdvanceWithin Error → (left : ℕ) → Type 0
PaysGlyph font glyph limit result left = (LacksGlyph font glyph × (left ≡ limit))
    ⊎ ((part : PrivateDict) × (run : Run) × HasRun font glyph part run × PaysPhrases run.trace limit result left)

-- a width of a DICT in 65536ths of a unit, if it is an integer of 32 bits
abbrev pub whole_bits : Decimal → Option ℤ
whole_bits width = option_map (λ n. n *ℤ pos 65536) (to_i32 width)

-- the advance in 65536ths of a unit
abbrev pub bits_of : Advance → Option ℤ
bits_of (Default width) = whole_bits width
bits_of (Nominal width difference) = option_map (λ n. n +ℤ difference) (whole_bits width)
