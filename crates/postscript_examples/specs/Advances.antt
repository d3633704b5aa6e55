-- The advance width of a glyph (Technical Note 5176, Table 23, defaultWidthX and nominalWidthX; Technical Note 5177, 3.1).
use Rattle.std.specs.Prelude.{◌≡◌, ℕ, ℤ, pos, ◌*ℤ◌, ◌+ℤ◌, List, Option, Some, None, slice_get}
use Rattle.std.specs.Option.{option_map}
use Rattle.postscript_base.specs.Compact1.Decimal.{Decimal, to_i32}
use Rattle.postscript_base.specs.Compact1.Defaults.{first_of, look}
use Rattle.postscript_base.specs.Compact1.Dictionary.{Dictionary}
use Rattle.postscript_base.specs.declared.compact1.operator.Operator.TheVariants.{DefaultWidthX, NominalWidthX}
use Rattle.postscript_compact1.specs.Index.{Index}
use Rattle.postscript_compact1.specs.FontSet.Font.{Font}
use Rattle.postscript_type2.specs.Program.Evaluation.{run_of}
use Rattle.postscript_type2.specs.Program.Runs.{width_of}
use Rattle.postscript_examples.specs.Glyphs.{HasGlyphs, lists}

-- a width of a DICT in 65536ths, if it is an integer of 32 bits
abbrev pub in_bits : Option Decimal → Option ℤ
in_bits None = None
in_bits (Some width) = option_map (λ n. n *ℤ pos 65536) (to_i32 width)

-- The default width, if a charstring gives none. Otherwise it is the nominal width plus the width in the charstring.
abbrev pub advance_of : Dictionary → Option ℤ → Option ℤ
advance_of private None = in_bits (first_of (look private DefaultWidthX))
advance_of private (Some difference) = option_map (λ n. n +ℤ difference) (in_bits (first_of (look private NominalWidthX)))

-- A font's dictionary, counted from 0, has this glyph, these local subroutines and this Private DICT.
pub record HasGlyph (font : Font) (dictionary glyph : ℕ) (code : List ℕ) (local : Index) (private : Dictionary) : Type 0 where
  pub codes : Index
  pub glyphs : HasGlyphs font dictionary codes local
  pub dictionaries : slice_get font.local_dictionaries dictionary ≡ Some private
  pub item : slice_get codes.items glyph ≡ Some code

-- the advance width by a glyph's run and its Private DICT
abbrev pub advance_by : Font → List ℕ → Index → Dictionary → Option ℤ
advance_by font code local private = advance_of private (width_of (run_of (lists font.global_subroutines local) code))
