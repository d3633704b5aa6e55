-- The widths in a Private DICT (Technical Note 5176, Table 23, "defaultWidthX" and "nominalWidthX").
use Rattle.std.specs.Prelude.{◌≡◌, ◌⊎◌, ℕ, suc, ◌+◌, ◌*◌, ◌^◌, ◌<◌, ◌≤◌, ℤ, pos, negsuc, int_lt, List, Option, Some, None}
use Rattle.std.specs.Int.{saturate_signed, w64}
use Rattle.std.specs.Int.RustNames.{unsigned_abs}
use Rattle.postscript_base.specs.Compact1.Decimal.{Decimal, signed}
use Rattle.postscript_base.specs.Compact1.Defaults.{look, first_of, first_two_of}
use Rattle.postscript_base.specs.Compact1.Dictionary.{Dictionary}
use Rattle.postscript_base.specs.declared.compact1.operator.Operator.TheVariants as operators
use Rattle.postscript_base.specs.Tape.Outcome.{Got}
use Rattle.postscript_compact1.specs.FontSet.Operands.{bounds}
use Rattle.postscript_compact1.specs.Kinds.{map_of}
use Rattle.postscript_view.specs.Order.{slice_at}

-- ten to the power of an exponent is the quotient of these two
abbrev pub over : ℤ → ℕ
over (pos n) = 10 ^ n
over (negsuc n) = 1

abbrev pub under : ℤ → ℕ
under (pos n) = 1
under (negsuc n) = 10 ^ suc n

-- the number of whole 65536ths in mantissa * 10 ^ exponent
pub record AreIn (mantissa : ℕ) (exponent : ℤ) (bits : ℕ) : Type 0 where
  pub at_least : bits * under exponent ≤ mantissa * 65536 * over exponent
  pub less_than : mantissa * 65536 * over exponent < (bits + 1) * under exponent

-- a decimal in 65536ths, rounded towards zero, with its sign
pub record IsCut (width : Decimal) (bits : ℤ) : Type 0 where
  pub magnitude : ℕ
  pub are_in : AreIn (unsigned_abs width.mantissa) width.exponent magnitude
  pub has_sign : bits ≡ signed (int_lt width.mantissa (pos 0)) magnitude

-- a width in 65536ths of a unit, rounded towards zero and limited to 64 bits, or 0 if there is none
abbrev pub IsWidth : Option Decimal → ℤ → Type 0
IsWidth None bits = bits ≡ pos 0
IsWidth (Some width) bits = (cut : ℤ) × IsCut width cut × (bits ≡ saturate_signed w64 cut)

-- the widths of the Private DICT in a DICT
pub record HasWidths (bytes : List ℕ) (map : Dictionary) (default_bits nominal_bits : ℤ) : Type 0 where
  pub size : ℕ
  pub offset : ℕ
  pub there : ℕ
  pub text : List ℕ
  pub local : Dictionary
  pub named : bounds 0 map bytes 0 ≡ Got (size, offset, there) 0
  pub stands : slice_at there size bytes 0 ≡ Got text 0
  pub spelled : map_of text bytes 0 ≡ Got local 0
  pub default : IsWidth (first_of (look local operators.DefaultWidthX)) default_bits
  pub nominal : IsWidth (first_of (look local operators.NominalWidthX)) nominal_bits

-- the same, or 0 if there is no Private DICT
abbrev pub AreWidths : List ℕ → Dictionary → (default_bits nominal_bits : ℤ) → Type 0
AreWidths bytes map default_bits nominal_bits =
    ((first_two_of (look map operators.Private) ≡ None) × (default_bits ≡ pos 0) × (nominal_bits ≡ pos 0))
    ⊎ HasWidths bytes map default_bits nominal_bits
