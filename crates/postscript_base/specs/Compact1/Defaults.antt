-- The default operands of operators that a dictionary does not have (Technical Note 5176, Tables 9, 10 and 23).
use Rattle.std.specs.Prelude.{ℤ, pos, negsuc, List, [], ◌∷◌, Option, Some, None}
use Rattle.std.specs.Option.{option_or}
use Rattle.std.specs.FinMap.{get}
use Rattle.postscript_base.specs.Compact1.Decimal.{Decimal}
use Rattle.postscript_base.specs.Compact1.Dictionary.{Dictionary}
use Rattle.postscript_base.specs.declared.compact1.operator.Operator.{Operator}
use Rattle.postscript_base.specs.declared.compact1.operator.Operator.TheVariants.{FontBBox, CharSet, Encoding, DefaultWidthX, NominalWidthX, IsFixedPitch, ItalicAngle, UnderlinePosition, UnderlineThickness, PaintType, CharStringType, FontMatrix, StrokeWidth, BlueScale, BlueShift, BlueFuzz, ForceBold, LanguageGroup, ExpansionFactor, InitialRandomSeed, CIDFontVersion, CIDFontRevision, CIDFontType, CIDCount}

-- mantissa * 10 ^ exponent
abbrev pub decimal : ℤ → ℤ → Decimal
decimal mantissa exponent = record { mantissa = mantissa; exponent = exponent }

abbrev pub default_of : Operator → Option (List Decimal)
default_of FontBBox = Some (decimal (pos 0) (pos 0) ∷ decimal (pos 0) (pos 0) ∷ decimal (pos 0) (pos 0) ∷ decimal (pos 0) (pos 0) ∷ [])
default_of CharSet = Some (decimal (pos 0) (pos 0) ∷ [])
default_of Encoding = Some (decimal (pos 0) (pos 0) ∷ [])
default_of DefaultWidthX = Some (decimal (pos 0) (pos 0) ∷ [])
default_of NominalWidthX = Some (decimal (pos 0) (pos 0) ∷ [])
default_of IsFixedPitch = Some (decimal (pos 0) (pos 0) ∷ [])
default_of ItalicAngle = Some (decimal (pos 0) (pos 0) ∷ [])
default_of UnderlinePosition = Some (decimal (negsuc 0) (pos 2) ∷ [])
default_of UnderlineThickness = Some (decimal (pos 5) (pos 1) ∷ [])
default_of PaintType = Some (decimal (pos 0) (pos 0) ∷ [])
default_of CharStringType = Some (decimal (pos 2) (pos 0) ∷ [])
default_of FontMatrix = Some (decimal (pos 1) (negsuc 2) ∷ decimal (pos 0) (pos 0) ∷ decimal (pos 0) (pos 0) ∷ decimal (pos 1) (negsuc 2)
    ∷ decimal (pos 0) (pos 0) ∷ decimal (pos 0) (pos 0) ∷ [])
default_of StrokeWidth = Some (decimal (pos 0) (pos 0) ∷ [])
default_of BlueScale = Some (decimal (pos 39625) (negsuc 5) ∷ [])
default_of BlueShift = Some (decimal (pos 7) (pos 0) ∷ [])
default_of BlueFuzz = Some (decimal (pos 1) (pos 0) ∷ [])
default_of ForceBold = Some (decimal (pos 0) (pos 0) ∷ [])
default_of LanguageGroup = Some (decimal (pos 0) (pos 0) ∷ [])
default_of ExpansionFactor = Some (decimal (pos 6) (negsuc 1) ∷ [])
default_of InitialRandomSeed = Some (decimal (pos 0) (pos 0) ∷ [])
default_of CIDFontVersion = Some (decimal (pos 0) (pos 0) ∷ [])
default_of CIDFontRevision = Some (decimal (pos 0) (pos 0) ∷ [])
default_of CIDFontType = Some (decimal (pos 0) (pos 0) ∷ [])
default_of CIDCount = Some (decimal (pos 872) (pos 1) ∷ [])
default_of _ = None

-- the operands of an operator in a dictionary, otherwise its defaults, if it has any
abbrev pub look : Dictionary → Operator → Option (List Decimal)
look map operator = option_or (get map operator) (default_of operator)

abbrev pub first_of : Option (List Decimal) → Option Decimal
first_of None = None
first_of (Some []) = None
first_of (Some (first ∷ rest)) = Some first

abbrev pub first_two_of : Option (List Decimal) → Option (Decimal × Decimal)
first_two_of None = None
first_two_of (Some []) = None
first_two_of (Some (first ∷ [])) = None
first_two_of (Some (first ∷ second ∷ rest)) = Some (first, second)
