-- The operators, by their kinds (Technical Note 5177, "Path Construction Operators", "Operator for Finishing a Path", "Hint Operators",
-- "Arithmetic Operators", "Conditional Operators", "Subroutine Operators", "Storage Operators"). The comment at an operator gives its
-- operands.
use Rattle.std.specs.Prelude.{ℕ, ℤ, Bool, false, List, Option}
use Rattle.postscript_base.specs.declared.error.Part.{Part}
use Rattle.postscript_base.specs.declared.error.Part.TheVariants as parts
use Rattle.postscript_type2.specs.declared.operation.Operator.{Operator}
use Rattle.postscript_type2.specs.declared.operation.Operator.TheVariants.{HStem, VStem, VMoveTo, RLineTo, HLineTo, VLineTo, RRCurveTo, CallSubr, Return, EndChar, HStemHM, HintMask, CntrMask, RMoveTo, HMoveTo, VStemHM, RCurveLine, RLineCurve, VVCurveTo, HHCurveTo, CallGSubr, VHCurveTo, HVCurveTo, And, Or, Not, Abs, Add, Sub, Div, Neg, Eq, Drop, Put, Get, IfElse, Random, Mul, Sqrt, Dup, Exch, Index, Roll, HFlex, Flex, HFlex1, Flex1}
use Rattle.postscript_type2.specs.Program.FixedPoint.{absolute_value, opposite, root, sum, difference, product, quotient, both, either, denial, same_bits}
use Rattle.postscript_type2.specs.Operation.Lengths.{exactly, some, groups_and, groups, curves_of_four, greatest}
use Rattle.postscript_type2.specs.Program.Routines.{Lists}
use Rattle.postscript_type2.specs.Program.Stacks.{one_to_one, two_to_one, choice, removal, exchange, duplication, copy, roll}
use Rattle.postscript_type2.specs.Program.Storage.{storing, fetching}
use Rattle.postscript_type2.specs.Program.StackWork.{Work}

-- The kinds of operators. `takes` tests how many operands an operator that clears the stack may take.
pub data Kind : Type 0 where
  Draws : (takes : ℕ → Bool) → Kind
  DeclaresStems : (takes : ℕ → Bool) → Kind
  Masks : (takes : ℕ → Bool) → Kind
  Works : Work (Unit {0}) → Kind
  Stores : ((stored : List ℤ) → Work (List ℤ)) → Kind
  CallsFrom : (Lists → List (List ℕ)) → Kind
  GoesBack : Kind
  EndsGlyph : Kind
  IsRefused : Part → Kind

-- The kind of each operator.
abbrev pub kind : Operator → Kind
-- dx1 dy1
kind RMoveTo = Draws (exactly 2)
-- dx1
kind HMoveTo = Draws (exactly 1)
-- dy1
kind VMoveTo = Draws (exactly 1)
-- {dxa dya}+
kind RLineTo = Draws (groups 2)
-- dx1 {dya dxb}*, or {dxa dyb}+
kind HLineTo = Draws some
-- dy1 {dxa dyb}*, or {dya dxb}+
kind VLineTo = Draws some
-- {dxa dya dxb dyb dxc dyc}+
kind RRCurveTo = Draws (groups 6)
-- dy1? {dxa dxb dyb dxc}+
kind HHCurveTo = Draws curves_of_four
-- dx1? {dya dxb dyb dyc}+
kind VVCurveTo = Draws curves_of_four
-- dx1 dx2 dy2 dy3 {dya dxb dyb dxc dxd dxe dye dyf}* dxf?, or {dxa dxb dyb dyc dyd dxe dye dxf}+ dyf?
kind HVCurveTo = Draws curves_of_four
-- dy1 dx2 dy2 dx3 {dxa dxb dyb dyc dyd dxe dye dxf}* dyf?, or {dya dxb dyb dxc dxd dxe dye dyf}+ dxf?
kind VHCurveTo = Draws curves_of_four
-- {dxa dya dxb dyb dxc dyc}+ dxd dyd
kind RCurveLine = Draws (groups_and 6 2)
-- {dxa dya}+ dxb dyb dxc dyc dxd dyd
kind RLineCurve = Draws (groups_and 2 6)
-- dx1 dy1 dx2 dy2 dx3 dy3 dx4 dy4 dx5 dy5 dx6 dy6 fd
kind Flex = Draws (exactly 13)
-- dx1 dy1 dx2 dy2 dx3 dy3 dx4 dy4 dx5 dy5 d6
kind Flex1 = Draws (exactly 11)
-- dx1 dx2 dy2 dx3 dx4 dx5 dx6
kind HFlex = Draws (exactly 7)
-- dx1 dy1 dx2 dy2 dx3 dx4 dx5 dy5 dx6
kind HFlex1 = Draws (exactly 9)
-- y dy {dya dyb}*
kind HStem = DeclaresStems (groups 2)
kind HStemHM = DeclaresStems (groups 2)
-- x dx {dxa dxb}*
kind VStem = DeclaresStems (groups 2)
kind VStemHM = DeclaresStems (groups 2)
-- none: operands on the stack are stems that no operator declared
kind HintMask = Masks (exactly 0)
kind CntrMask = Masks (exactly 0)
kind CallSubr = CallsFrom (λ lists. lists.local)
kind CallGSubr = CallsFrom (λ lists. lists.global)
kind Return = GoesBack
kind EndChar = EndsGlyph
kind Abs = Works (one_to_one absolute_value)
kind Neg = Works (one_to_one opposite)
kind Sqrt = Works (one_to_one root)
kind Not = Works (one_to_one denial)
kind Add = Works (two_to_one sum)
kind Sub = Works (two_to_one difference)
kind Mul = Works (two_to_one product)
kind Div = Works (two_to_one quotient)
kind And = Works (two_to_one both)
kind Or = Works (two_to_one either)
kind Eq = Works (two_to_one same_bits)
kind IfElse = Works choice
kind Drop = Works removal
kind Exch = Works exchange
kind Dup = Works duplication
kind Index = Works copy
kind Roll = Works roll
kind Put = Stores storing
kind Get = Stores fetching
kind Random = IsRefused parts.Random

-- the lengths of a kind; there are none for an operator that does not clear the stack
abbrev pub lengths : Kind → ℕ → Bool
lengths (Draws takes) n = takes n
lengths (DeclaresStems takes) n = takes n
lengths (Masks takes) n = takes n
lengths (Works work) n = false
lengths (Stores work) n = false
lengths (CallsFrom routines) n = false
lengths GoesBack n = false
lengths EndsGlyph n = false
lengths (IsRefused part) n = false

-- the greatest number of operands, out of n, that an operator may take
abbrev pub taken : Operator → ℕ → Option ℕ
taken op n = greatest (lengths (kind op)) n
