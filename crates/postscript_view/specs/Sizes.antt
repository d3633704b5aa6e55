-- The size of the dictionaries of a CID-keyed font (Technical Note 5176, section 15, and Table 9, "Private": its size and its offset).
use Rattle.std.specs.Prelude.{ℕ, ◌+◌, ◌≤◌, ℤ, pos, negsuc, List, length, Option, Some, None, IsSome}
use Rattle.std.specs.List.{sum_by}
use Rattle.postscript_base.specs.Compact1.Decimal.{Decimal, to_i32}
use Rattle.postscript_base.specs.Compact1.Defaults.{look, first_two_of}
use Rattle.postscript_base.specs.Compact1.Dictionary.{Dictionary}
use Rattle.postscript_base.specs.declared.compact1.operator.Operator.TheVariants as operators
use Rattle.postscript_view.specs.Layout.{NamesIndex}
use Rattle.postscript_view.specs.declared.private_dict.PrivateDict.{PrivateDict}

-- a number of bytes, which is 0 if it is negative or missing
abbrev pub size_in : Option ℤ → ℕ
size_in (Some (pos size)) = size
size_in (Some (negsuc n)) = 0
size_in None = 0

abbrev pub size_named : Option (Decimal × Decimal) → ℕ
size_named (Some (size, offset)) = size_in (to_i32 size)
size_named None = 0

-- the size of the Private DICT that a Font DICT names
abbrev pub size_of : Option Dictionary → ℕ
size_of (Some font_dictionary) = size_named (first_two_of (look font_dictionary operators.Private))
size_of None = 0

abbrev pub private_size : PrivateDict → ℕ
private_size part = size_of part.font_dictionary

-- the total for all parts, even if they name the same bytes
abbrev pub private_bytes : List PrivateDict → ℕ
private_bytes parts = sum_by private_size parts

-- the font is CID-keyed
abbrev pub IsKeyed : Dictionary → Type 0
IsKeyed dictionary = IsSome (look dictionary operators.ROS)

-- The Font DICTs that FDArray names ("CID-keyed Fonts"), and the Private DICTs that they name, have at most 20,000,000 bytes in total. A
-- Private DICT is counted for each Font DICT that names it.
abbrev pub HoldFew : (bytes : List ℕ) → Dictionary → List PrivateDict → Type 0
HoldFew bytes dictionary parts =
    (items : List (List ℕ)) × NamesIndex bytes dictionary operators.FDArray items × (sum_by length items + private_bytes parts ≤ 20000000)
