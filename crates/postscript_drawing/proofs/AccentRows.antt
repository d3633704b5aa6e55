-- What small programs end over, as it is computed, and names of codes.
use Rattle.std.proofs.Common.{◌≡◌, refl, ℕ, List, [], ◌∷◌, ℤ, pos, neg_ℤ}
use Rattle.postscript_base.specs.Numbers.{number, slice}
use Rattle.postscript_type2.specs.Number.{whole}
use Rattle.postscript_type2.specs.Program.Evaluation.{run_of}
use Rattle.postscript_type2.specs.Program.Routines.{lent}
use Rattle.postscript_type2.specs.Program.Runs.{taken_by}
use Rattle.postscript_drawing.specs.Components.{standard_identifier}

-- whole numbers as operands
abbrev n : ℕ → ℤ
n k = whole (pos k)

abbrev minus : ℕ → ℤ
minus k = whole (neg_ℤ (pos k))

-- what the endchar of code without calls takes
abbrev taken : List ℕ → List ℤ
taken code = taken_by (run_of (lent [] []) code).end

-- 30 -40 65 194 endchar
four : taken (0xa9 ∷ 0x63 ∷ 0xcc ∷ 0xf7 ∷ 0x56 ∷ 0x0e ∷ []) ≡ n 30 ∷ minus 40 ∷ n 65 ∷ n 194 ∷ []
unfolding number slice
four = refl

-- a width beneath them is not taken
with_width : taken (0xc2 ∷ 0xa9 ∷ 0x63 ∷ 0xcc ∷ 0xf7 ∷ 0x56 ∷ 0x0e ∷ []) ≡ n 30 ∷ minus 40 ∷ n 65 ∷ n 194 ∷ []
unfolding number slice
with_width = refl

-- 5 hmoveto 8 8 rlineto 0 0 65 194 endchar
behind_a_line : taken (0x90 ∷ 0x16 ∷ 0x93 ∷ 0x93 ∷ 0x05 ∷ 0x8b ∷ 0x8b ∷ 0xcc ∷ 0xf7 ∷ 0x56 ∷ 0x0e ∷ []) ≡ n 0 ∷ n 0 ∷ n 65 ∷ n 194 ∷ []
unfolding number slice
behind_a_line = refl

-- a plain endchar, one with a width, and one with three operands
none : taken (0x0e ∷ []) ≡ []
unfolding number slice
none = refl

width_alone : taken (0x8e ∷ 0x0e ∷ []) ≡ []
unfolding number slice
width_alone = refl

of_three : taken (0x8c ∷ 0x8d ∷ 0x8e ∷ 0x0e ∷ []) ≡ []
unfolding number slice
of_three = refl

-- No endchar comes: neg (0c 0e) behind a line of four operands, and a mask that has the byte.
ends_in_neg : taken (0x8c ∷ 0x8d ∷ 0x8e ∷ 0x8f ∷ 0x05 ∷ 0x8c ∷ 0x0c ∷ 0x0e ∷ []) ≡ []
unfolding number slice
ends_in_neg = refl

ends_in_mask : taken (0x8c ∷ 0x8d ∷ 0x8e ∷ 0x8f ∷ 0x05 ∷ 0x8c ∷ 0x8d ∷ 0x01 ∷ 0x13 ∷ 0x0e ∷ []) ≡ []
unfolding number slice
ends_in_mask = refl

-- The endchar stands in the global subroutine 0, and its last operand before the call.
in_a_routine : taken_by (run_of (lent ((0x0e ∷ []) ∷ []) []) (0xa9 ∷ 0x63 ∷ 0xcc ∷ 0xf7 ∷ 0x56 ∷ 0x20 ∷ 0x1d ∷ [])).end ≡ n 30 ∷ minus
    40 ∷ n 65 ∷ n 194 ∷ []
unfolding number slice
in_a_routine = refl

-- A, acute, and a code that the standard encoding does not list
name_of_a : standard_identifier 65 ≡ 34
name_of_a = refl

name_of_acute : standard_identifier 194 ≡ 125
name_of_acute = refl

name_of_none : standard_identifier 0 ≡ 0
name_of_none = refl
