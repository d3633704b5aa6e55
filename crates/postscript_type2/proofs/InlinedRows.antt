-- Inlined code of small programs with calls, computed from the definitions.
use Rattle.std.proofs.Common.{◌≡◌, refl, ℕ, List, [], ◌∷◌, Some, None, ℤ, pos}
use Rattle.postscript_type2.specs.declared.operation.Operator.TheVariants.{HStem, HintMask, HMoveTo, RLineTo}
use Rattle.postscript_type2.specs.Program.Evaluation.{run_of}
use Rattle.postscript_type2.specs.Program.Inlined.{before_last, inlined_text, inlined_len}
use Rattle.postscript_type2.specs.Number.{whole}
use Rattle.postscript_type2.specs.Program.Routines.{Lists}
use Rattle.postscript_type2.proofs.Meant.{Tells, meant}

-- The local subroutine has a mask, moves by a number of its own, leaves an operand and returns; the global one ends the glyph.
abbrev with_calls : Lists
with_calls = record { global = (0x0e ∷ []) ∷ []; local = (0x13 ∷ 0x80 ∷ 0x8c ∷ 0x16 ∷ 0x8d ∷ 0x0b ∷ []) ∷ [] }

abbrev no_lists : Lists
no_lists = record { global = []; local = [] }

abbrev n : ℕ → ℤ
n k = whole (pos k)

-- A stem with a width, a call of the local subroutine, a line by the operand that it left and one more, a call of the global
-- subroutine, and a byte behind it. The number of either is -107.
abbrev code : List ℕ
code = 0x8e ∷ 0x8c ∷ 0x8d ∷ 0x01 ∷ 0x20 ∷ 0x0a ∷ 0x8f ∷ 0x05 ∷ 0x20 ∷ 0x1d ∷ 0x00 ∷ []

abbrev shorter : List ℕ
shorter = 0x8e ∷ 0x8c ∷ 0x8d ∷ 0x01 ∷ 0x13 ∷ 0x80 ∷ 0x8c ∷ 0x16 ∷ 0x8d ∷ 0x8f ∷ 0x05 ∷ 0x0e ∷ []

of_code : inlined_text (run_of with_calls code).trace ≡ shorter
of_code = refl

length_of_code : inlined_len (run_of with_calls code).trace ≡ 12
length_of_code = refl

inlined_tells : Tells no_lists shorter
    ((HStem, n 1 ∷ n 2 ∷ []) ∷ (HintMask, []) ∷ (HMoveTo, n 1 ∷ []) ∷ (RLineTo, n 2 ∷ n 4 ∷ []) ∷ [], None, Some (n 3))
inlined_tells = meant _ _ refl

of_inlined : inlined_text (run_of no_lists shorter).trace ≡ shorter
of_inlined = refl

-- the last number in each of its forms: of one byte, of two, of three and of five
last_of_each : before_last (0x8c ∷ 0xf7 ∷ 0x00 ∷ 0x1c ∷ 0x00 ∷ 0x20 ∷ 0xff ∷ 0x00 ∷ 0x20 ∷ 0x1c ∷ 0x00 ∷ []) ≡ Some
    (0x8c ∷ 0xf7 ∷ 0x00 ∷ 0x1c ∷ 0x00 ∷ 0x20 ∷ [])
last_of_each = refl

before_word : before_last (0x8c ∷ 0xfb ∷ 0x8c ∷ 0x1c ∷ 0x00 ∷ 0x20 ∷ []) ≡ Some (0x8c ∷ 0xfb ∷ 0x8c ∷ [])
before_word = refl

before_pair : before_last (0x8c ∷ 0xfe ∷ 0x8c ∷ []) ≡ Some (0x8c ∷ [])
before_pair = refl

the_only_one : before_last (0xf6 ∷ []) ≡ Some []
the_only_one = refl

none_at_all : before_last [] ≡ None
none_at_all = refl

-- the number of the call was added before it, by an operator: the top is dropped in its place
by_a_sum : inlined_text (run_of with_calls
    (0x20 ∷ 0x8b ∷ 0x0c ∷ 0x0a ∷ 0x0a ∷ 0x0e ∷ [])).trace ≡ 0x20 ∷ 0x8b ∷ 0x0c ∷ 0x0a ∷ 0x0c ∷ 0x12 ∷ 0x13 ∷ 0x80 ∷ 0x8c ∷ 0x16 ∷ 0x8d ∷ 0x0e ∷ []
by_a_sum = refl

-- a run that is used up behind a return: no operator takes what is left
used_up : inlined_text (run_of with_calls
    (0x8c ∷ 0x8d ∷ 0x01 ∷ 0x20 ∷ 0x0a ∷ [])).trace ≡ 0x8c ∷ 0x8d ∷ 0x01 ∷ 0x13 ∷ 0x80 ∷ 0x8c ∷ 0x16 ∷ []
used_up = refl
