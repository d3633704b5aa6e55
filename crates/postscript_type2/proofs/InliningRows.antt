-- Flat code of small programs with calls, computed from the definitions.
use Rattle.std.proofs.Common.{◌≡◌, refl, ℕ, List, [], ◌∷◌, Some, None, ℤ, pos}
use Rattle.postscript_base.specs.Refusal.{missing_subroutine}
use Rattle.postscript_type2.specs.declared.operation.Operator.TheVariants.{HStem, HintMask, HMoveTo, RLineTo}
use Rattle.postscript_type2.specs.Program.Evaluation.{run_of}
use Rattle.postscript_type2.specs.Program.Flat.{flat_text, flat_len}
use Rattle.postscript_type2.specs.Number.{whole}
use Rattle.postscript_type2.specs.Program.Routines.{Lists}
use Rattle.postscript_type2.proofs.Meant.{Tells, meant}

-- The local subroutine has a mask, moves by a number of its own, leaves an operand and returns; the global one ends the glyph.
abbrev with_calls : Lists
with_calls = record { global = (0x0e ∷ []) ∷ []; local = (0x13 ∷ 0x80 ∷ 0x8c ∷ 0x16 ∷ 0x8d ∷ 0x0b ∷ []) ∷ [] }

abbrev no_lists : Lists
no_lists = record { global = []; local = [] }

abbrev n : ℕ → ℤ
n k = whole (pos k)

-- A stem with a width, a call of the local subroutine, a line by the operand that it left and one more, a call of the global
-- subroutine, and a byte behind it. The number of either is -107.
abbrev code : List ℕ
code = 0x8e ∷ 0x8c ∷ 0x8d ∷ 0x01 ∷ 0x20 ∷ 0x0a ∷ 0x8f ∷ 0x05 ∷ 0x20 ∷ 0x1d ∷ 0x00 ∷ []

abbrev flat : List ℕ
flat =
    0x8e ∷ 0x8c ∷ 0x8d ∷ 0x01 ∷ 0x20 ∷ 0x0c ∷ 0x12 ∷ 0x13 ∷ 0x80 ∷ 0x8c ∷ 0x16 ∷ 0x8d ∷ 0x8b ∷ 0x0c ∷ 0x12 ∷ 0x8f ∷ 0x05 ∷
    0x20 ∷ 0x0c ∷ 0x12 ∷ 0x0e ∷ []

flat_of_code : flat_text (run_of with_calls code).trace ≡ flat
flat_of_code = refl

length_of_code : flat_len (run_of with_calls code).trace ≡ 21
length_of_code = refl

code_tells : Tells with_calls code
    ((HStem, n 1 ∷ n 2 ∷ []) ∷ (HintMask, []) ∷ (HMoveTo, n 1 ∷ []) ∷ (RLineTo, n 2 ∷ n 4 ∷ []) ∷ [], None, Some (n 3))
code_tells = meant _ _ refl

flat_tells : Tells no_lists flat
    ((HStem, n 1 ∷ n 2 ∷ []) ∷ (HintMask, []) ∷ (HMoveTo, n 1 ∷ []) ∷ (RLineTo, n 2 ∷ n 4 ∷ []) ∷ [], None, Some (n 3))
flat_tells = meant _ _ refl

flat_of_flat : flat_text (run_of no_lists flat).trace ≡ flat
flat_of_flat = refl

-- the code itself is refused without its lists
code_without_lists : Tells no_lists code ((HStem, n 1 ∷ n 2 ∷ []) ∷ [], Some missing_subroutine, Some (n 3))
code_without_lists = meant _ _ refl
