-- FontMatrix as it is read.
use Rattle.std.proofs.Common.{◌≡◌, sym, ap, subst, ◌∙◌, ℕ, zero, suc, ◌<◌, List, [], ◌∷◌, Option, Some, None, arith}
use Rattle.std.specs.List.{Contains}
use Rattle.std.specs.Prelude.{slice_index_or}
use Rattle.postscript_base.specs.Compact1.Decimal.{Decimal}
use Rattle.postscript_cff2.specs.Dictionary.{Entry, last_entry}
use Rattle.postscript_base.specs.declared.compact1.operator.Operator.{Operator}
use Rattle.postscript_instance.specs.Whole as whole
use Rattle.postscript_instance.specs.Whole.{AreShortened, IsMatrix, IsMatrixOf, matrix_text, operands_in}

-- the only operator of a list
pub is-one : (only operator : Operator) → Contains (only ∷ []) operator → operator ≡ only
is-one only operator (k, less, is) = by k less is
  where
    by : (k : ℕ) → k < 1 → slice_index_or (only ∷ []) k operator ≡ operator → operator ≡ only
    by zero less is = sym is
    by (suc k) less is = absurd (omega (arith, less))

pub one-of : (only operator : Operator) → operator ≡ only → Contains (only ∷ []) operator
one-of only operator is = (0, omega arith, sym is)

-- FontMatrix as it is, with fewer digits, and none
abbrev Reads : (operands text : List ℕ) → Type 0
Reads operands text = (numbers : List Decimal) × IsMatrix operands numbers × (text ≡ matrix_text operands)

abbrev ReadsNot : (operands : List ℕ) → Type 0
ReadsNot operands = (numbers : List Decimal) → IsMatrix operands numbers → ⊥

abbrev Has : (dictionary text : List ℕ) → Type 0
Has dictionary text = (matrix : Option (List Decimal)) × IsMatrixOf dictionary text matrix

pub as-it-is : (dictionary operands text : List ℕ) (entry : Entry) → last_entry dictionary 0x0c07 ≡ Some entry →
    operands ≡ operands_in dictionary entry → Reads operands text → Has dictionary text
as-it-is dictionary operands text entry is same (numbers, reads, text_is) = (
  Some numbers,
  subst (λ t. IsMatrixOf dictionary t (Some numbers)) (sym (text_is ∙ ap matrix_text same))
      (whole.as_it_is entry numbers is (subst (λ t. IsMatrix t numbers) same reads)),
)

pub with-fewer : (dictionary operands short text : List ℕ) (entry : Entry) → last_entry dictionary 0x0c07 ≡ Some entry →
    operands ≡ operands_in dictionary entry → ReadsNot operands → AreShortened operands 0 short → Reads short text → Has dictionary text
with-fewer dictionary operands short text entry is same never are (numbers, reads, text_is) = (
  Some numbers,
  subst (λ t. IsMatrixOf dictionary t (Some numbers)) (sym text_is)
      (whole.shortened entry short numbers is (subst ReadsNot same never) (subst (λ t. AreShortened t 0 short) same are) reads),
)

pub with-none : (dictionary operands short text : List ℕ) (entry : Entry) → last_entry dictionary 0x0c07 ≡ Some entry →
    operands ≡ operands_in dictionary entry → ReadsNot operands → AreShortened operands 0 short → ReadsNot short → text ≡ [] →
    Has dictionary text
with-none dictionary operands short text entry is same never are none empty = (
  None,
  subst (λ t. IsMatrixOf dictionary t None) (sym empty)
      (whole.unreadable entry short is (subst ReadsNot same never) (subst (λ t. AreShortened t 0 short) same are) none),
)

pub without : (dictionary text : List ℕ) → last_entry dictionary 0x0c07 ≡ None → text ≡ [] → Has dictionary text
without dictionary text is empty = (None, subst (λ t. IsMatrixOf dictionary t None) (sym empty) (whole.without is))
