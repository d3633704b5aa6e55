-- Why a font has no char set, or no encoding.
use Rattle.std.proofs.Common.{◌≡◌, ◌≢◌, ap, inl, inr, subst, ℕ, ℤ, pos, negsuc, List, [], ◌∷◌, None, Some, ◌≤◌, arith}
use Rattle.std.specs.Prelude.{Result, Ok, Err, IfErr}
use Rattle.postscript_base.specs.Compact1.Dictionary.{Dictionary}
use Rattle.postscript_base.specs.Error.{code, IsOneOf}
use Rattle.postscript_base.specs.Refusal.{Refusal, Numbered, OfPart, OfMalformed, OfMissing, out_of_range_offset, unexpected_eof}
use Rattle.postscript_base.specs.RefusalOf.{number_of, refusal_of}
use Rattle.postscript_base.specs.Tape.Outcome.{Got, RefusedAs}
use Rattle.postscript_base.specs.declared.compact1.operator.Operator.{Operator}
use Rattle.postscript_base.specs.declared.compact1.operator.Operator.TheVariants as operators
use Rattle.postscript_base.specs.declared.error.Error.{Error}
use Rattle.postscript_base.specs.declared.error.Error.TheVariants.{Memory}
use Rattle.postscript_compact1.proofs.FontCauses.{no_first}
use Rattle.postscript_compact1.proofs.OperandLaws.{first_has}
use Rattle.postscript_compact1.specs.FontSet.Operands.{first}
use Rattle.postscript_view.proofs.SameSets.{offset_is}
use Rattle.postscript_view.specs.Select.{offset_of}
use Rattle.postscript_view.specs.Untold.{NamesNoOffset, OfOperand, OfNegative, NoIdentifiers, NoCharSet, OfIdentifiers, NoOwnEncoding, NoEncoding, OfOwn}

-- ---- what an error is by its number
eof_by : (r : Refusal) → number_of r ≡ 1 → r ≡ unexpected_eof
eof_by (Numbered number) is = ap Numbered is
eof_by (OfPart part) is = absurd (omega (arith, is))
eof_by (OfMalformed operator) is = absurd (omega (arith, is))
eof_by (OfMissing operator) is = absurd (omega (arith, is))

pub is_eof : (e : Error) → IsOneOf (1 ∷ []) (code e) → refusal_of e ≡ unexpected_eof
is_eof e (inl is) = eof_by (refusal_of e) is
is_eof e (inr never) = absurd never

no_memory : (e : Error) → IsOneOf (13 ∷ 14 ∷ []) (code e) → e ≢ Memory
no_memory e listed is = elim (subst (λ e. IsOneOf (13 ∷ 14 ∷ []) (code e)) is listed) [
  | inl one ↦ absurd (omega (arith, one))
  | inr more ↦ elim more [
    | inl other ↦ absurd (omega (arith, other))
    | inr none ↦ absurd none
  ]
]

-- ---- an offset
pub no_operand : (e : Error) (map : Dictionary) (op : Operator) →
    ((bytes : List ℕ) (place : ℕ) → e ≢ Memory → RefusedAs e (first map op bytes place)) → IsOneOf (13 ∷ 14 ∷ []) (code e) →
    NamesNoOffset e map op
no_operand e map op exact listed = OfOperand (no_first e map op [] 0 (exact [] 0 (no_memory e listed)))

pub negative : (e : Error) (map : Dictionary) (op : Operator) (z : ℤ) → first map op [] 0 ≡ Got z 0 → offset_of map op ≡ None →
    refusal_of e ≡ out_of_range_offset → NamesNoOffset e map op
negative e map op (pos n) is none refused = let has = offset_is map op n (first_has map op (pos n) [] 0 0 is).0 in absurd (cc)
negative e map op (negsuc n) is none refused = OfNegative n (first_has map op (negsuc n) [] 0 0 is).0 refused

-- ---- what stands at it
pub no_set : {A : Type 0} (r : Result A Error) (bytes : List ℕ) (map : Dictionary) (glyphs offset : ℕ) →
    offset_of map operators.CharSet ≡ Some offset
    → IfErr r (λ e. (3 ≤ offset) × NoIdentifiers e bytes offset glyphs) → IfErr r (λ e. NoCharSet e bytes map glyphs)
no_set (Ok x) bytes map glyphs offset is h = tt
no_set (Err e) bytes map glyphs offset is h = OfIdentifiers offset is h.0 h.1

pub no_encoding : {A : Type 0} (r : Result A Error) (bytes : List ℕ) (map : Dictionary) (offset : ℕ) →
    offset_of map operators.Encoding ≡ Some offset
    → IfErr r (λ e. (2 ≤ offset) × NoOwnEncoding e bytes offset) → IfErr r (λ e. NoEncoding e bytes map)
no_encoding (Ok x) bytes map offset is h = tt
no_encoding (Err e) bytes map offset is h = OfOwn offset is h.0 h.1

pub at_least : {A : Type 0} (r : Result A Error) (P : Error → Type 0) (least offset : ℕ) → least ≤ offset → IfErr r P →
    IfErr r (λ e. (least ≤ offset) × P e)
at_least (Ok x) P least offset far h = tt
at_least (Err e) P least offset far h = (far, h)
