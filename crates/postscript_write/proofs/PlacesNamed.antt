-- What a dictionary with places names.
use Rattle.std.proofs.Common.{◌≡◌, ◌≢◌, refl, sym, ap, subst, ◌∙◌, ℕ, pos, ℤ, ◌<◌, ◌^◌, List, [], ◌∷◌, ◌++◌, map, Option, Some, None, Bool, true, false, if◌then◌else◌, arith}
use Rattle.std.specs.Option.{option_or}
use Rattle.std.specs.Ordering.{eq_by_cmp}
use Rattle.std.specs.Prelude.{flat_map, ◌==◌}
use Rattle.std.proofs.lemmas.List.{map-append}
use Rattle.std.proofs.lemmas.Int.{ints, clamps}
use Rattle.postscript_base.specs.Compact1.Decimal.{Decimal, IsOf32Bits, IsOperandOf, IsSameValue, canonical, to_i32}
use Rattle.postscript_base.specs.Compact1.Defaults.{look}
use Rattle.postscript_base.specs.Compact1.Dictionary.{Dictionary}
use Rattle.postscript_base.specs.Compact1.DictionaryLaw.{last_of}
use Rattle.postscript_base.specs.Compact1.Number.{whole}
use Rattle.postscript_base.specs.Compact1.Operation.{Operation}
use Rattle.postscript_base.specs.Compact1.Operators.{operator_cmp}
use Rattle.postscript_base.specs.declared.compact1.operator.Operator.{Operator}
use Rattle.postscript_base.specs.declared.compact1.operator.Operator.TheVariants.{FDArray, FDSelect, Private}
use Rattle.postscript_base.proofs.Decimals.{IsSameValue-sym, IsSameValue-trans}
use Rattle.postscript_base.proofs.Operands.{finds_operands, none_if_none, whole_if_some, whole_operand}
use Rattle.std.proofs.lemmas.Cmp.{eq_by_cmp_equiv}
use Rattle.postscript_base.proofs.DictionaryMaps.{operators_total}
use Rattle.postscript_write.specs.Pieces.{place_at}
use Rattle.postscript_write.specs.Dictionaries.{IsPlaced, operation_of}
use Rattle.postscript_write.specs.Parts.{naming}
use Rattle.postscript_write.specs.Renumbered.{IsKept, IsRenamed, all_renamed, new_identifier, renamed_if}
use Rattle.postscript_write.specs.Strings.{identifier_in}
use Rattle.postscript_write.specs.declared.dictionaries.Place.{Place}
use Rattle.postscript_write.specs.declared.strings.Strings.{Strings}
use Rattle.postscript_write.proofs.Operators.{is_none_of, parted}

same_units : (v w : ℤ) → IsSameValue v (pos 0) w (pos 0) → v ≡ w
same_units v w h = grind (arith, ints, clamps)

-- a number of 31 bits is read as it is written
pub whole_is : (n : ℕ) → n < 2 ^ 31 → to_i32 (whole (pos n)) ≡ Some (pos n)
whole_is n less = by (to_i32 operand) refl
  where
    operand : Decimal
    operand = canonical (pos n) (pos 0)

    in_32 : IsOf32Bits (pos n)
    in_32 = record { low = omega (arith, ints); high = omega (arith, ints) }

    is : IsOperandOf operand (record { mantissa = pos n; exponent = pos 0 })
    is = (finds_operands.found (record { mantissa = pos n; exponent = pos 0 }) operand).0 (whole_operand (pos n) in_32)

    by : (r : Option ℤ) → to_i32 operand ≡ r → to_i32 operand ≡ Some (pos n)
    by None e = absurd (none_if_none None operand is.in_form (sym e) (pos n) in_32.low in_32.high is.equal)
    by (Some v) e =
        let own = whole_if_some (Some v) operand (sym e) in
        e ∙ ap (λ z. Some z) (same_units v (pos n)
        (IsSameValue-trans v (pos 0) operand.mantissa operand.exponent (pos n) (pos 0)
        (IsSameValue-sym operand.mantissa operand.exponent v (pos 0) own) is.equal))

-- the operands that places have for an operator
abbrev pub named_by : List Place → Operator → Option (List Decimal)
named_by places operator = last_of (map operation_of places) operator

or_assoc : {A : Type 0} (x y z : Option A) → option_or (option_or x y) z ≡ option_or x (option_or y z)
or_assoc None y z = refl
or_assoc (Some a) y z = refl

pub last_append : (xs ys : List Operation) (operator : Operator) → last_of (xs ++ ys) operator ≡ option_or (last_of ys operator)
    (last_of xs operator)
last_append [] ys operator = or_none (last_of ys operator)
  where
    or_none : {A : Type 0} (x : Option A) → x ≡ option_or x None
    or_none None = refl
    or_none (Some a) = refl
last_append (x ∷ xs) ys operator =
    let own : Option (List Decimal) = if eq_by_cmp operator_cmp operator x.0 then Some x.1 else None in
    ap (λ y. option_or y own) (last_append xs ys operator) ∙ or_assoc (last_of ys operator) (last_of xs operator) own

-- places of other operators, behind or before, name nothing for it
pub before : (xs ys : List Place) (operator : Operator) → named_by xs operator ≡ None → named_by (xs ++ ys) operator ≡ named_by ys operator
before xs ys operator none =
    ap (λ os. last_of os operator) (map-append operation_of xs ys) ∙ last_append (map operation_of xs) (map operation_of ys) operator
    ∙ ap (option_or (named_by ys operator)) none ∙ or_nothing (named_by ys operator)
  where
    or_nothing : {A : Type 0} (x : Option A) → option_or x None ≡ x
    or_nothing None = refl
    or_nothing (Some a) = refl

pub behind : (xs ys : List Place) (operator : Operator) → named_by ys operator ≡ None → named_by (xs ++ ys) operator ≡ named_by xs operator
behind xs ys operator none =
    ap (λ os. last_of os operator) (map-append operation_of xs ys) ∙ last_append (map operation_of xs) (map operation_of ys) operator
    ∙ ap (λ x. option_or x (named_by xs operator)) none

-- the new identifiers of strings are named by the operators that name strings
pub one_renamed : (strings : Strings) (operator other : Operator) (old : Option ℕ) → eq_by_cmp operator_cmp operator other ≡ false →
    named_by (renamed_if strings other old) operator ≡ None
one_renamed strings operator other None different = refl
one_renamed strings operator other (Some old) different = by (new_identifier strings old == old)
  where
    by : (b : Bool) → named_by (if b then [] else place_at other (new_identifier strings old) ∷ []) operator ≡ None
    by true = refl
    by false = ap (λ b. if b then Some (operation_of (place_at other (new_identifier strings old))).1 else None) different

none_renamed : (strings : Strings) (names : Dictionary) (operator : Operator) (others : List Operator) → is_none_of operator others ≡ true →
    named_by (flat_map (λ other. renamed_if strings other (identifier_in names other)) others) operator ≡ None
none_renamed strings names operator [] none = refl
none_renamed strings names operator (other ∷ others) none =
    let differ = parted (eq_by_cmp operator_cmp operator other) (is_none_of operator others) none in
    before (renamed_if strings other (identifier_in names other))
    (flat_map (λ other. renamed_if strings other (identifier_in names other)) others) operator
    (one_renamed strings operator other (identifier_in names other) differ.0)
    ∙ none_renamed strings names operator others differ.1

pub not_renamed : (strings : Strings) (names : Dictionary) (operator : Operator) → is_none_of operator naming ≡ true →
    named_by (all_renamed strings names) operator ≡ None
not_renamed strings names operator none = none_renamed strings names operator naming none

-- a dictionary with places says of an operator that none of them names what it said
pub stays : (old new : Dictionary) (places : List Place) (operator : Operator) → IsPlaced old places new →
    named_by places operator ≡ None → look new operator ≡ look old operator
stays old new places operator placed none = placed operator ∙ ap (λ x. option_or x (look old operator)) none

pub not_same : (operator other : Operator) → eq_by_cmp operator_cmp operator other ≡ false → operator ≢ other
not_same operator other different same =
    let itself : eq_by_cmp operator_cmp operator other ≡ true = subst (λ o. eq_by_cmp operator_cmp operator o ≡ true) same
    ((eq_by_cmp_equiv operators_total).refl operator) in
    let never : false ≡ true = sym different ∙ itself in
    absurd (cc)

-- an operator that is none of these stays
pub kept_of : (map : Dictionary) (operator : Operator) → eq_by_cmp operator_cmp operator Private ≡ false →
    eq_by_cmp operator_cmp operator FDArray ≡ false → eq_by_cmp operator_cmp operator FDSelect ≡ false → IsKept map operator
kept_of map operator private array select =
    record { private = λ _. not_same operator Private private; select = λ _. (not_same operator FDArray array, not_same operator FDSelect select) }

-- the same of the dictionary of a font under its new strings
pub look_renamed : (old new : Dictionary) (places : List Place) (operator : Operator) → IsRenamed old places new →
    IsKept old operator → look new operator ≡ option_or (named_by places operator) (look old operator)
look_renamed old new places operator is apart =
    is.placed operator ∙ ap (option_or (named_by places operator)) (is.unnamed.same operator apart)

pub stays_renamed : (old new : Dictionary) (places : List Place) (operator : Operator) → IsRenamed old places new →
    IsKept old operator → named_by places operator ≡ None → look new operator ≡ look old operator
stays_renamed old new places operator is apart none = stays is.kept new places operator is.placed none ∙ is.unnamed.same operator apart
