-- Operators that are among others.
use Rattle.std.proofs.Common.{◌≡◌, ◌⊎◌, ◌∙◌, ◌<◌, ℕ, zero, suc, List, [], ◌∷◌, ◌++◌, length, inl, inr, slice_index_or, refl, sym, ap, subst, Bool, true, false, if◌then◌else◌, arith}
use Rattle.std.specs.List.{Contains}
use Rattle.std.specs.Ordering.{eq_by_cmp}
use Rattle.std.proofs.lemmas.Cmp.{eq_by_cmp_equiv}
use Rattle.postscript_base.specs.Compact1.Operators.{operator_cmp}
use Rattle.postscript_base.specs.declared.compact1.operator.Operator.{Operator}
use Rattle.postscript_base.proofs.DictionaryMaps.{operators_total}
use Rattle.postscript_base.specs.declared.compact1.operator.Operator.TheVariants.{ROS}
use Rattle.postscript_write.specs.Parts.{IsAmong, naming, placing}

at : (operators : List Operator) (k : ℕ) (operator : Operator) → k < length operators → slice_index_or operators k operator ≡ operator →
    IsAmong operator operators
at [] k operator less is = absurd (omega (arith, less))
at (other ∷ others) zero operator less is = inl (sym is)
at (other ∷ others) (suc k) operator less is = inr (at others k operator (omega (arith, less)) is)

pub among : (operators : List Operator) (operator : Operator) → Contains operators operator → IsAmong operator operators
among operators operator has = at operators has.0 operator has.1 has.2

-- an operator is none of these
abbrev pub is_none_of : Operator → List Operator → Bool
is_none_of operator [] = true
is_none_of operator (other ∷ others) = if eq_by_cmp operator_cmp operator other then false else is_none_of operator others

pub parted : (x y : Bool) → (if x then false else y) ≡ true → (x ≡ false) × (y ≡ true)
parted true y e = absurd (cc)
parted false y e = (refl, e)

pub none_among : (operator : Operator) (others : List Operator) → is_none_of operator others ≡ true → IsAmong operator others → ⊥
none_among operator [] none is = is
none_among operator (other ∷ others) none (inl same) =
    let differ = (parted (eq_by_cmp operator_cmp operator other) (is_none_of operator others) none).0 in
    let itself = subst (λ o. eq_by_cmp operator_cmp operator o ≡ true) same ((eq_by_cmp_equiv operators_total).refl operator) in
    let never : false ≡ true = sym differ ∙ itself in
    absurd (cc)
none_among operator (other ∷ others) none (inr later) =
    none_among operator others (parted (eq_by_cmp operator_cmp operator other) (is_none_of operator others) none).1 later

-- ROS names no place and no string of the font's dictionary
pub ros-stays : IsAmong ROS (placing ++ naming) → ⊥
ros-stays among = none_among ROS (placing ++ naming) refl among

-- what is true of each operator of a list
abbrev pub every : (Operator → Bool) → List Operator → Bool
every f [] = true
every f (other ∷ others) = if f other then every f others else false

pub each_is : (f : Operator → Bool) (operators : List Operator) → every f operators ≡ true → (operator : Operator) →
    IsAmong operator operators → f operator ≡ true
each_is f [] all operator none = absurd none
each_is f (other ∷ others) all operator is = by (f other) refl all is (λ rest later. each_is f others rest operator later)
  where
    by : (b : Bool) → f other ≡ b → (if b then every f others else false) ≡ true → (operator ≡ other) ⊎ IsAmong operator others →
        (every f others ≡ true → IsAmong operator others → f operator ≡ true) → f operator ≡ true
    by true e all (inl same) rest = ap f same ∙ e
    by true e all (inr later) rest = rest all later
    by false e never is rest = absurd (cc)
