-- Operators of the dictionary that is written name strings by their new identifiers.
use Rattle.std.proofs.Common.{◌≡◌, ◌⊎◌, refl, sym, ap, ◌∙◌, inl, inr, ℕ, pos, ◌<◌, ◌==◌, nat_lt, List, [], ◌∷◌, map, Option, Some, None, Bool, true, false, if◌then◌else◌, arith}
use Rattle.std.specs.Option.{option_and_then, option_or}
use Rattle.std.specs.Ordering.{eq_by_cmp}
use Rattle.std.specs.Prelude.{flat_map, option_map}
use Rattle.std.proofs.lemmas.Bool.Decides.{nat_tests}
use Rattle.std.proofs.lemmas.Bool.{eqb-true}
use Rattle.std.proofs.lemmas.Cmp.{eq_by_cmp_equiv}
use Rattle.postscript_base.specs.Compact1.Decimal.{Decimal, to_i32}
use Rattle.postscript_base.specs.Compact1.Defaults.{first_of, look}
use Rattle.postscript_base.specs.Compact1.Dictionary.{Dictionary}
use Rattle.postscript_base.specs.Compact1.DictionaryLaw.{last_of}
use Rattle.postscript_base.specs.Compact1.Number.{whole}
use Rattle.postscript_base.specs.Compact1.Operators.{operator_cmp}
use Rattle.postscript_base.specs.declared.compact1.operator.Operator.{Operator}
use Rattle.postscript_base.specs.declared.compact1.operator.Operator.TheVariants.{FDArray, FDSelect, Private}
use Rattle.postscript_base.proofs.DictionaryMaps.{operators_total}
use Rattle.postscript_write.specs.Pieces.{place_at}
use Rattle.postscript_write.specs.Dictionaries.{IsPlaced, operation_of}
use Rattle.postscript_write.specs.Parts.{IsAmong, naming}
use Rattle.postscript_write.specs.Renumbered.{IsKept, IsRenamed, all_renamed, new_identifier, renamed_if}
use Rattle.postscript_write.specs.Strings.{identifier_from, identifier_in}
use Rattle.postscript_write.specs.declared.dictionaries.Place.{Place}
use Rattle.postscript_write.specs.declared.strings.Strings.{Strings}
use Rattle.std.proofs.lemmas.List.{map-append}
use Rattle.postscript_write.proofs.Operators.{each_is}
use Rattle.postscript_write.proofs.Placing.{same_operator}
use Rattle.postscript_write.proofs.PlacesNamed.{kept_of, last_append, look_renamed, named_by, one_renamed, stays, whole_is}

or_same : {A : Type 0} (x : Option A) → option_or x x ≡ x
or_same None = refl
or_same (Some a) = refl

or_none : {A : Type 0} (x : Option A) → option_or x None ≡ x
or_none None = refl
or_none (Some a) = refl

-- what the new identifiers name for one of these operators is what its own does
module _ (strings : Strings) (old : Dictionary) (operator : Operator) where
  abbrev own : Operator → List Place
  own other = renamed_if strings other (identifier_in old other)

  abbrev named : Option (List Decimal)
  named = named_by (own operator) operator

  joined : (others : List Operator) (other : Operator) (x : Option (List Decimal)) → named_by (flat_map own others) operator ≡ x →
      named_by (flat_map own (other ∷ others)) operator ≡ option_or x (named_by (own other) operator)
  joined others other x is =
      ap (λ os. last_of os operator) (map-append operation_of (own other) (flat_map own others))
      ∙ last_append (map operation_of (own other)) (map operation_of (flat_map own others)) operator
      ∙ ap (λ y. option_or y (named_by (own other) operator)) is

  this : (other : Operator) → eq_by_cmp operator_cmp operator other ≡ true → named_by (own other) operator ≡ named
  this other e = ap (λ o. named_by (own o) operator) (sym (same_operator operator other e))

  none : (other : Operator) → eq_by_cmp operator_cmp operator other ≡ false → named_by (own other) operator ≡ None
  none other e = one_renamed strings operator other (identifier_in old other) e

  either : (others : List Operator) → (named_by (flat_map own others) operator ≡ None) ⊎ (named_by (flat_map own others) operator ≡ named)
  either [] = inl refl
  either (other ∷ others) = by (either others) (eq_by_cmp operator_cmp operator other) refl
    where
      by : (named_by (flat_map own others) operator ≡ None) ⊎ (named_by (flat_map own others) operator ≡ named) → (b : Bool) →
          eq_by_cmp operator_cmp operator other ≡ b →
          (named_by (flat_map own (other ∷ others)) operator ≡ None) ⊎ (named_by (flat_map own (other ∷ others)) operator ≡ named)
      by (inl rest) true e = inr (joined others other None rest ∙ this other e)
      by (inr rest) true e = inr (joined others other named rest ∙ ap (option_or named) (this other e) ∙ or_same named)
      by (inl rest) false e = inl (joined others other None rest ∙ none other e)
      by (inr rest) false e = inr (joined others other named rest ∙ ap (option_or named) (none other e) ∙ or_none named)

  of_all : (others : List Operator) → IsAmong operator others → named_by (flat_map own others) operator ≡ named
  of_all [] is = absurd is
  of_all (other ∷ others) (inl same) = by (either others)
    where
      first : named_by (own other) operator ≡ named
      first = ap (λ o. named_by (own o) operator) (sym same)

      by : (named_by (flat_map own others) operator ≡ None) ⊎ (named_by (flat_map own others) operator ≡ named) →
          named_by (flat_map own (other ∷ others)) operator ≡ named
      by (inl rest) = joined others other None rest ∙ first
      by (inr rest) = joined others other named rest ∙ ap (option_or named) first ∙ or_same named
  of_all (other ∷ others) (inr later) = by (of_all others later) (eq_by_cmp operator_cmp operator other) refl
    where
      by : named_by (flat_map own others) operator ≡ named → (b : Bool) → eq_by_cmp operator_cmp operator other ≡ b →
          named_by (flat_map own (other ∷ others)) operator ≡ named
      by rest true e = joined others other named rest ∙ ap (option_or named) (this other e) ∙ or_same named
      by rest false e = joined others other named rest ∙ ap (option_or named) (none other e) ∙ or_none named

-- places are named by no operator that names a string
abbrev pub AreApart : List Place → Type 0
AreApart places = (operator : Operator) → IsAmong operator naming → named_by places operator ≡ None

is_false : (b : Bool) → (if b then false else true) ≡ true → b ≡ false
is_false true e = absurd (cc)
is_false false e = refl

-- an operator that names a string stays
apart_kept : (map : Dictionary) (operator : Operator) → IsAmong operator naming → IsKept map operator
apart_kept map operator is =
    kept_of map operator
    (is_false (eq_by_cmp operator_cmp operator Private)
    (each_is (λ o. if eq_by_cmp operator_cmp o Private then false else true) naming refl operator is))
    (is_false (eq_by_cmp operator_cmp operator FDArray)
    (each_is (λ o. if eq_by_cmp operator_cmp o FDArray then false else true) naming refl operator is))
    (is_false (eq_by_cmp operator_cmp operator FDSelect)
    (each_is (λ o. if eq_by_cmp operator_cmp o FDSelect then false else true) naming refl operator is))

same_number : (m n : ℕ) → m ≡ n → (m == n) ≡ true
same_number m n is = grind (arith, nat_tests)

-- a place is named by its own operator
at_own : (operator : Operator) (n : ℕ) → named_by (place_at operator n ∷ []) operator ≡ Some (whole (pos n) ∷ [])
at_own operator n = ap (λ b. if b then Some (whole (pos n) ∷ []) else None) ((eq_by_cmp_equiv operators_total).refl operator)

-- what names a number of two bytes is read as this number
number_named : (n : ℕ) → n < 65536 → identifier_from (option_and_then to_i32 (first_of (Some (whole (pos n) ∷ [])))) ≡ Some n
number_named n low = ap identifier_from (whole_is n (omega (arith, low))) ∙ ap (λ b. if b then Some n else None) (below n low)
  where
    below : (n : ℕ) → n < 65536 → nat_lt n 65536 ≡ true
    below n less = grind (arith, nat_tests)

-- Each operator that names a string names it by the new identifier.
module _ (strings : Strings) (old named new : Dictionary) (places : List Place) (apart : AreApart places)
    (renamed : IsRenamed old (all_renamed strings old) named) (placed : IsPlaced named places new) where
  says : (operator : Operator) → IsAmong operator naming →
      look new operator ≡ option_or (named_by (renamed_if strings operator (identifier_in old operator)) operator) (look old operator)
  says operator is =
      stays named new places operator placed (apart operator is)
      ∙ look_renamed old named (all_renamed strings old) operator renamed (apart_kept old operator is)
      ∙ ap (λ x. option_or x (look old operator)) (of_all strings old operator naming is)

  -- where the new identifier is the old one, the operands stay
  pub same_operands : (operator : Operator) → IsAmong operator naming →
      ((identifier : ℕ) → identifier_in old operator ≡ Some identifier → new_identifier strings identifier ≡ identifier) →
      look new operator ≡ look old operator
  same_operands operator is same = says operator is ∙ ap (λ x. option_or x (look old operator)) (by (identifier_in old operator) refl)
    where
      by : (x : Option ℕ) → identifier_in old operator ≡ x → named_by (renamed_if strings operator x) operator ≡ None
      by None e = refl
      by (Some identifier) e =
          ap (λ (b : Bool). named_by (if b then [] else place_at operator (new_identifier strings identifier) ∷ []) operator)
          (same_number (new_identifier strings identifier) identifier (same identifier e))

  pub identifier_is : (operator : Operator) → IsAmong operator naming →
      ((identifier : ℕ) → identifier_in old operator ≡ Some identifier → new_identifier strings identifier < 65536) →
      identifier_in new operator ≡ option_map (new_identifier strings) (identifier_in old operator)
  unfolding identifier_in
  identifier_is operator is low = by (identifier_in old operator) refl
    where
      read : Option (List Decimal) → Option ℕ
      read operands = identifier_from (option_and_then to_i32 (first_of operands))

      found : (places : List Place) → Option ℕ
      found places = read (option_or (named_by places operator) (look old operator))

      by : (x : Option ℕ) → identifier_in old operator ≡ x → read (look new operator) ≡ option_map (new_identifier strings) x
      by None e = ap read (says operator is) ∙ ap (λ x. found (renamed_if strings operator x)) e ∙ e
      by (Some identifier) e =
          ap read (says operator is) ∙ ap (λ x. found (renamed_if strings operator x)) e ∙ either (n == identifier) refl
        where
          n : ℕ
          n = new_identifier strings identifier

          either : (b : Bool) → (n == identifier) ≡ b → found (if b then [] else place_at operator n ∷ []) ≡ Some n
          either true t = e ∙ ap (λ m. Some m) (sym (eqb-true n identifier t))
          either false t =
              ap (λ operands. read (option_or operands (look old operator))) (at_own operator n) ∙ number_named n (low identifier e)
