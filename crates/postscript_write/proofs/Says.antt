-- What a dictionary with places says else.
use Rattle.std.proofs.Common.{◌≡◌, ◌⊎◌, refl, sym, ap, subst, ◌∙◌, inl, inr, ℕ, suc, List, [], ◌∷◌, ◌++◌, get_or, Option, Some, None, Bool, true, false, if◌then◌else◌, arith, rules}
use Rattle.std.specs.List.{Contains}
use Rattle.std.specs.Option.{option_or}
use Rattle.std.specs.Ordering.{eq_by_cmp}
use Rattle.std.specs.Prelude.{All, flat_map, ◌==◌}
use Rattle.std.proofs.lemmas.List.{get_or_default}
use Rattle.std.proofs.lemmas.List.Elements.{All-append, All-cons, All-nil}
use Rattle.postscript_base.specs.Compact1.Decimal.{Decimal}
use Rattle.postscript_base.specs.Compact1.Defaults.{default_of, look}
use Rattle.postscript_base.specs.Compact1.Dictionary.{Dictionary}
use Rattle.postscript_base.specs.Compact1.Operators.{operator_cmp}
use Rattle.postscript_base.specs.declared.compact1.operator.Operator.{Operator}
use Rattle.postscript_base.specs.declared.compact1.operator.Operator.TheVariants.{Encoding, FDArray, FDSelect, Private, Subrs}
use Rattle.postscript_write.specs.Pieces.{Piece, named_places, place_at, places, standard_place}
use Rattle.postscript_write.specs.Dictionaries.{IsPlaced, operation_of}
use Rattle.postscript_write.specs.LeftOut.{IsLess}
use Rattle.postscript_write.specs.Parts.{IsAmong, SameBut, naming, placing}
use Rattle.postscript_write.specs.Privates.{place_of_private}
use Rattle.postscript_write.specs.Renumbered.{IsRenamed, all_renamed, new_identifier, renamed_if}
use Rattle.postscript_write.specs.Strings.{identifier_in}
use Rattle.postscript_write.specs.declared.dictionaries.Place.{Place}
use Rattle.postscript_write.specs.declared.layout.Private.{Private as OwnPrivate}
use Rattle.postscript_write.specs.declared.strings.Strings.{Strings}
use Rattle.postscript_write.proofs.Operators.{among}
use Rattle.postscript_write.proofs.Pieces.{AreAmong, AreOf, all_among}
use Rattle.postscript_write.proofs.Placing.{same_operator}
use Rattle.postscript_write.proofs.PlacesNamed.{named_by, kept_of, stays}

some_among : (operators : List Operator) (places : List Place) (operator : Operator) (operands : List Decimal) → AreOf operators places →
    named_by places operator ≡ Some operands → IsAmong operator operators
some_among operators [] operator operands of is = let never : None ≡ Some operands = is in absurd (cc)
some_among operators (place ∷ places) operator operands of is =
    by (some_among operators places operator operands rest) (eq_by_cmp operator_cmp operator place.operator) refl
  where
    rest : AreOf operators places
    rest = λ k d less. of (suc k) d (omega (arith, less))

    or_none : {A : Type 0} (x : Option A) → option_or x None ≡ x
    or_none None = refl
    or_none (Some a) = refl

    by : (named_by places operator ≡ Some operands → IsAmong operator operators) → (b : Bool) →
        eq_by_cmp operator_cmp operator place.operator ≡ b → IsAmong operator operators
    by later true e = subst (λ o. IsAmong o operators) (sym (same_operator operator place.operator e)) (of 0 place (omega arith))
    by later false e =
        let none = ap (λ b. option_or (named_by places operator) (if b then Some (operation_of place).1 else None)) e
        ∙ or_none (named_by places operator) in
        later (sym none ∙ is)

pub says_else : (operators : List Operator) (old new : Dictionary) (places : List Place) → IsPlaced old places new →
    AreOf operators places → SameBut operators old new
says_else operators old new places placed of operator = by (named_by places operator) refl
  where
    by : (x : Option (List Decimal)) → named_by places operator ≡ x → (look new operator ≡ look old operator) ⊎ IsAmong operator operators
    by None e = inl (stays old new places operator placed e)
    by (Some operands) e = inr (some_among operators places operator operands of e)

standard_of : (standard : Bool) → AreOf placing (standard_place standard)
standard_of true =
    All-cons (λ place. IsAmong place.operator placing) (place_at Encoding 0) [] (search rules)
    (All-nil (λ place. IsAmong place.operator placing))
standard_of false = All-nil (λ place. IsAmong place.operator placing)

private_of : (operators : List Operator) (private : Option OwnPrivate) (n : ℕ) → IsAmong Private operators →
    AreOf operators (place_of_private private n)
private_of operators None n is = All-nil (λ place. IsAmong place.operator operators)
private_of operators (Some private) n is =
    All-cons (λ place. IsAmong place.operator operators) _ [] is (All-nil (λ place. IsAmong place.operator operators))

pub places_are : (standard : Bool) (start : ℕ) (ps : List Piece) → AreAmong placing ps → AreOf placing (named_places standard start ps)
places_are standard start ps are =
    All-append (λ place. IsAmong place.operator placing) (standard_place standard) (places start ps) (standard_of standard)
    (all_among placing ps start are)

-- the new identifiers of strings are named by the operators that name strings
one_of : (strings : Strings) (operator : Operator) (old : Option ℕ) → IsAmong operator naming →
    AreOf naming (renamed_if strings operator old)
one_of strings operator None is = All-nil (λ place. IsAmong place.operator naming)
one_of strings operator (Some old) is = by (new_identifier strings old == old)
  where
    by : (b : Bool) → AreOf naming (if b then [] else place_at operator (new_identifier strings old) ∷ [])
    by true = All-nil (λ place. IsAmong place.operator naming)
    by false =
        All-cons (λ place. IsAmong place.operator naming) (place_at operator (new_identifier strings old)) [] is
        (All-nil (λ place. IsAmong place.operator naming))

all_of : (strings : Strings) (names : Dictionary) (operators : List Operator) → All (λ operator. IsAmong operator naming) operators →
    AreOf naming (flat_map (λ operator. renamed_if strings operator (identifier_in names operator)) operators)
all_of strings names [] of = All-nil (λ place. IsAmong place.operator naming)
all_of strings names (operator ∷ operators) of =
    All-append (λ place. IsAmong place.operator naming) (renamed_if strings operator (identifier_in names operator)) _
    (one_of strings operator (identifier_in names operator) (of 0 operator (omega arith)))
    (all_of strings names operators (λ k d less. of (suc k) d (omega (arith, less))))

renamed_are : (strings : Strings) (names : Dictionary) → AreOf naming (all_renamed strings names)
renamed_are strings names =
    all_of strings names naming (λ k d less. among naming (get_or naming k d) (k, less, get_or_default naming k (get_or naming k d) d less))

among_left : (operator : Operator) (xs ys : List Operator) → IsAmong operator xs → IsAmong operator (xs ++ ys)
among_left operator [] ys is = absurd is
among_left operator (x ∷ xs) ys (inl e) = inl e
among_left operator (x ∷ xs) ys (inr later) = inr (among_left operator xs ys later)

among_right : (operator : Operator) (xs ys : List Operator) → IsAmong operator ys → IsAmong operator (xs ++ ys)
among_right operator [] ys is = is
among_right operator (x ∷ xs) ys is = inr (among_right operator xs ys is)

-- the dictionary of a font that is written says else what that of the font says
pub font_says : (strings : Strings) (old named new : Dictionary) (places : List Place) → AreOf placing places →
    IsRenamed old (all_renamed strings old) named → IsPlaced named places new → SameBut (placing ++ naming) old new
font_says strings old named new places are renamed placed operator =
    elim (says_else placing named new places placed are operator) [
      | inl same ↦ elim (says_else naming renamed.kept named (all_renamed strings old) renamed.placed (renamed_are strings old) operator) [
        | inl also ↦ kept (eq_by_cmp operator_cmp operator Private) (eq_by_cmp operator_cmp operator FDArray)
            (eq_by_cmp operator_cmp operator FDSelect) refl refl refl (same ∙ also)
        | inr is ↦ inr (among_right operator placing naming is)
      ]
      | inr is ↦ inr (among_left operator placing naming is)
    ]
  where
    kept : (b d e : Bool) → eq_by_cmp operator_cmp operator Private ≡ b → eq_by_cmp operator_cmp operator FDArray ≡ d →
        eq_by_cmp operator_cmp operator FDSelect ≡ e → look new operator ≡ look renamed.kept operator →
        (look new operator ≡ look old operator) ⊎ IsAmong operator (placing ++ naming)
    kept true d e is array select same =
        inr (among_left operator placing naming (inr (inr (inr (inl (same_operator operator Private is))))))
    kept false true e is array select same =
        inr (among_left operator placing naming (inr (inr (inr (inr (inl (same_operator operator FDArray array)))))))
    kept false false true is array select same =
        inr (among_left operator placing naming (inr (inr (inr (inr (inr (inl (same_operator operator FDSelect select))))))))
    kept false false false is array select same = inl (same ∙ renamed.unnamed.same operator (kept_of old operator is array select))

-- and so does a font dictionary
pub own_says : (old new : Dictionary) (private : Option OwnPrivate) (n : ℕ) → IsPlaced old (place_of_private private n) new →
    SameBut (Private ∷ []) old new
own_says old new private n placed =
    says_else (Private ∷ []) old new (place_of_private private n) placed (private_of (Private ∷ []) private n (inl refl))

-- and a private dictionary
pub less_says : (old new : Dictionary) → IsLess (Subrs ∷ []) old new → SameBut (Subrs ∷ []) old new
less_says old new less operator = by (eq_by_cmp operator_cmp operator Subrs) refl
  where
    by : (b : Bool) → eq_by_cmp operator_cmp operator Subrs ≡ b → (look new operator ≡ look old operator) ⊎ IsAmong operator (Subrs ∷ [])
    by true e = inr (inl (same_operator operator Subrs e))
    by false e = inl (ap (λ x. option_or x (default_of operator)) (less.stays operator other))
      where
        other : Contains (Subrs ∷ []) operator → ⊥
        other has = apart (among (Subrs ∷ []) operator has)
          where
            apart : IsAmong operator (Subrs ∷ []) → ⊥
            apart (inl same) =
                let both : eq_by_cmp operator_cmp operator Subrs ≡ true = subst (λ o. eq_by_cmp operator_cmp o Subrs ≡ true)
                (sym same) refl in let never : false ≡ true = sym e ∙ both in absurd (cc)
            apart (inr never) = never
