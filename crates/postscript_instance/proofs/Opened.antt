-- The tables that are written are opened as the fonts that they were to be.
use Rattle.std.proofs.Common.{◌≡◌, refl, sym, ap, subst, ◌∙◌, ℕ, suc, pos, ◌+◌, ◌^◌, ◌<◌, false, List, [], ◌∷◌, ◌++◌, length, length-append, if◌then◌else◌, Option, Some, None, arith}
use Rattle.std.specs.List.{concat}
use Rattle.std.specs.Option.{option_or}
use Rattle.std.specs.Ordering.{eq_by_cmp}
use Rattle.std.specs.Prelude.{All}
use Rattle.std.proofs.lemmas.List.Elements.{All-contains, All-from_recursion, All-head, All-tail}
use Rattle.postscript_base.specs.Compact1.Decimal.{Decimal}
use Rattle.postscript_base.specs.Compact1.Defaults.{default_of, first_of, first_two_of, look}
use Rattle.postscript_base.specs.Compact1.Dictionary.{Dictionary, dictionary_of}
use Rattle.postscript_base.specs.Compact1.DictionaryLaw.{last_of}
use Rattle.postscript_base.specs.Compact1.Number.{number, whole}
use Rattle.postscript_base.specs.Compact1.Operation.{Operation}
use Rattle.postscript_base.specs.Compact1.Operators.{operator_cmp, operator_of}
use Rattle.postscript_base.specs.Numbers.{number as unsigned, slice}
use Rattle.postscript_base.specs.declared.compact1.operator.Operator.{Operator}
use Rattle.postscript_base.specs.declared.compact1.operator.Operator.TheVariants.{DefaultWidthX, NominalWidthX, Private, Subrs}
use Rattle.postscript_base.proofs.DictionaryIs.{get_last}
use Rattle.postscript_compact1.specs.FontSet.Parts.{HasFirst, HasPrivate, HasTwo, IsSlice}
use Rattle.postscript_view.specs.Contents.{PrivateDict}
use Rattle.postscript_view.specs.Layout.{ArePartsOf, HasLocals, WithoutSubrs}
use Rattle.postscript_view.specs.Select.{offset_of}
use Rattle.postscript_write.specs.Texts.{TextStands}
use Rattle.postscript_write.proofs.NamedEnds.{offset_is}
use Rattle.postscript_write.proofs.OperationsStand.{writes_operations}
use Rattle.postscript_write.proofs.PlacesNamed.{last_append, whole_is}
use Rattle.postscript_write.proofs.Standing.{stands_first, stands_second, stands_slice, stands_within}
use Rattle.postscript_instance.specs.Encoded.{font_dicts}
use Rattle.postscript_instance.specs.Tables.{ArePlainParts, IsPlainPart}
use Rattle.postscript_instance.specs.Whole as tables
use Rattle.postscript_instance.specs.Whole.{AreHints, IsDict, IsPrivate, hint_operators, integers, widths_text}
use Rattle.postscript_instance.proofs.Laying.{font-dict, joined}

-- what the DICT of operations has for an operator
pub looked : (os : List Operation) (q : Operator) (xs : List Decimal) → last_of os q ≡ Some xs → look (dictionary_of os) q ≡ Some xs
looked os q xs is = ap (λ o. option_or o (default_of q)) (get_last os q ∙ is)

pub unlooked : (os : List Operation) (q : Operator) → last_of os q ≡ None → look (dictionary_of os) q ≡ default_of q
unlooked os q is = ap (λ o. option_or o (default_of q)) (get_last os q ∙ is)

pub has-first : (os : List Operation) (q : Operator) (n : ℕ) → last_of os q ≡ Some (integers (n ∷ [])) → n < 2 ^ 31 →
    HasFirst (dictionary_of os) q (pos n)
has-first os q n is low = (whole (pos n), ap first_of (looked os q (integers (n ∷ [])) is), whole_is n low)

pub has-offset : (os : List Operation) (q : Operator) (n : ℕ) → last_of os q ≡ Some (integers (n ∷ [])) → n < 2 ^ 31 →
    offset_of (dictionary_of os) q ≡ Some n
has-offset os q n is low = offset_is (dictionary_of os) q n low (looked os q (integers (n ∷ [])) is)

-- the operations of a Private DICT
abbrev pub widths : List Operation
widths = (DefaultWidthX, integers (0 ∷ [])) ∷ (NominalWidthX, integers (0 ∷ [])) ∷ []

widths-are : IsDict widths_text widths
unfolding number unsigned slice operator_of
widths-are = (2, (1, (1, refl, refl), refl), (4, (3, (3, refl, refl), refl), refl))

hints-are : (text : List ℕ) (hints : List Operation) → AreHints text hints → IsDict text hints
hints-are text hints tables.no_hint = refl
hints-are text hints (tables.one_more front more others hint are is dict) =
    joined front more others (hint ∷ []) (hints-are front others are) dict

pub private-is : (text : List ℕ) → (is : IsPrivate text) → IsDict text (is.1 ++ widths)
private-is text is =
    subst (λ t. IsDict t (is.1 ++ widths)) (sym is.3) (joined is.0 widths_text is.1 widths (hints-are is.0 is.1 is.2) widths-are)

-- a hint is not Subrs
abbrev IsOther : Operator → Type 0
IsOther q = eq_by_cmp operator_cmp Subrs q ≡ false

others : All IsOther hint_operators
others = All-from_recursion IsOther hint_operators
    (refl, (refl, (refl, (refl, (refl, (refl, (refl, (refl, (refl, (refl, (refl, (refl, (refl, tt)))))))))))))

no-subrs : (text : List ℕ) (hints : List Operation) → AreHints text hints → last_of hints Subrs ≡ None
no-subrs text hints tables.no_hint = refl
no-subrs text hints (tables.one_more front more xs hint are is dict) =
    let other : IsOther hint.0 = All-contains IsOther hint_operators hint.0 others is in
    last_append xs (hint ∷ []) Subrs
    ∙ ap (λ b. option_or (option_or None (if b then Some hint.1 else None)) (last_of xs Subrs)) other ∙ no-subrs front xs are

pub private-no-subrs : (text : List ℕ) → (is : IsPrivate text) → last_of (is.1 ++ widths) Subrs ≡ None
private-no-subrs text is = last_append is.1 widths Subrs ∙ no-subrs is.0 is.1 is.2

pub private-width : (text : List ℕ) → (is : IsPrivate text) → last_of (is.1 ++ widths) NominalWidthX ≡ Some (integers (0 ∷ []))
private-width text is = last_append is.1 widths NominalWidthX

-- the part of a Private DICT
abbrev pub part-of : (text : List ℕ) → IsPrivate text → Option Dictionary → PrivateDict
part-of text is font = record { dictionary = dictionary_of (is.1 ++ widths); subroutines = []; font = font }

pub is-plain : (text : List ℕ) → (is : IsPrivate text) → (font : Option Dictionary) → IsPlainPart (part-of text is font)
is-plain text is font =
    (refl, (whole (pos 0), ap first_of (looked (is.1 ++ widths) NominalWidthX (integers (0 ∷ [])) (private-width text is)), whole_is 0 (omega arith)))

pub has-locals : (text bytes : List ℕ) (os : List Operation) (place : ℕ) (font : Option Dictionary) → (is : IsPrivate text) →
    last_of os Private ≡ Some (integers (length text ∷ place ∷ [])) → length text < 2 ^ 31 → place < 2 ^ 31 → TextStands text bytes place →
    HasLocals bytes (dictionary_of os) (part-of text is font).dictionary []
has-locals text bytes os place font is named few low stands =
    let two : HasTwo (dictionary_of os) Private (pos (length text)) (pos place) =
    (whole (pos (length text)), whole (pos place), ap first_two_of (looked os Private _ named), whole_is (length text) few, whole_is place low) in
    let zero : 0 + place ≡ place = omega arith in
    let slice : IsSlice bytes (0 + place) (length text) text =
    subst (λ n. IsSlice bytes n (length text) text) (sym zero) (λ some. stands_within text stands, sym (stands_slice text stands)) in
    let private : HasPrivate bytes 0 (dictionary_of os) place (dictionary_of (is.1 ++ widths)) =
    (length text, text, two, omega (arith, low), slice, writes_operations.all text (is.1 ++ widths) (private-is text is)) in
    WithoutSubrs place private (ap first_of (unlooked (is.1 ++ widths) Subrs (private-no-subrs text is))) refl

-- the parts of consecutive Private DICTs
abbrev font-operations : (size place : ℕ) → List Operation
font-operations size place = (Private, integers (size ∷ place ∷ [])) ∷ []

abbrev pub parts-of : (privates : List (List ℕ)) → (place : ℕ) → All IsPrivate privates → List PrivateDict
parts-of [] place are = []
parts-of (text ∷ texts) place are =
    part-of text (All-head IsPrivate text texts are) (Some (dictionary_of (font-operations (length text) place)))
    ∷ parts-of texts (place + length text) (All-tail IsPrivate text texts are)

pub many-parts : (privates : List (List ℕ)) (place : ℕ) (are : All IsPrivate privates) → length (parts-of privates place are) ≡ length privates
many-parts [] place are = refl
many-parts (text ∷ texts) place are = ap suc (many-parts texts (place + length text) (All-tail IsPrivate text texts are))

pub are-plain : (privates : List (List ℕ)) (place : ℕ) (are : All IsPrivate privates) → ArePlainParts (parts-of privates place are)
are-plain [] place are = tt
are-plain (text ∷ texts) place are =
    (is-plain text (All-head IsPrivate text texts are) (Some (dictionary_of (font-operations (length text) place))), are-plain texts (place + length text) (All-tail IsPrivate text texts are))

pub are-parts : (privates : List (List ℕ)) (bytes : List ℕ) (place : ℕ) (are : All IsPrivate privates) →
    place + length (concat privates) < 2 ^ 31 → TextStands (concat privates) bytes place →
    ArePartsOf bytes (font_dicts privates place) (parts-of privates place are)
are-parts [] bytes place are small stands = tt
are-parts (text ∷ texts) bytes place are small stands =
    let is = All-head IsPrivate text texts are in
    let rest = All-tail IsPrivate text texts are in
    let long = length-append text (concat texts) in
    let few : length text < 2 ^ 31 = omega (arith, small, long) in
    let low : place < 2 ^ 31 = omega (arith, small, long) in
    let os = font-operations (length text) place in (
      dictionary_of os,
      writes_operations.all _ os (font-dict (length text) place few low),
      (has-locals text bytes os place (Some (dictionary_of os)) is refl few low (stands_first text (concat texts) stands), refl),
      are-parts texts bytes (place + length text) rest (omega (arith, small, long)) (stands_second text (concat texts) stands),
    )
