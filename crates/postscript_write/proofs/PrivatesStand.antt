-- The private dictionaries that are written end one behind another.
use Rattle.std.proofs.Common.{◌≡◌, refl, sym, ap, subst, ◌∙◌, inl, inr, ℕ, suc, pos, ◌+◌, ◌<◌, ◌^◌, List, [], ◌∷◌, length, length-append, take, get_or, Option, Some, None, arith}
use Rattle.std.specs.Option.{option_or, unwrap_or}
use Rattle.std.specs.Prelude.{All}
use Rattle.postscript_base.specs.Compact1.Defaults.{first_two_of, look}
use Rattle.postscript_base.specs.Compact1.Dictionary.{Dictionary}
use Rattle.postscript_base.specs.Compact1.DictionaryLaw.{IsDictionary}
use Rattle.postscript_base.specs.Compact1.Number.{whole}
use Rattle.postscript_base.specs.Tape.Outcome.{Got}
use Rattle.postscript_base.specs.declared.compact1.operator.Operator.TheVariants as operators
use Rattle.postscript_base.proofs.DictionaryIs.{reads_dictionaries}
use Rattle.postscript_compact1.specs.FontSet.Parts.{HasTwo}
use Rattle.postscript_view.specs.Contents.{PrivateDict}
use Rattle.postscript_view.specs.Layout.{ArePartsOf}
use Rattle.postscript_write.specs.Dictionaries.{IsHeld}
use Rattle.postscript_write.specs.Privates.{IsOwnPrivate, place_of_private, private_offset, private_text, privates_text}
use Rattle.postscript_write.specs.Once.{IsToldOnce}
use Rattle.postscript_write.specs.Texts.{TextStands}
use Rattle.postscript_write.specs.Whole.{PrivateEnds, PrivatesEnd}
use Rattle.postscript_write.specs.declared.layout.Private.{Private}
use Rattle.postscript_write.proofs.Standing.{stands_slice}
use Rattle.postscript_write.proofs.PlacesNamed.{named_by, whole_is}

-- the private dictionary that a dictionary names ends behind its text
abbrev pub EndsBehind : (out : List ℕ) → Dictionary → Option Private → (offset : ℕ) → Type 0
EndsBehind out map private offset = PrivateEnds out map offset (offset + length (private_text private))

pub private_ends : (out : List ℕ) (old new : Dictionary) (part : PrivateDict) (private : Option Private) (offset : ℕ) →
    look new operators.Private ≡ option_or (named_by (place_of_private private offset) operators.Private)
    (look old operators.Private) → All IsHeld (place_of_private private offset) →
    (private ≡ None → first_two_of (look old operators.Private) ≡ None) → TextStands (private_text private) out offset → IsOwnPrivate part private →
    EndsBehind out new private offset
private_ends out old new part None offset is held none stands own = inl (ap first_two_of is ∙ none refl, omega arith)
private_ends out old new part (Some private) offset is held none stands own =
    let text : List ℕ = private.text.items in
    let one : IsHeld (record { operator = operators.Private; size = Some (length text); offset = offset }) = held 0
    (record { operator = operators.Private; size = Some (length text); offset = offset }) (omega arith) in
    let few : length text < 2 ^ 31 = one.1.0 in
    let low : offset < 2 ^ 31 = one.1.1.0 in
    let two : HasTwo new operators.Private (pos (length text))
    (pos offset) = (whole (pos (length text)), whole (pos offset), ap first_two_of is, whole_is (length text) few, whole_is offset low) in
    inr (length text, two, refl, subst IsToldOnce (sym (stands_slice text stands)) own.3)

same_got : {A : Type 0} (x y : A) (n : ℕ) → Got x n ≡ Got y n → x ≡ y
same_got x y n e = cc

-- a text is one dictionary
pub one_dictionary : (text : List ℕ) (a b : Dictionary) → IsDictionary text 0 a → IsDictionary text 0 b → a ≡ b
one_dictionary text a b x y = same_got a b (length text) (sym (reads_dictionaries.all text 0 a x) ∙ reads_dictionaries.all text 0 b y)

pub all_end : (map : Dictionary) (out : List ℕ) (texts : List (List ℕ)) (parts : List PrivateDict) (privates : List (Option Private))
    (start : ℕ) → ArePartsOf out texts parts →
    length privates ≡ length texts →
    ((k : ℕ) (own : Dictionary) → k < length texts → IsDictionary (get_or texts k []) 0 own → EndsBehind out own (get_or privates k None)
    (private_offset start privates k)) →
    PrivatesEnd out map parts start (start + length (privates_text privates))
all_end map out [] [] [] start are many each = omega arith
all_end map out [] [] (p ∷ ps) start are many each = absurd (omega (arith, many))
all_end map out [] (part ∷ parts) privates start are many each = absurd are
all_end map out (text ∷ texts) [] privates start are many each = absurd are
all_end map out (text ∷ texts) (part ∷ parts) [] start are many each = absurd (omega (arith, many))
all_end map out (text ∷ texts) (part ∷ parts) (p ∷ ps) start are many each =
    let own : Dictionary = are.0 in
    let font : part.font ≡ Some own = are.2.1 in
    let behind : ℕ = start + length (private_text p) in
    let zeroth : private_offset start (p ∷ ps) 0 ≡ start = omega arith in
    let first = subst (λ n. EndsBehind out own p n) zeroth (each 0 own (omega arith) are.1) in
    let later = λ (k : ℕ) (map : Dictionary) (less : k < length texts) (is : IsDictionary (get_or texts k []) 0 map).
    let next : private_offset start (p ∷ ps) (suc k) ≡ private_offset behind ps k = omega
    (arith, length-append (private_text p) (privates_text (take k ps))) in
    subst (λ n. EndsBehind out map (get_or ps k None) n) next (each (suc k) map (omega (arith, less)) is) in
    let rest = all_end map out texts parts ps behind are.3 (omega (arith, many)) later in
    let end : behind + length (privates_text ps) ≡ start + length (privates_text (p ∷ ps)) = omega
    (arith, length-append (private_text p) (privates_text ps)) in
    (behind, subst (λ f. PrivateEnds out (unwrap_or f map) start behind) (sym font) first, subst (λ n. PrivatesEnd out map parts behind n) end rest)
