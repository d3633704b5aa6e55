-- Private dictionaries, one behind the other, and the font dictionaries that name them.
use Rattle.std.proofs.Common.{◌≡◌, refl, sym, ap, subst, ◌∙◌, ℕ, suc, ◌+◌, ◌<◌, ◌≤◌, List, [], ◌∷◌, ◌++◌, length, take, drop, take-append-drop, get_or, Option, length-append, arith, rules, Some, None, ◌^◌}
use Rattle.std.proofs.lemmas.List.{flat_map_more, take_more}
use Rattle.std.proofs.lemmas.Grind.{flat_map-append}
use Rattle.std.proofs.Math.Seq.{drop-cons}
use Rattle.std.proofs.lemmas.List.Folds.{length-flat_map-take}
use Rattle.postscript_write.specs.Privates.{IsSomeDictionary, place_of_private, private_offset, private_text, privates_text}
use Rattle.std.proofs.lemmas.List.Elements.{All-cons, All-nil}
use Rattle.std.specs.Prelude.{All, IsSome, flat_map, pos}
use Rattle.postscript_base.specs.Compact1.Decimal.{to_i32}
use Rattle.postscript_base.specs.Compact1.Dictionary.{Dictionary}
use Rattle.postscript_base.specs.Index.{IsOpened}
use Rattle.postscript_base.specs.declared.compact1.operator.Operator.{Operator}
use Rattle.postscript_base.specs.declared.compact1.operator.Operator.TheVariants as operators
use Rattle.postscript_compact1.specs.FontSet.Parts.{HasFirst}
use Rattle.postscript_view.specs.Layout.{AreParts, ArePartsOf, NamesIndex}
use Rattle.postscript_view.specs.Layout.AreParts.{OfFont, OfFontDictionaries}
use Rattle.postscript_view.specs.Contents.{PrivateDict}
use Rattle.postscript_view.specs.Sizes.{IsKeyed}
use Rattle.postscript_write.specs.Texts.{TextStands}
use Rattle.postscript_write.proofs.Standing.{stands_first, stands_second}
use Rattle.postscript_write.proofs.Heads.{same_open}
use Rattle.postscript_write.specs.Dictionaries.{IsHeld}
use Rattle.postscript_write.specs.declared.layout.Private.{Private}

pub further : {X A : Type 0} (f : X → List A) (xs : List X) (i : ℕ) (d : X) (old new : List A) → i < length xs →
    old ≡ flat_map f (take i xs) → new ≡ old ++ f (get_or xs i d) → new ≡ flat_map f (take (i + 1) xs)
further f xs i d old new less so_far more =
    more ∙ ap (λ ys. ys ++ f (get_or xs i d)) so_far ∙ flat_map_more f [] (take i xs) (get_or xs i d)
    ∙ ap (flat_map f) (sym (take_more xs i d less))

-- one more has its bytes behind those so far, and all have no fewer
pub record IsNext (ps : List (Option Private)) (i : ℕ) (p : Option Private) : Type 0 where
  pub more : length (privates_text (take (i + 1) ps)) ≡ length (privates_text (take i ps)) + length (private_text p)
  pub within : length (privates_text (take (i + 1) ps)) ≤ length (privates_text ps)

pub is_next : (ps : List (Option Private)) (i : ℕ) (p : Option Private) → i < length ps → p ≡ get_or ps i p → IsNext ps i p
is_next ps i p less is =
    let text : privates_text (take i ps) ++ private_text (get_or ps i p) ≡ privates_text
    (take (i + 1) ps) = further private_text ps i p _ _ less refl refl in
    let more = sym (ap length text) ∙ length-append (privates_text (take i ps)) (private_text (get_or ps i p)) in
    let same = ap (λ p. length (private_text p)) is in
    let within = length-flat_map-take private_text ps i p less in
    record { more = omega (arith, more, same); within = omega (arith, more, within) }

pub held : (p : Option Private) (offset : ℕ) → offset + length (private_text p) < 2 ^ 31 → All IsHeld (place_of_private p offset)
held None offset h = All-nil IsHeld
held (Some private) offset h = All-cons IsHeld _ [] (search rules, (omega arith, (omega arith, tt))) (All-nil IsHeld)

-- one place is an operator's first operand
pub one_first : (map : Dictionary) (operator : Operator) (m n : ℕ) → HasFirst map operator (pos m) → HasFirst map operator (pos n) → m ≡ n
one_first map operator m n x y =
    let both : Some x.0 ≡ Some y.0 = sym x.1 ∙ y.1 in
    let same : x.0 ≡ y.0 = cc in
    let numbers : Some (pos m) ≡ Some (pos n) = sym x.2 ∙ ap to_i32 same ∙ y.2 in
    cc

-- the INDEX that an operator names is what is opened there
pub named_opened : (bytes : List ℕ) (map : Dictionary) (operator : Operator) (place next : ℕ) (items other : List (List ℕ)) →
    HasFirst map operator (pos place) → IsOpened bytes place items next →
    NamesIndex bytes map operator other → items ≡ other
named_opened bytes map operator place next items other first opens names =
    let at : names.0 ≡ place = one_first map operator names.0 place names.1 first in
    (same_open bytes place items other next names.2.0 opens (subst (λ p. IsOpened bytes p other names.2.0) at names.2.2)).0

-- the font dictionaries of a CID-keyed font
pub keyed_items : (bytes : List ℕ) (map : Dictionary) (parts : List PrivateDict) → IsKeyed map → AreParts bytes map parts →
    (items : List (List ℕ)) × NamesIndex bytes map operators.FDArray items × ArePartsOf bytes items parts
keyed_items bytes map parts keyed (OfFont own plain is one) = let never = subst IsSome plain keyed in absurd (cc)
keyed_items bytes map parts keyed (OfFontDictionaries items again named are) = (items, named, are)

pub all_dictionaries : (bytes : List ℕ) (items : List (List ℕ)) (parts : List PrivateDict) → ArePartsOf bytes items parts →
    All IsSomeDictionary items × (length items ≡ length parts)
all_dictionaries bytes [] [] are = (All-nil IsSomeDictionary, refl)
all_dictionaries bytes [] (part ∷ parts) are = absurd are
all_dictionaries bytes (item ∷ items) [] are = absurd are
all_dictionaries bytes (item ∷ items) (part ∷ parts) are =
    let rest = all_dictionaries bytes items parts are.3 in
    (All-cons IsSomeDictionary item items (are.0, are.1) rest.0, ap suc rest.1)

-- each private dictionary stands where those before it end
pub private_there : (ps : List (Option Private)) (number : ℕ) (bytes : List ℕ) (place : ℕ) → number < length ps →
    TextStands (privates_text ps) bytes place →
    TextStands (private_text (get_or ps number None)) bytes (private_offset place ps number)
private_there ps number bytes place less stands =
    let front : List ℕ = privates_text (take number ps) in
    let own : List ℕ = private_text (get_or ps number None) in
    let behind : List ℕ = privates_text (drop (suc number) ps) in
    let parted : privates_text ps ≡ front ++ (own ++ behind) =
    ap privates_text (sym (take-append-drop number ps)) ∙ flat_map-append private_text (take number ps) (drop number ps)
    ∙ ap (λ xs. front ++ privates_text xs) (drop-cons ps number None less) in
    stands_first own behind (stands_second front (own ++ behind) (subst (λ text. TextStands text bytes place) parted stands))
