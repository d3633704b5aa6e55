-- Font dictionaries and private dictionaries have few bytes.
use Rattle.std.proofs.Common.{◌≡◌, refl, sym, ap, ◌∙◌, ℕ, ◌+◌, ◌<◌, ◌≤◌, ◌^◌, List, [], ◌∷◌, length, length-append, get_or, Option, Some, None, arith}
use Rattle.std.specs.List.{concat, sum_by}
use Rattle.std.specs.Option.{unwrap_or}
use Rattle.std.proofs.lemmas.List.{length-map}
use Rattle.std.proofs.lemmas.List.Sums.{sum_by-cons}
use Rattle.postscript_base.specs.Compact1.Defaults.{look, first_two_of}
use Rattle.postscript_base.specs.Compact1.Dictionary.{Dictionary}
use Rattle.postscript_base.specs.declared.compact1.operator.Operator.{Operator}
use Rattle.postscript_base.specs.declared.compact1.operator.Operator.TheVariants as operators
use Rattle.postscript_view.specs.Layout.{AreParts, ArePartsOf, NamesIndex}
use Rattle.postscript_view.specs.Layout.AreParts.{OfFont, OfFontDictionaries}
use Rattle.postscript_view.specs.Sizes.{HoldFew, IsKeyed, private_bytes, private_size, size_named, size_of}
use Rattle.postscript_view.specs.Value.{part_shown, parts_shown}
use Rattle.postscript_view.specs.declared.private_dict.PrivateDict.{PrivateDict}
use Rattle.postscript_write.specs.ArrangedText.{AreSizedFor}
use Rattle.postscript_write.specs.Index.{FitsIndex, index_text}
use Rattle.postscript_write.specs.Privates.{private_text, privates_text}
use Rattle.postscript_write.specs.declared.layout.Private.{Private}
use Rattle.postscript_write.proofs.Arranged.{all_dictionaries, keyed_items, named_opened}
use Rattle.postscript_write.proofs.Room.{dictionaries_most, index_most, they_fit}

-- one INDEX is named
one_named : (bytes : List ℕ) (map : Dictionary) (operator : Operator) (a b : List (List ℕ)) → NamesIndex bytes map operator a →
    NamesIndex bytes map operator b → a ≡ b
one_named bytes map operator a b x y = named_opened bytes map operator x.0 x.2.0 a b x.1 x.2.2 y

pub all_bytes : (items : List (List ℕ)) → length (concat items) ≡ sum_by length items
all_bytes [] = refl
all_bytes (item ∷ items) =
    length-append item (concat items) ∙ ap (λ n. length item + n) (all_bytes items) ∙ sym (sum_by-cons length item items)

-- the font dictionaries that are written
pub record AreFew (texts : List (List ℕ)) : Type 0 where
  pub many : length texts < 2 ^ 16
  pub bytes : length (concat texts) ≤ 20720885

pub are_few : (bytes : List ℕ) (map : Dictionary) (parts : List PrivateDict) (privates : List (Option Private)) (texts : List (List ℕ)) →
    IsKeyed map → HoldFew bytes map parts → AreParts bytes map (parts_shown parts) →
    length parts < 2 ^ 16 → AreSizedFor bytes map privates texts → AreFew texts
are_few bytes map parts privates texts keyed few are less sized =
    let has = keyed_items bytes map (parts_shown parts) keyed are in
    let items : List (List ℕ) = sized.0 in
    let same : items ≡ has.0 = one_named bytes map operators.FDArray items has.0 sized.1 has.1 in
    let also : items ≡ few.0 = one_named bytes map operators.FDArray items few.0 sized.1 few.1 in
    let many : length items ≡ length parts = ap length same ∙ (all_dictionaries bytes has.0 (parts_shown parts) has.2).1
    ∙ length-map parts part_shown in
    let most = dictionaries_most items privates texts sized.2 in
    let sum : length (concat items) ≡ sum_by length few.0 = ap (λ (xs : List (List ℕ)). length (concat xs)) also ∙ all_bytes few.0 in
    let held = few.2 in
    let as_many = sized.2.many in
    record { many = omega (arith, as_many, many, less); bytes = omega (arith, most, sum, held, many, less) }

pub few_fit : (texts : List (List ℕ)) → AreFew texts → FitsIndex texts
few_fit texts few = they_fit texts few.many (let most = few.bytes in omega (arith, most))

pub few_most : (texts : List (List ℕ)) → AreFew texts → length (index_text texts) ≤ 21000000
few_most texts few =
    let many = few.many in
    let bytes = few.bytes in
    omega (arith, index_most texts, many, bytes)

-- the size that is named of the private dictionary of a part
abbrev pub named_size : Dictionary → PrivateDict → ℕ
named_size map part = size_named (first_two_of (look (unwrap_or part.font_dictionary map) operators.Private))

own_size : (map own : Dictionary) (part : PrivateDict) → part.font_dictionary ≡ Some own → named_size map part ≡ private_size part
own_size map own part is =
    ap (λ d. size_named (first_two_of (look (unwrap_or d map) operators.Private))) is ∙ sym (ap size_of is)

own_sizes : (bytes : List ℕ) (map : Dictionary) (items : List (List ℕ)) (parts : List PrivateDict) →
    ArePartsOf bytes items (parts_shown parts) → sum_by (named_size map) parts ≡ private_bytes parts
own_sizes bytes map [] [] are = refl
own_sizes bytes map [] (part ∷ parts) are = absurd are
own_sizes bytes map (item ∷ items) [] are = absurd are
own_sizes bytes map (item ∷ items) (part ∷ parts) are =
    let one = own_size map are.0 part are.2.1 in
    let rest = own_sizes bytes map items parts are.3 in
    sum_by-cons (named_size map) part parts ∙ ap (λ n. n + sum_by (named_size map) parts) one ∙ ap (λ n. private_size part + n) rest
    ∙ sym (sum_by-cons private_size part parts)

alone : (privates : List (Option Private)) (most : ℕ) → length privates ≡ 1 →
    ((k : ℕ) → k < 1 → length (private_text (get_or privates k None)) ≤ most) → length (privates_text privates) ≤ most
alone [] most many each = absurd (omega (arith, many))
alone (p ∷ []) most many each = let one = each 0 (omega arith) in omega (arith, one, length-append (private_text p) [])
alone (p ∷ q ∷ ps) most many each = absurd (omega (arith, many))

-- the private dictionaries of parts, each of which has no more bytes than are named, and than the font has
pub privates_few : (bytes : List ℕ) (map : Dictionary) (parts : List PrivateDict) (privates : List (Option Private)) →
    AreParts bytes map (parts_shown parts) → (IsKeyed map → HoldFew bytes map parts) → length privates ≡ length parts →
    length (privates_text privates) ≤ sum_by
    (named_size map) parts → ((k : ℕ) → k < length parts → length (private_text (get_or privates k None)) ≤ length bytes) → length
    (privates_text privates) ≤ length bytes + 20000000
privates_few bytes map parts privates (OfFont part plain is one) few many sized each =
    let single : length parts ≡ 1 = sym (length-map parts part_shown) ∙ ap length one in
    let most = alone privates (length bytes) (many ∙ single) (λ k less. each k (omega (arith, less, single))) in
    omega (arith, most)
privates_few bytes map parts privates (OfFontDictionaries items keyed named are) few many sized each =
    let same = own_sizes bytes map items parts are in
    let held = (few keyed).2 in
    omega (arith, same, held, sized)
