-- How many bytes is what is written, at most.
use Rattle.std.proofs.Common.{◌≡◌, ℕ, suc, ◌+◌, ◌*◌, ◌^◌, ◌<◌, ◌≤◌, ◌==◌, nat_lt, if◌then◌else◌, List, [], ◌∷◌, ◌++◌, length, length-append, get_or, Option, Some, None, Bool, true, false, arith, mul-le-mul_left, rules}
use Rattle.std.specs.List.{concat}
use Rattle.std.specs.Prelude.{All, flat_map}
use Rattle.std.proofs.lemmas.List.Elements.{All-append, All-cons, All-nil}
use Rattle.std.proofs.lemmas.List.Sums.{sum_by-append}
use Rattle.postscript_base.specs.Compact1.Dictionary.{Dictionary}
use Rattle.postscript_base.specs.declared.compact1.operator.Operator.{Operator}
use Rattle.postscript_write.specs.Pieces.{Piece, named_places, pieces_text, place_at, places, standard_place}
use Rattle.postscript_write.specs.Dictionaries.{IsHeld}
use Rattle.postscript_write.specs.DictionarySizes.{operator_size, place_size, places_size}
use Rattle.postscript_write.specs.Index.{FitsIndex, index_text, offset_behind, size_of}
use Rattle.postscript_write.specs.Parts.{naming}
use Rattle.postscript_write.specs.Privates.{AreSized, place_of_private}
use Rattle.postscript_write.specs.Renumbered.{all_renamed, new_identifier, renamed, renamed_if}
use Rattle.postscript_write.specs.Strings.{identifier_in}
use Rattle.postscript_write.specs.declared.dictionaries.Place.{Place}
use Rattle.postscript_write.specs.declared.layout.Private.{Private}
use Rattle.postscript_write.specs.declared.strings.Strings.{Strings}
use Rattle.postscript_write.proofs.IndexStands.{behind_is, length-index_text}
use Rattle.postscript_write.proofs.Pieces.{AreWritable, can_be_held, most_size, places_few}
use Rattle.postscript_write.proofs.Without.{sized_within}

-- items that are few enough, and have few enough bytes
pub they_fit : (items : List (List ℕ)) → length items < 2 ^ 16 → length (concat items) < 2 ^ 31 → FitsIndex items
they_fit items many few = record { counted = many; offsets = omega (arith, behind_is 1 items) }

pub single_fits : (item : List ℕ) → length item < 2 ^ 31 → FitsIndex (item ∷ [])
single_fits item few = they_fit (item ∷ []) (omega arith) (omega (arith, length-append item []))

least_four : (n : ℕ) → size_of n ≤ 4
least_four n = by (nat_lt n 0x100) (nat_lt n 0x10000) (nat_lt n 0x1000000)
  where
    by : (a b c : Bool) → (if a then 1 else if b then 2 else if c then 3 else 4) ≤ 4
    by true b c = omega arith
    by false true c = omega arith
    by false false true = omega arith
    by false false false = omega arith

-- an INDEX has at most four bytes for each offset
pub index_most : (items : List (List ℕ)) → length (index_text items) ≤ 7 + 4 * length items + length (concat items)
unfolding index_text
index_most [] = omega arith
index_most (item ∷ items) =
    let all : List (List ℕ) = item ∷ items in
    let size : ℕ = size_of (offset_behind 1 all) in
    let is : length (index_text all) ≡ 3 + (length all + 1) * size + length (concat all) = length-index_text item items in
    let most : (length all + 1) * size ≤ (length all + 1) * 4 = mul-le-mul_left (length all + 1) (least_four (offset_behind 1 all)) in
    omega (arith, is, most)

-- the places of pieces that end before 2^31 can be written
standard_held : (standard : Bool) → All IsHeld (standard_place standard)
standard_held true = All-cons IsHeld _ [] (search rules, (omega arith, tt)) (All-nil IsHeld)
standard_held false = All-nil IsHeld

pub named_held : (standard : Bool) (ps : List Piece) (start : ℕ) → AreWritable ps → start + length (pieces_text ps) < 2 ^ 31 →
    All IsHeld (named_places standard start ps)
named_held standard ps start are few =
    All-append IsHeld (standard_place standard) (places start ps) (standard_held standard) (can_be_held ps start are few)

-- their operations have few bytes
standard_few : (standard : Bool) → places_size (standard_place standard) ≤ 6
standard_few true = omega arith
standard_few false = omega arith

pub private_few : (private : Option Private) (n : ℕ) → places_size (place_of_private private n) ≤ 11
private_few None n = omega arith
private_few (Some private) n = omega arith

together : (xs ys : List Place) (m n : ℕ) → places_size xs ≤ m → places_size ys ≤ n → places_size (xs ++ ys) ≤ m + n
together xs ys m n a b = omega (arith, a, b, sum_by-append place_size xs ys)

pub named_few : (standard : Bool) (ps : List Piece) (start : ℕ) → places_size (named_places standard start ps) ≤ 6 + most_size ps
named_few standard ps start =
    together (standard_place standard) (places start ps) 6 (most_size ps) (standard_few standard) (places_few ps start)

-- and those of the operators that name strings by new identifiers
renamed_by : (operator : Operator) (old new : ℕ) → places_size (renamed operator old new) ≤ 5 + operator_size operator
renamed_by operator old new = by (new == old)
  where
    by : (b : Bool) → places_size (if b then [] else place_at operator new ∷ []) ≤ 5 + operator_size operator
    by true = omega arith
    by false = omega arith

renamed_of : (strings : Strings) (operator : Operator) (old : Option ℕ) →
    places_size (renamed_if strings operator old) ≤ 5 + operator_size operator
renamed_of strings operator None = omega arith
renamed_of strings operator (Some old) = renamed_by operator old (new_identifier strings old)

operations_of : List Operator → ℕ
operations_of [] = 0
operations_of (operator ∷ operators) = 5 + operator_size operator + operations_of operators

renamed_all : (strings : Strings) (names : Dictionary) (operators : List Operator) →
    places_size (flat_map (λ operator. renamed_if strings operator (identifier_in names operator)) operators) ≤ operations_of operators
unfolding operations_of
renamed_all strings names [] = omega arith
renamed_all strings names (operator ∷ operators) =
    together (renamed_if strings operator (identifier_in names operator))
    (flat_map (λ operator. renamed_if strings operator (identifier_in names operator)) operators) (5 + operator_size operator)
    (operations_of operators) (renamed_of strings operator (identifier_in names operator)) (renamed_all strings names operators)

pub renamed_few : (strings : Strings) (names : Dictionary) → places_size (all_renamed strings names) ≤ 58
unfolding operations_of
renamed_few strings names = renamed_all strings names naming

-- font dictionaries, with the places of their private dictionaries
more_than : (items texts : List (List ℕ)) → length texts ≡ length items →
    ((k : ℕ) → k < length items → length (get_or texts k []) ≤ length (get_or items k []) + 11) →
    length (concat texts) ≤ length (concat items) + 11 * length items
more_than [] [] many each = omega arith
more_than [] (text ∷ texts) many each = absurd (omega (arith, many))
more_than (item ∷ items) [] many each = absurd (omega (arith, many))
more_than (item ∷ items) (text ∷ texts) many each =
    let first = each 0 (omega arith) in
    let rest = more_than items texts (omega (arith, many)) (λ k h. each (suc k) (omega (arith, h))) in
    omega (arith, length-append item (concat items), length-append text (concat texts), first, rest)

pub dictionaries_most : (items : List (List ℕ)) (privates : List (Option Private)) (texts : List (List ℕ)) →
    AreSized items privates texts → length (concat texts) ≤ length (concat items) + 11 * length items
dictionaries_most items privates texts sized =
    more_than items texts sized.many (λ k less.
    let one = sized_within (get_or items k []) (place_of_private (get_or privates k None) 0) (length (get_or texts k []))
    (sized.each k less) in
    let few = private_few (get_or privates k None) 0 in
    omega (arith, one, few))
