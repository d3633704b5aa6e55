-- Pieces stand one behind another, and operators name their places.
use Rattle.std.proofs.Common.{◌≡◌, refl, sym, ap, subst, ◌∙◌, ℕ, ◌+◌, ◌-◌, ◌<◌, ◌≤◌, ◌^◌, List, [], ◌∷◌, ◌++◌, length, length-append, map, get_or, Some, None, Bool, true, false, if◌then◌else◌, arith}
use Rattle.std.specs.List.{concat}
use Rattle.std.specs.Ordering.{eq_by_cmp}
use Rattle.std.specs.Prelude.{All}
use Rattle.std.proofs.lemmas.Cmp.{eq_by_cmp_equiv}
use Rattle.std.proofs.lemmas.List.{append-nil, append_assoc, get_or-append_right, map-append}
use Rattle.std.proofs.Math.ListN.{get_or-append}
use Rattle.std.proofs.lemmas.List.Elements.{All-append, All-cons, All-nil}
use Rattle.std.proofs.lemmas.List.Sums.{sum_by-append}
use Rattle.postscript_base.specs.Compact1.Operators.{operator_cmp}
use Rattle.postscript_base.specs.declared.compact1.operator.Operator.{Operator}
use Rattle.postscript_base.proofs.DictionaryMaps.{operators_total}
use Rattle.postscript_write.specs.Dictionaries.{IsHeld, IsWritable, operation_of}
use Rattle.postscript_write.specs.DictionarySizes.{operator_size, place_size, places_size}
use Rattle.postscript_write.specs.Parts.{IsAmong}
use Rattle.postscript_write.specs.Pieces.{Piece, pieces_text, place_of, places}
use Rattle.postscript_write.specs.Texts.{TextStands}
use Rattle.postscript_write.specs.declared.dictionaries.Place.{Place}
use Rattle.postscript_write.proofs.Operators.{is_none_of, parted}
use Rattle.postscript_write.proofs.PlacesNamed.{before, behind, named_by}
use Rattle.postscript_write.proofs.Standing.{stands_first, stands_second}

-- each text stands where the one before it ends
abbrev pub AllStand : List (List ℕ) → (bytes : List ℕ) → (place : ℕ) → Type 0
AllStand [] bytes place = Unit {0}
AllStand (text ∷ texts) bytes place = TextStands text bytes place × AllStand texts bytes (place + length text)

pub all_stand : (texts : List (List ℕ)) (bytes : List ℕ) (place : ℕ) → TextStands (concat texts) bytes place → AllStand texts bytes place
all_stand [] bytes place s = tt
all_stand (text ∷ texts) bytes place s =
    (stands_first text (concat texts) s, all_stand texts bytes (place + length text) (stands_second text (concat texts) s))

-- where the last one ends
abbrev pub behind_all : (start : ℕ) → List (List ℕ) → ℕ
behind_all start [] = start
behind_all start (text ∷ texts) = behind_all (start + length text) texts

pub all_end : (texts : List (List ℕ)) (start : ℕ) → behind_all start texts ≡ start + length (concat texts)
all_end [] start = omega arith
all_end (text ∷ texts) start = omega (arith, all_end texts (start + length text), length-append text (concat texts))

abbrev pub texts_in : List Piece → List (List ℕ)
texts_in pieces = map (λ piece. piece.text) pieces

-- no piece has an operator
abbrev pub is_other : Operator → List Piece → Bool
is_other operator pieces = is_none_of operator (map (λ piece. piece.operator) pieces)

abbrev pub are_distinct : List Piece → Bool
are_distinct [] = true
are_distinct (p ∷ ps) = if is_other p.operator ps then are_distinct ps else false

pub one_other : (p : Piece) (offset : ℕ) (operator : Operator) → eq_by_cmp operator_cmp operator p.operator ≡ false →
    named_by (place_of p offset) operator ≡ None
one_other p offset operator other = by p.named
  where
    place : Place
    place = record { operator = p.operator; size = if p.counted then Some (length p.text) else None; offset = offset }

    by : (b : Bool) → named_by (if b then place ∷ [] else []) operator ≡ None
    by true = ap (λ b. if b then Some (operation_of place).1 else None) other
    by false = refl

each : (x y : Bool) → (if x then y else false) ≡ true → (x ≡ true) × (y ≡ true)
each true y e = (refl, e)
each false y e = absurd (cc)

pub none_named : (ps : List Piece) (start : ℕ) (operator : Operator) → is_other operator ps ≡ true →
    named_by (places start ps) operator ≡ None
none_named [] start operator other = refl
none_named (p ∷ ps) start operator other =
    let differ = parted (eq_by_cmp operator_cmp operator p.operator) (is_other operator ps) other in
    before (place_of p start) (places (start + length p.text) ps) operator (one_other p start operator differ.0)
    ∙ none_named ps (start + length p.text) operator differ.1

-- the places of one piece more
pub places_more : (ps : List Piece) (p : Piece) (start : ℕ) →
    places start (ps ++ p ∷ []) ≡ places start ps ++ place_of p (behind_all start (texts_in ps))
places_more [] p start = append-nil (place_of p start)
places_more (q ∷ ps) p start =
    let next : ℕ = start + length q.text in
    ap (λ xs. place_of q start ++ xs) (places_more ps p next)
    ∙ sym (append_assoc (place_of q start) (places next ps) (place_of p (behind_all next (texts_in ps))))

-- the operator of each names its place alone
abbrev pub AreTold : List Piece → (all : List Place) → (start : ℕ) → Type 0
AreTold [] all start = Unit {0}
AreTold (p ∷ ps) all start =
    (named_by all p.operator ≡ named_by (place_of p start) p.operator) × AreTold ps all (start + length p.text)

told_behind : (ps : List Piece) (p : Piece) (offset start : ℕ) (all : List Place) → is_other p.operator ps ≡ true → AreTold ps all start →
    AreTold ps (place_of p offset ++ all) start
told_behind [] p offset start all other told = tt
told_behind (q ∷ qs) p offset start all other told =
    let differ = parted (eq_by_cmp operator_cmp p.operator q.operator) (is_other p.operator qs) other in
    let also = (eq_by_cmp_equiv operators_total).symm q.operator p.operator ∙ differ.0 in (
      before (place_of p offset) all q.operator (one_other p offset q.operator also) ∙ told.0,
      told_behind qs p offset (start + length q.text) all differ.1 told.1,
    )

pub all_told : (ps : List Piece) (start : ℕ) → are_distinct ps ≡ true → AreTold ps (places start ps) start
all_told [] start distinct = tt
all_told (p ∷ ps) start distinct =
    let own = each (is_other p.operator ps) (are_distinct ps) distinct in
    let next : ℕ = start + length p.text in (
      behind (place_of p start) (places next ps) p.operator (none_named ps next p.operator own.0),
      told_behind ps p start next (places next ps) own.0 (all_told ps next own.1),
    )

pub all_left : {X : Type 0} (P : X → Type 0) (xs ys : List X) → All P (xs ++ ys) → All P xs
all_left P xs ys all k d less = subst P (get_or-append xs ys d k less) (all k d (omega (arith, less, length-append xs ys)))

pub all_right : {X : Type 0} (P : X → Type 0) (xs ys : List X) → All P (xs ++ ys) → All P ys
all_right P xs ys all k d less =
    let back : length xs + k - length xs ≡ k = omega arith in
    subst P (get_or-append_right xs ys (length xs) (length xs + k) d refl (omega arith) ∙ ap (λ n. get_or ys n d) back)
    (all (length xs + k) d (omega (arith, less, length-append xs ys)))

-- the place of each can be written
abbrev pub AllHeld : List Piece → (start : ℕ) → Type 0
AllHeld [] start = Unit {0}
AllHeld (p ∷ ps) start = All IsHeld (place_of p start) × AllHeld ps (start + length p.text)

pub all_held : (ps : List Piece) (start : ℕ) → All IsHeld (places start ps) → AllHeld ps start
all_held [] start all = tt
all_held (p ∷ ps) start all =
    let next : ℕ = start + length p.text in
    (all_left IsHeld (place_of p start) (places next ps) all, all_held ps next (all_right IsHeld (place_of p start) (places next ps) all))

-- those of pieces that end before 2^31 can be
abbrev pub AreWritable : List Piece → Type 0
AreWritable [] = Unit {0}
AreWritable (p ∷ ps) = IsWritable p.operator × AreWritable ps

one_held : (p : Piece) (offset : ℕ) → IsWritable p.operator → offset + length p.text < 2 ^ 31 → All IsHeld (place_of p offset)
one_held p offset is few = by p.named p.counted
  where
    by : (b c : Bool) → All IsHeld
        (if b then record { operator = p.operator; size = if c then Some (length p.text) else None; offset = offset } ∷ [] else [])
    by false c = All-nil IsHeld
    by true false = All-cons IsHeld _ [] (is, (omega (arith, few), tt)) (All-nil IsHeld)
    by true true = All-cons IsHeld _ [] (is, (omega (arith, few), (omega (arith, few), tt))) (All-nil IsHeld)

pub can_be_held : (ps : List Piece) (start : ℕ) → AreWritable ps → start + length (pieces_text ps) < 2 ^ 31 →
    All IsHeld (places start ps)
can_be_held [] start are few = All-nil IsHeld
can_be_held (p ∷ ps) start are few =
    let long = length-append p.text (pieces_text ps) in
    All-append IsHeld (place_of p start) (places (start + length p.text) ps) (one_held p start are.0 (omega (arith, few, long)))
    (can_be_held ps (start + length p.text) are.1 (omega (arith, few, long)))

-- their operations have few bytes
abbrev pub most_size : List Piece → ℕ
most_size [] = 0
most_size (p ∷ ps) = (10 + operator_size p.operator) + most_size ps

one_few : (p : Piece) (offset : ℕ) → places_size (place_of p offset) ≤ 10 + operator_size p.operator
one_few p offset = by p.named p.counted
  where
    by : (b c : Bool) →
        places_size (if b then record { operator = p.operator; size = if c then Some (length p.text) else None; offset = offset } ∷ [] else [])
        ≤ 10 + operator_size p.operator
    by false c = omega arith
    by true false = omega arith
    by true true = omega arith

pub places_few : (ps : List Piece) (start : ℕ) → places_size (places start ps) ≤ most_size ps
places_few [] start = omega arith
places_few (p ∷ ps) start =
    let next : ℕ = start + length p.text in
    omega (arith, one_few p start, places_few ps next, sum_by-append place_size (place_of p start) (places next ps))

-- places are named by these operators
abbrev pub AreOf : List Operator → List Place → Type 0
AreOf operators places = All (λ place. IsAmong place.operator operators) places

abbrev pub AreAmong : List Operator → List Piece → Type 0
AreAmong operators [] = Unit {0}
AreAmong operators (p ∷ ps) = IsAmong p.operator operators × AreAmong operators ps

pub all_among : (operators : List Operator) (ps : List Piece) (start : ℕ) → AreAmong operators ps → AreOf operators (places start ps)
all_among operators [] start are = All-nil (λ place. IsAmong place.operator operators)
all_among operators (p ∷ ps) start are =
    All-append (λ place. IsAmong place.operator operators) (place_of p start) (places (start + length p.text) ps) (one p.named)
    (all_among operators ps (start + length p.text) are.1)
  where
    one : (b : Bool) → AreOf operators
        (if b then record { operator = p.operator; size = if p.counted then Some (length p.text) else None; offset = start } ∷ [] else [])
    one true = All-cons (λ place. IsAmong place.operator operators) _ [] are.0 (All-nil (λ place. IsAmong place.operator operators))
    one false = All-nil (λ place. IsAmong place.operator operators)

-- a piece without its bytes: places of the same operators, and of the same size
abbrev pub bare : Piece → Piece
bare p = record { operator = p.operator; named = p.named; counted = p.counted; text = [] }

pub record Alike (xs ys : List Place) : Type 0 where
  pub names : map (λ place. place.operator) xs ≡ map (λ place. place.operator) ys
  pub sizes : places_size xs ≡ places_size ys

pub together : (xs ys us vs : List Place) → Alike xs ys → Alike us vs → Alike (xs ++ us) (ys ++ vs)
together xs ys us vs a b =
    let name : Place → Operator = λ place. place.operator in
    record {
      names = map-append name xs us ∙ ap (λ zs. zs ++ map name us) a.names ∙ ap (λ zs. map name ys ++ zs) b.names
          ∙ sym (map-append name ys vs);
      sizes = omega (arith, sum_by-append place_size xs us, sum_by-append place_size ys vs, a.sizes, b.sizes);
    }

one_alike : (p : Piece) (m n : ℕ) → Alike (place_of p m) (place_of (bare p) n)
one_alike p m n = by p.named p.counted
  where
    by : (b c : Bool) → Alike
        (if b then record { operator = p.operator; size = if c then Some (length p.text) else None; offset = m } ∷ [] else [])
        (if b then record { operator = p.operator; size = if c then Some 0 else None; offset = n } ∷ [] else [])
    by false c = record { names = refl; sizes = refl }
    by true false = record { names = refl; sizes = refl }
    by true true = record { names = refl; sizes = refl }

of_bare : (ps : List Piece) (m n : ℕ) → Alike (places m ps) (places n (map bare ps))
of_bare [] m n = record { names = refl; sizes = refl }
of_bare (p ∷ ps) m n = together _ _ _ _ (one_alike p m n) (of_bare ps (m + length p.text) (n + 0))

pub all_alike : (ps qs : List Piece) (m n : ℕ) → map bare ps ≡ map bare qs → Alike (places m ps) (places n qs)
all_alike ps qs m n same =
    let a = of_bare ps m 0 in
    let b = of_bare qs n 0 in
    record {
      names = a.names ∙ ap (λ xs. map (λ place. place.operator) (places 0 xs)) same ∙ sym b.names;
      sizes = a.sizes ∙ ap (λ xs. places_size (places 0 xs)) same ∙ sym b.sizes;
    }
