-- What is cut draws the same, and can be said again.
use Rattle.std.proofs.Common.{◌≡◌, refl, ap, sym, subst, ◌∙◌, ℕ, ◌+◌, ◌-◌, ◌%◌, ◌<◌, ◌≤◌, ◌⊎◌, inl, inr, ℤ, true, false, IsTrue, List, [], ◌∷◌, ◌++◌, length, length-append, take, drop, append-nil, Option, Some, None, arith}
use Rattle.std.proofs.lemmas.Bool.Decides.{nat_tests}
use Rattle.std.proofs.lemmas.List.{take-append-drop, length-take-le, length-drop}
use Rattle.postscript_drawing.specs.Operators.{strokes}
use Rattle.postscript_drawing.specs.Strokes.{curves_level}
use Rattle.postscript_drawing.specs.declared.stroke.Axis.{Axis}
use Rattle.postscript_drawing.specs.declared.stroke.Axis.TheVariants.{Horizontal, Vertical}
use Rattle.postscript_drawing.specs.Using.{IsDrawn}
use Rattle.postscript_type2.specs.declared.operation.Operator.{Operator}
use Rattle.postscript_type2.specs.declared.operation.Operator.TheVariants.{HStem, VStem, VMoveTo, RLineTo, HLineTo, VLineTo, RRCurveTo, HStemHM, HintMask, CntrMask, RMoveTo, HMoveTo, VStemHM, RCurveLine, RLineCurve, VVCurveTo, HHCurveTo, VHCurveTo, HVCurveTo, HFlex, Flex, HFlex1, Flex1}
use Rattle.postscript_type2.specs.Operation.Kinds.{Kind, Draws, kind}
use Rattle.postscript_type2.specs.Operation.Lengths.{exactly, curves_of_four}
use Rattle.postscript_variable.specs.Sayings.{Phrase}
use Rattle.postscript_instance.specs.Pieces.{IsPath, AreInPieces, nothing, as_it_is, in_pieces}
use Rattle.postscript_instance.specs.Cuts as cuts
use Rattle.postscript_instance.specs.Private as uncut
use Rattle.postscript_instance.specs.Private.{IsHeldOrCut, AreHeldOrCut, HasMoreUncut}
use Rattle.postscript_instance.specs.Cuts.{is_cut, first_operator, first_count, front_of, rest_of, IsTooLong, IsWhole, AreCut}
use Rattle.postscript_instance.specs.Refusals as refusals
use Rattle.postscript_instance.specs.Refusals.{IsHint, HasMore}
use Rattle.postscript_instance.specs.Statics.{bears_width, BearsWidth, Fits}
use Rattle.postscript_instance.specs.Texts.{width_numbers, numbers_of}
use Rattle.postscript_instance.proofs.Sayable.{SayableAs, IsSayable, AreSayable, more}
use Rattle.postscript_instance.proofs.Strokes.{lines-behind, curves-behind, turned-behind, level-behind, aside-level-behind, turning-behind, line-last, curve-last}

parity : (n : ℕ) → (n % 2 ≡ 0) ⊎ (n % 2 ≡ 1)
parity n = grind (arith)

-- level curves: of an odd number the first operand is that of the front
level : (axis : Axis) (xs ys : List ℤ) → length xs ≡ 44 + length (xs ++ ys) % 2 →
    curves_level axis xs ++ curves_level axis ys ≡ curves_level axis (xs ++ ys)
level axis [] ys h = absurd (omega (arith, h))
level axis (d ∷ xs) ys h = by (parity (length (d ∷ xs ++ ys)))
  where
    all : length (xs ++ ys) ≡ length xs + length ys
    all = length-append xs ys

    by : (length (d ∷ xs ++ ys) % 2 ≡ 0) ⊎ (length (d ∷ xs ++ ys) % 2 ≡ 1) →
        curves_level axis (d ∷ xs) ++ curves_level axis ys ≡ curves_level axis (d ∷ xs ++ ys)
    by (inl even) = sym (level-behind axis (d ∷ xs) ys (omega (arith, h, even)) (omega (arith, h, even, all)))
    by (inr odd) = sym (aside-level-behind axis d xs ys (omega (arith, h, odd)) (omega (arith, h, odd)) (omega (arith, h, odd, all)))

-- the two together draw what the whole draws, where the front has so many operands
behind : (op : Operator) (xs ys : List ℤ) → is_cut op ≡ true → length xs ≡ first_count op (length (xs ++ ys)) → 48 < length (xs ++ ys) →
    strokes (first_operator op) xs ++ strokes op ys ≡ strokes op (xs ++ ys)
behind RLineTo xs ys is h long = sym (lines-behind xs ys (omega (arith, h)))
behind HLineTo xs ys is h long = sym (turned-behind Horizontal xs ys (omega (arith, h)))
behind VLineTo xs ys is h long = sym (turned-behind Vertical xs ys (omega (arith, h)))
behind RRCurveTo xs ys is h long = sym (curves-behind xs ys (omega (arith, h)))
behind RCurveLine xs ys is h long = let all = length-append xs ys in sym (line-last xs ys (omega (arith, h)) (omega (arith, h, long, all)))
behind RLineCurve xs ys is h long = let all = length-append xs ys in sym (curve-last xs ys (omega (arith, h)) (omega (arith, h, long, all)))
behind VVCurveTo xs ys is h long = level Vertical xs ys h
behind HHCurveTo xs ys is h long = level Horizontal xs ys h
behind VHCurveTo xs ys is h long =
    let all = length-append xs ys in sym (turning-behind Vertical xs ys (omega (arith, h)) (omega (arith, h, long, all)))
behind HVCurveTo xs ys is h long =
    let all = length-append xs ys in sym (turning-behind Horizontal xs ys (omega (arith, h)) (omega (arith, h, long, all)))
behind op xs ys is h long = absurd (cc)

few-count : (op : Operator) (n : ℕ) → first_count op n ≤ 48
few-count HHCurveTo n = omega arith
few-count VVCurveTo n = omega arith
few-count HVCurveTo n = omega arith
few-count VHCurveTo n = omega arith
few-count RCurveLine n = omega arith
few-count RLineCurve n = omega arith
few-count op n = omega arith

front-long : (op : Operator) (xs : List ℤ) → 48 < length xs → length (take (first_count op (length xs)) xs) ≡ first_count op (length xs)
front-long op xs long = let few = few-count op (length xs) in length-take-le (first_count op (length xs)) xs (omega (arith, few, long))

same-strokes : (op : Operator) (xs : List ℤ) → is_cut op ≡ true → 48 < length xs →
    let n = first_count op (length xs) in strokes (first_operator op) (take n xs) ++ strokes op (drop n xs) ≡ strokes op xs
same-strokes op xs is long =
    let n = first_count op (length xs) in
    let all = take-append-drop n xs in
    behind op (take n xs) (drop n xs) is (front-long op xs long ∙ ap (λ zs. first_count op (length zs)) (sym all))
    (subst (λ zs. 48 < length zs) (sym all) long) ∙ ap (strokes op) all

-- an operator that is cut draws, and so does that of its first piece; neither may have a width before its operands
is-drawn : (op : Operator) → is_cut op ≡ true →
    IsDrawn (kind op) × IsDrawn (kind (first_operator op)) × (bears_width op ≡ false) × (bears_width (first_operator op) ≡ false)
is-drawn RLineTo is = (tt, tt, refl, refl)
is-drawn HLineTo is = (tt, tt, refl, refl)
is-drawn VLineTo is = (tt, tt, refl, refl)
is-drawn RRCurveTo is = (tt, tt, refl, refl)
is-drawn RCurveLine is = (tt, tt, refl, refl)
is-drawn RLineCurve is = (tt, tt, refl, refl)
is-drawn VVCurveTo is = (tt, tt, refl, refl)
is-drawn HHCurveTo is = (tt, tt, refl, refl)
is-drawn VHCurveTo is = (tt, tt, refl, refl)
is-drawn HVCurveTo is = (tt, tt, refl, refl)
is-drawn op is = absurd (cc)

-- each piece has as many operands as its operator takes
abbrev Takes : Kind → ℕ → Type 0
Takes (Draws takes) n = IsTrue (takes n)
Takes kind n = ⊥

fours : (n : ℕ) → 48 < n → IsTrue (curves_of_four n) → IsTrue (curves_of_four (44 + n % 2)) × IsTrue (curves_of_four (n - (44 + n % 2)))
fours n long h = (grind (arith, nat_tests), grind (arith, nat_tests))

both-take : (op : Operator) (n : ℕ) → is_cut op ≡ true → 48 < n → Takes (kind op) n → Takes (kind (first_operator op))
    (first_count op n) × Takes (kind op) (n - first_count op n)
both-take RLineTo n is long h = (refl, grind (arith, nat_tests))
both-take HLineTo n is long h = (refl, grind (arith, nat_tests))
both-take VLineTo n is long h = (refl, grind (arith, nat_tests))
both-take RRCurveTo n is long h = (refl, grind (arith, nat_tests))
both-take RCurveLine n is long h = (refl, grind (arith, nat_tests))
both-take RLineCurve n is long h = (refl, grind (arith, nat_tests))
both-take VVCurveTo n is long h = fours n long h
both-take HHCurveTo n is long h = fours n long h
both-take VHCurveTo n is long h = (refl, grind (arith, nat_tests))
both-take HVCurveTo n is long h = (refl, grind (arith, nat_tests))
both-take op n is long h = absurd (cc)

-- what it is to be sayable, of an operator that draws
sayable-drawn : (k : Kind) (stems after : ℕ) (x : Phrase) → IsDrawn k → SayableAs k stems x after →
    (x.stems ≡ []) × (x.mask ≡ []) × Takes k (length x.operands) × (after ≡ stems)
sayable-drawn (Draws takes) stems after x drawn h = h
sayable-drawn k stems after x drawn h = absurd drawn

drawn-sayable : (k : Kind) (stems : ℕ) (x : Phrase) → IsDrawn k → x.stems ≡ [] → x.mask ≡ [] → Takes k (length x.operands) →
    SayableAs k stems x stems
drawn-sayable (Draws takes) stems x drawn no_stems empty h = (no_stems, empty, h, refl)
drawn-sayable k stems x drawn no_stems empty h = absurd drawn

-- the pieces of what is sayable, of which the second goes on to the same stems
record Pieces (stems next : ℕ) (x : Phrase) : Type 0 where
  whole : IsPath x
  front : IsPath (front_of x)
  rest : IsPath (rest_of x)
  front_said : IsSayable stems (front_of x) stems
  rest_said : IsSayable stems (rest_of x) next

pieces : (stems next : ℕ) (x : Phrase) → IsTooLong x → IsSayable stems x next → Pieces stems next x
pieces stems next x long is =
    let op = x.operator in
    let n = first_count op (length x.operands) in
    let drawn = is-drawn op long.0 in
    let h = sayable-drawn (kind op) stems next x drawn.0 is in
    let each = both-take op (length x.operands) long.0 long.1 h.2 in
    let first = subst (Takes (kind (first_operator op))) (sym (front-long op x.operands long.1)) each.0 in
    let last = subst (Takes (kind op)) (sym (length-drop n x.operands)) each.1 in record {
      whole = (drawn.0, h.0, h.1);
      front = (drawn.1, h.0, refl);
      rest = (drawn.0, refl, h.1);
      front_said = drawn-sayable (kind (first_operator op)) stems (front_of x) drawn.1 h.0 refl first;
      rest_said = subst (IsSayable stems (rest_of x)) (sym h.3) (drawn-sayable (kind op) stems (rest_of x) drawn.0 refl h.1 last);
    }

pub cut-sayable : {says written : List Phrase} → AreCut says written → (stems after : ℕ) → AreSayable stems says after →
    AreSayable stems written after
cut-sayable cuts.none stems after h = h
cut-sayable (cuts.whole x xs written is cut) stems after (more _ next _ _ _ here later) =
    more stems next after x written here (cut-sayable cut next after later)
cut-sayable (cuts.piece x xs written long cut) stems after (more _ next _ _ _ here later) =
    let are = pieces stems next x long here in
    more stems stems after (front_of x) written are.front_said
    (cut-sayable cut stems after (more stems next after (rest_of x) xs are.rest_said later))

-- one piece more before those of the rest
one-more-piece : (x front rest : Phrase) (xs written : List Phrase) → 48 < length x.operands → IsPath x → IsPath front → IsPath rest →
    strokes front.operator front.operands ++ strokes rest.operator rest.operands ≡ strokes x.operator x.operands → AreInPieces
    (rest ∷ xs) written → AreInPieces (x ∷ xs) (front ∷ written)
one-more-piece x front rest xs _ long whole first last same (as_it_is _ _ written later) =
    let here = strokes front.operator front.operands in
    in_pieces x (front ∷ rest ∷ []) xs written long
    (record {
      whole = whole;
      parts = (first, (last, tt));
      same = ap (λ ss. here ++ ss) (append-nil (strokes rest.operator rest.operands)) ∙ same;
    }) later
one-more-piece x front rest xs _ long whole first last same (in_pieces _ parts _ written many is later) =
    let here = strokes front.operator front.operands in
    in_pieces x (front ∷ parts) xs written long
    (record { whole = whole; parts = (first, is.parts); same = ap (λ ss. here ++ ss) is.same ∙ same }) later

pub cut-in-pieces : {says written : List Phrase} → AreCut says written → (stems after : ℕ) → AreSayable stems says after →
    AreInPieces says written
cut-in-pieces cuts.none stems after h = nothing
cut-in-pieces (cuts.whole x xs written is cut) stems after (more _ next _ _ _ here later) =
    as_it_is x xs written (cut-in-pieces cut next after later)
cut-in-pieces (cuts.piece x xs written long cut) stems after (more _ next _ _ _ here later) =
    let are = pieces stems next x long here in
    one-more-piece x (front_of x) (rest_of x) xs written long.1 are.whole are.front are.rest
    (same-strokes x.operator x.operands long.0 long.1)
    (cut-in-pieces cut stems after (more stems next after (rest_of x) xs are.rest_said later))

-- the width is before no piece
no-width : (width : Option ℤ) (x : Phrase) (xs : List Phrase) → is_cut x.operator ≡ true → BearsWidth width (x ∷ xs) → width ≡ None
no-width None x xs is bears = refl
no-width (Some w) x xs is bears = let never = (is-drawn x.operator is).2 in absurd (cc)

pub cut-bears : {says written : List Phrase} (width : Option ℤ) → AreCut says written → BearsWidth width says → BearsWidth width written
cut-bears None cut bears = tt
cut-bears (Some w) cuts.none bears = tt
cut-bears (Some w) (cuts.whole x xs written is cut) bears = bears
cut-bears (Some w) (cuts.piece x xs written long cut) bears = let never = no-width (Some w) x xs long.0 bears in absurd (cc)

-- the numbers before a path operator are its operands
alone-before : (width : Option ℤ) (x : Phrase) → width ≡ None → x.stems ≡ [] → numbers_of width x ≡ x.operands
alone-before width x no_width no_stems =
    ap (λ w. width_numbers w ++ (x.stems ++ x.operands)) no_width ∙ ap (λ ss. ss ++ x.operands) no_stems

held-in : (stems next : ℕ) (width : Option ℤ) (x : Phrase) (xs : List Phrase) → IsWhole x → IsSayable stems x next → IsHeldOrCut width x →
    BearsWidth width (x ∷ xs) → length (numbers_of width x) ≤ 48
held-in stems next width x xs whole here (inr few) bears = few
held-in stems next width x xs (inl never) here (inl is) bears = absurd (cc)
held-in stems next width x xs (inr few) here (inl is) bears =
    let h = sayable-drawn (kind x.operator) stems next x (is-drawn x.operator is).0 here in
    subst (λ nums. length nums ≤ 48) (sym (alone-before width x (no-width width x xs is bears) h.0)) few

pub cut-fits : {says written : List Phrase} → AreCut says written → (stems after : ℕ) (width : Option ℤ) → AreSayable stems says after →
    AreHeldOrCut width says → BearsWidth width says → Fits width written
cut-fits cuts.none stems after width h held bears = tt
cut-fits (cuts.whole x xs written is cut) stems after width (more _ next _ _ _ here later) held bears =
    (held-in stems next width x xs is here held.0 bears, cut-fits cut next after None later held.1 tt)
cut-fits (cuts.piece x xs written long cut) stems after width (more _ next _ _ _ here later) held bears =
    let are = pieces stems next x long here in
    let few = few-count x.operator (length x.operands) in
    let front = front-long x.operator x.operands long.1 in
    let fits : length (front_of x).operands ≤ 48 = omega (arith, few, front) in (
      subst (λ nums. length nums ≤ 48) (sym (alone-before width (front_of x) (no-width width x xs long.0 bears) are.front.1)) fits,
      cut-fits cut stems after None (more stems next after (rest_of x) xs are.rest_said later) (inl long.0, held.1) tt,
    )

-- what is not cut and has more than a stack holds is a hint: a move or a flex has thirteen operands at most
few-drawn : (m : ℕ) (width : Option ℤ) (x : Phrase) → m ≤ 13 → x.stems ≡ [] → IsTrue (exactly m (length x.operands)) →
    48 < length (numbers_of width x) → ⊥
few-drawn m width x low no_stems is many =
    let same : length x.operands ≡ m = exact m (length x.operands) is in
    let one = width-few width in
    let all : length (numbers_of width x) ≡ length (width_numbers width) + length x.operands =
    length-append (width_numbers width) (x.stems ++ x.operands)
    ∙ ap (λ ss. length (width_numbers width) + length (ss ++ x.operands)) no_stems in
    omega (arith, low, same, one, all, many)
  where
    exact : (m n : ℕ) → IsTrue (exactly m n) → n ≡ m
    exact m n is = grind (arith, nat_tests)

    width-few : (width : Option ℤ) → length (width_numbers width) < 2
    width-few None = omega arith
    width-few (Some w) = omega arith

is-hint : (op : Operator) (stems next : ℕ) (width : Option ℤ) (x : Phrase) → is_cut op ≡ false → SayableAs (kind op) stems x next →
    48 < length (numbers_of width x) → IsHint (kind op)
is-hint HStem stems next width x uncut h many = tt
is-hint VStem stems next width x uncut h many = tt
is-hint HStemHM stems next width x uncut h many = tt
is-hint VStemHM stems next width x uncut h many = tt
is-hint HintMask stems next width x uncut h many = tt
is-hint CntrMask stems next width x uncut h many = tt
is-hint RMoveTo stems next width x uncut h many = absurd (few-drawn 2 width x (omega arith) h.0 h.2 many)
is-hint HMoveTo stems next width x uncut h many = absurd (few-drawn 1 width x (omega arith) h.0 h.2 many)
is-hint VMoveTo stems next width x uncut h many = absurd (few-drawn 1 width x (omega arith) h.0 h.2 many)
is-hint Flex stems next width x uncut h many = absurd (few-drawn 13 width x (omega arith) h.0 h.2 many)
is-hint HFlex stems next width x uncut h many = absurd (few-drawn 7 width x (omega arith) h.0 h.2 many)
is-hint HFlex1 stems next width x uncut h many = absurd (few-drawn 9 width x (omega arith) h.0 h.2 many)
is-hint Flex1 stems next width x uncut h many = absurd (few-drawn 11 width x (omega arith) h.0 h.2 many)
is-hint RLineTo stems next width x uncut h many = absurd (cc)
is-hint HLineTo stems next width x uncut h many = absurd (cc)
is-hint VLineTo stems next width x uncut h many = absurd (cc)
is-hint RRCurveTo stems next width x uncut h many = absurd (cc)
is-hint RCurveLine stems next width x uncut h many = absurd (cc)
is-hint RLineCurve stems next width x uncut h many = absurd (cc)
is-hint VVCurveTo stems next width x uncut h many = absurd (cc)
is-hint HHCurveTo stems next width x uncut h many = absurd (cc)
is-hint VHCurveTo stems next width x uncut h many = absurd (cc)
is-hint HVCurveTo stems next width x uncut h many = absurd (cc)
is-hint op stems next width x uncut h many = absurd h

pub hints-more : {width : Option ℤ} {says : List Phrase} → HasMoreUncut width says → (stems after : ℕ) → AreSayable stems says after →
    HasMore width says
hints-more (uncut.here width x xs uncut many) stems after (more _ next _ _ _ here later) =
    refusals.here width x xs (is-hint x.operator stems next width x uncut here many) many
hints-more (uncut.later width x xs rest) stems after (more _ next _ _ _ here later) =
    refusals.later width x xs (hints-more rest next after later)
