-- The operands, read off the strokes again.
use Rattle.std.proofs.lemmas.Bool.{eqb-true, ltb-true}
use Rattle.std.proofs.lemmas.Grind.{flat_map-append}
use Rattle.std.proofs.lemmas.List.{length-take-le, take-append-drop}
use Rattle.std.proofs.Math.Nat.{add-mod_left}
use Rattle.std.proofs.Common.{◌≡◌, ◌+ℤ◌, neg_ℤ, nat_abs, ℕ, zero, suc, ◌+◌, ◌-◌, ◌%◌, ◌==◌, ◌<◌, ◌&&◌, ◌||◌, ◌⊎◌, inl, inr, Bool, true, false, nat_lt, ℤ, pos, List, [], ◌∷◌, ◌++◌, length, take, drop, Some, None, arith, refl, sym, subst, ap, ◌∙◌, if◌then◌else◌, length-drop}
use Rattle.std.specs.List.{flat_map}
use Rattle.postscript_drawing.specs.declared.stroke.Axis.{Axis}
use Rattle.postscript_drawing.specs.declared.stroke.Axis.TheVariants.{Horizontal, Vertical}
use Rattle.postscript_drawing.specs.declared.stroke.Stroke.{Stroke}
use Rattle.postscript_drawing.specs.declared.stroke.Stroke.TheVariants.{Move, Line, Curve}
use Rattle.postscript_drawing.specs.declared.stroke.Vector.{Vector}
use Rattle.postscript_drawing.specs.Strokes.{aside, back, by, flex, flex1, hflex, hflex1, lines, lines_in_turn, curves, curves_along, curves_level, curves_in_turn, curves_then_line, lines_then_curve, move, move_along, other}
use Rattle.postscript_drawing.specs.Using.{StrokesUseOperands}
use Rattle.postscript_type2.specs.declared.operation.Operator.TheVariants.{HStem, VStem, VMoveTo, RLineTo, HLineTo, VLineTo, RRCurveTo, CallSubr, Return, EndChar, HStemHM, HintMask, CntrMask, RMoveTo, HMoveTo, VStemHM, RCurveLine, RLineCurve, VVCurveTo, HHCurveTo, CallGSubr, VHCurveTo, HVCurveTo, And, Or, Not, Abs, Add, Sub, Div, Neg, Eq, Drop, Put, Get, IfElse, Random, Mul, Sqrt, Dup, Exch, Index, Roll, HFlex, Flex, HFlex1, Flex1}
use Rattle.postscript_type2.specs.Operation.Lengths.{curves_of_four, exactly, greatest, groups, groups_and, some}

-- tests that pass

passes : (test : ℕ → Bool) (n m : ℕ) → greatest test n ≡ Some m → test m ≡ true
passes test zero m is = by_test (test 0) refl is
  where
    by_test : (b : Bool) → test 0 ≡ b → (if b then Some 0 else None) ≡ Some m → test m ≡ true
    by_test true at e = let z : 0 ≡ m = cc in subst (λ k. test k ≡ true) z at
    by_test false at e = cc
passes test (suc n) m is = by_test (test (suc n)) refl (passes test n m) is
  where
    by_test : (b : Bool) → test (suc n) ≡ b → (greatest test n ≡ Some m → test m ≡ true) →
        (if b then Some (suc n) else greatest test n) ≡ Some m → test m ≡ true
    by_test true at lower e = let z : suc n ≡ m = cc in subst (λ k. test k ≡ true) z at
    by_test false at lower e = lower e

both : (a b : Bool) → a && b ≡ true → (a ≡ true) × (b ≡ true)
both true b is = (refl, is)
both false b is = cc

either : (a b : Bool) → a || b ≡ true → (a ≡ true) ⊎ (b ≡ true)
either true b is = inl refl
either false b is = inr is

-- so many more than whole groups
in-groups : (k m n : ℕ) → groups_and k m n ≡ true → (nat_lt m n ≡ true) × ((n - m) % k ≡ 0)
in-groups k m n is = let parts = both (nat_lt m n) ((n - m) % k == 0) is in (parts.0, eqb-true ((n - m) % k) 0 parts.1)

none-less : (n : ℕ) → n ≡ n - 0
none-less n = omega arith

fewer : (k n m r : ℕ) → m ≡ k + n → m % k ≡ r → n % k ≡ r
fewer k n m r same h = sym (add-mod_left k n) ∙ ap (λ v. v % k) (sym same) ∙ h

-- strokes of whole vectors

spelled : Stroke → List ℤ
spelled (Move v) = v.dx ∷ v.dy ∷ []
spelled (Line v) = v.dx ∷ v.dy ∷ []
spelled (Curve a b c) = a.dx ∷ a.dy ∷ b.dx ∷ b.dy ∷ c.dx ∷ c.dy ∷ []

pub told : List Stroke → List ℤ
unfolding spelled
told strokes = flat_map spelled strokes

pub lines-told : (xs : List ℤ) → length xs % 2 ≡ 0 → told (lines xs) ≡ xs
unfolding told spelled
lines-told [] even = refl
lines-told (a ∷ []) even = cc
lines-told (a ∷ b ∷ rest) even = ap (λ v. a ∷ b ∷ v) (lines-told rest (fewer 2 (length rest) _ 0 (omega arith) even))

pub curves-told : (xs : List ℤ) → length xs % 6 ≡ 0 → told (curves xs) ≡ xs
unfolding told spelled
curves-told [] six = refl
curves-told (a ∷ []) six = cc
curves-told (a ∷ b ∷ []) six = cc
curves-told (a ∷ b ∷ c ∷ []) six = cc
curves-told (a ∷ b ∷ c ∷ d ∷ []) six = cc
curves-told (a ∷ b ∷ c ∷ d ∷ e ∷ []) six = cc
curves-told (a ∷ b ∷ c ∷ d ∷ e ∷ f ∷ rest) six =
    ap (λ v. a ∷ b ∷ c ∷ d ∷ e ∷ f ∷ v) (curves-told rest (fewer 6 (length rest) _ 0 (omega arith) six))

told-both : (ss ts : List Stroke) (xs : List ℤ) (n : ℕ) → told ss ≡ take n xs → told ts ≡ drop n xs → told (ss ++ ts) ≡ xs
unfolding told
told-both ss ts xs n h k = flat_map-append spelled ss ts ∙ ap (λ v. v ++ told ts) h ∙ ap (λ v. take n xs ++ v) k ∙ take-append-drop n xs

-- strokes along axes

pub part : Axis → Vector → ℤ
part Horizontal v = v.dx
part Vertical v = v.dy

part-aside : (axis : Axis) (d off : ℤ) → part axis (aside axis d off) ≡ d
unfolding part
part-aside Horizontal d off = refl
part-aside Vertical d off = refl

part-off : (axis : Axis) (d off : ℤ) → part (other axis) (aside axis d off) ≡ off
unfolding part
part-off Horizontal d off = refl
part-off Vertical d off = refl

part-other : (axis : Axis) (d off : ℤ) → part axis (aside (other axis) d off) ≡ off
unfolding part
part-other Horizontal d off = refl
part-other Vertical d off = refl

moved : Axis → List Stroke → List ℤ
moved axis (Move v ∷ []) = part axis v ∷ []
moved axis ss = []

in_turn : Axis → List Stroke → List ℤ
in_turn axis (Line v ∷ ss) = part axis v ∷ in_turn (other axis) ss
in_turn axis ss = []

in_turn-told : (axis : Axis) (xs : List ℤ) → in_turn axis (lines_in_turn axis xs) ≡ xs
unfolding in_turn
in_turn-told axis [] = refl
in_turn-told axis (a ∷ rest) =
    ap (λ v. v ∷ in_turn (other axis) (lines_in_turn (other axis) rest)) (part-aside axis a (pos 0))
    ∙ ap (λ v. a ∷ v) (in_turn-told (other axis) rest)

four : (a b c d a' d' : ℤ) (r r' : List ℤ) → a' ≡ a → d' ≡ d → r' ≡ r → a' ∷ b ∷ c ∷ d' ∷ r' ≡ a ∷ b ∷ c ∷ d ∷ r
four a b c d a' d' r r' h k l = cc

all_along : Axis → List Stroke → List ℤ
all_along axis (Curve a b c ∷ ss) = part axis a ∷ b.dx ∷ b.dy ∷ part axis c ∷ all_along axis ss
all_along axis ss = []

begins_aside : Axis → List Stroke → ℤ
begins_aside axis (Curve a b c ∷ ss) = part (other axis) a
begins_aside axis ss = pos 0

along-told : (axis : Axis) (first : ℤ) (xs : List ℤ) → length xs % 4 ≡ 0 → all_along axis (curves_along axis first xs) ≡ xs
unfolding all_along
along-told axis first [] fours = refl
along-told axis first (a ∷ []) fours = cc
along-told axis first (a ∷ b ∷ []) fours = cc
along-told axis first (a ∷ b ∷ c ∷ []) fours = cc
along-told axis first (a ∷ b ∷ c ∷ d ∷ rest) fours =
    four a b c d _ _ rest _ (part-aside axis a first) (part-aside axis d (pos 0))
    (along-told axis (pos 0) rest (fewer 4 (length rest) _ 0 (omega arith) fours))

turned : Axis → List Stroke → List ℤ
turned axis (Curve a b c ∷ ss) = part axis a ∷ b.dx ∷ b.dy ∷ part (other axis) c ∷ turned (other axis) ss
turned axis ss = []

turned-told : (axis : Axis) (xs : List ℤ) → length xs % 4 ≡ 0 → turned axis (curves_in_turn axis xs) ≡ xs
unfolding turned
turned-told axis [] fours = refl
turned-told axis (a ∷ []) fours = cc
turned-told axis (a ∷ b ∷ []) fours = cc
turned-told axis (a ∷ b ∷ c ∷ []) fours = cc
turned-told axis (a ∷ b ∷ c ∷ d ∷ rest) fours =
    four a b c d _ _ rest _ (part-aside axis a (pos 0)) (part-aside (other axis) d _)
    (turned-told (other axis) rest (fewer 4 (length rest) _ 0 (omega arith) fours))

turned_off : Axis → List Stroke → List ℤ
turned_off axis (Curve a b c ∷ []) = part axis a ∷ b.dx ∷ b.dy ∷ part (other axis) c ∷ part axis c ∷ []
turned_off axis (Curve a b c ∷ s ∷ ss) = part axis a ∷ b.dx ∷ b.dy ∷ part (other axis) c ∷ turned_off (other axis) (s ∷ ss)
turned_off axis ss = []

turned_off-told : (axis : Axis) (a b c d e : ℤ) (rest : List ℤ) → length rest % 4 ≡ 0 →
    turned_off axis (curves_in_turn axis (a ∷ b ∷ c ∷ d ∷ e ∷ rest)) ≡ a ∷ b ∷ c ∷ d ∷ e ∷ rest
unfolding turned_off
turned_off-told axis a b c d e [] fours =
    four a b c d _ _ (e ∷ []) _ (part-aside axis a (pos 0)) (part-aside (other axis) d e) (ap (λ v. v ∷ []) (part-other axis d e))
turned_off-told axis a b c d e (f ∷ []) fours = cc
turned_off-told axis a b c d e (f ∷ g ∷ []) fours = cc
turned_off-told axis a b c d e (f ∷ g ∷ h ∷ []) fours = cc
turned_off-told axis a b c d e (f ∷ g ∷ h ∷ i ∷ rest) fours =
    four a b c d _ _ (e ∷ f ∷ g ∷ h ∷ i ∷ rest) _ (part-aside axis a (pos 0)) (part-aside (other axis) d (pos 0))
    (turned_off-told (other axis) e f g h i rest (fewer 4 (length rest) _ 0 (omega arith) fours))

-- lists of so many operands

Each : ℕ → (List ℤ → Type 0) → Type 0
Each zero P = P []
Each (suc n) P = (x : ℤ) → Each n (λ xs. P (x ∷ xs))

each : (n : ℕ) (P : List ℤ → Type 0) → Each n P → (xs : List ℤ) → length xs ≡ n → P xs
unfolding Each
each zero P h [] is = h
each zero P h (x ∷ xs) is = cc
each (suc n) P h [] is = cc
each (suc n) P h (x ∷ xs) is = each n (λ xs. P (x ∷ xs)) (h x) xs (omega (arith, is))

-- flexes

low : List Stroke → List ℤ
low (Curve a b c ∷ Curve d e f ∷ []) = a.dx ∷ b.dx ∷ b.dy ∷ c.dx ∷ d.dx ∷ e.dx ∷ f.dx ∷ []
low ss = []

rising : List Stroke → List ℤ
rising (Curve a b c ∷ Curve d e f ∷ []) = a.dx ∷ a.dy ∷ b.dx ∷ b.dy ∷ c.dx ∷ d.dx ∷ e.dx ∷ e.dy ∷ f.dx ∷ []
rising ss = []

-- what is told by the last vector, behind those with this sum
last : (dx dy : ℤ) → Vector → ℤ
last dx dy v = if nat_lt (nat_abs dy) (nat_abs dx) then v.dx else v.dy

last-told : (dx dy d6 : ℤ) → last dx dy (back dx dy d6) ≡ d6
unfolding last
last-told dx dy d6 = by_test (nat_lt (nat_abs dy) (nat_abs dx)) (by d6 (neg_ℤ dy)) (by (neg_ℤ dx) d6) refl refl
  where
    by_test : (b : Bool) (v w : Vector) → v.dx ≡ d6 → w.dy ≡ d6 → (if b then (if b then v else w).dx else (if b then v else w).dy) ≡ d6
    by_test true v w h k = h
    by_test false v w h k = k

turning : List Stroke → List ℤ
turning (Curve a b c ∷ Curve d e f ∷ []) =
    a.dx ∷ a.dy ∷ b.dx ∷ b.dy ∷ c.dx ∷ c.dy ∷ d.dx ∷ d.dy ∷ e.dx ∷ e.dy ∷ last (a.dx +ℤ b.dx +ℤ c.dx +ℤ d.dx +ℤ e.dx)
    (a.dy +ℤ b.dy +ℤ c.dy +ℤ d.dy +ℤ e.dy) f ∷ []
turning ss = []

-- what is read off strokes, of so many operands, where the test passes

Reads : (ℕ → Bool) → (List ℤ → List Stroke) → (List ℤ → List ℤ) → (ℕ → List Stroke → List ℤ) → Type 0
Reads test f of read = (xs : List ℤ) → test (length xs) ≡ true → read (length xs) (f xs) ≡ of xs

whole : List ℤ → List ℤ
whole xs = xs

same-operands : (test : ℕ → Bool) (f : List ℤ → List Stroke) (of : List ℤ → List ℤ) (read : ℕ → List Stroke → List ℤ) → Reads test f of read
    → (xs ys : List ℤ) → greatest test (length xs) ≡ Some (length xs) → length xs ≡ length ys → f xs ≡ f ys → of xs ≡ of ys
unfolding Reads
same-operands test f of read reads xs ys fits as_many same =
    let first = passes test (length xs) (length xs) fits in
    let second = subst (λ n. test n ≡ true) as_many first in
    sym (reads xs first) ∙ ap (read (length xs)) same ∙ ap (λ n. read n (f ys)) as_many ∙ reads ys second

exactly-reads : (n : ℕ) (f : List ℤ → List Stroke) (of : List ℤ → List ℤ) (read : List Stroke → List ℤ) →
    Each n (λ xs. read (f xs) ≡ of xs) → Reads (exactly n) f of (λ _. read)
unfolding Reads
exactly-reads n f of read h xs is = each n (λ xs. read (f xs) ≡ of xs) h xs (eqb-true (length xs) n is)

move-reads : Reads (exactly 2) move whole (λ _. told)
unfolding told spelled Each whole
move-reads = exactly-reads 2 move whole told (λ a b. refl)

move_along-reads : (axis : Axis) → Reads (exactly 1) (move_along axis) whole (λ _. moved axis)
unfolding moved Each whole
move_along-reads axis = exactly-reads 1 (move_along axis) whole (moved axis) (λ a. ap (λ v. v ∷ []) (part-aside axis a (pos 0)))

flex-reads : Reads (exactly 13) flex (take 12) (λ _. told)
unfolding told spelled Each
flex-reads = exactly-reads 13 flex (take 12) told (λ a b c d e f g h i j k l m. refl)

hflex-reads : Reads (exactly 7) hflex whole (λ _. low)
unfolding low Each whole
hflex-reads = exactly-reads 7 hflex whole low (λ a b c d e f g. refl)

hflex1-reads : Reads (exactly 9) hflex1 whole (λ _. rising)
unfolding rising Each whole
hflex1-reads = exactly-reads 9 hflex1 whole rising (λ a b c d e f g h i. refl)

flex1-reads : Reads (exactly 11) flex1 whole (λ _. turning)
unfolding turning Each whole
flex1-reads = exactly-reads 11 flex1 whole turning (λ a b c d e f g h i j k.
    ap (λ v. a ∷ b ∷ c ∷ d ∷ e ∷ f ∷ g ∷ h ∷ i ∷ j ∷ v ∷ []) (last-told (a +ℤ c +ℤ e +ℤ g +ℤ i) (b +ℤ d +ℤ f +ℤ h +ℤ j) k))

lines-reads : Reads (groups 2) lines whole (λ _. told)
unfolding Reads whole
lines-reads xs is = lines-told xs (ap (λ n. n % 2) (none-less (length xs)) ∙ (in-groups 2 0 (length xs) is).1)

curves-reads : Reads (groups 6) curves whole (λ _. told)
unfolding Reads whole
curves-reads xs is = curves-told xs (ap (λ n. n % 6) (none-less (length xs)) ∙ (in-groups 6 0 (length xs) is).1)

in_turn-reads : (axis : Axis) → Reads some (lines_in_turn axis) whole (λ _. in_turn axis)
unfolding Reads whole
in_turn-reads axis xs is = in_turn-told axis xs

below : (m n : ℕ) → nat_lt m n ≡ true → m < n
below m n is = ltb-true m n is

front-length : (m : ℕ) (xs : List ℤ) → length (take (length xs - m) xs) ≡ length xs - m
front-length m xs = length-take-le (length xs - m) xs (omega arith)

back-length : (m : ℕ) (xs : List ℤ) → nat_lt m (length xs) ≡ true → length (drop (length xs - m) xs) ≡ m
back-length m xs is = length-drop (length xs - m) xs ∙ omega (arith, below m (length xs) is)

curves_then_line-reads : Reads (groups_and 6 2) curves_then_line whole (λ _. told)
unfolding Reads whole
curves_then_line-reads xs is =
    let parts = in-groups 6 2 (length xs) is in
    let n = length xs - 2 in
    told-both (curves (take n xs)) (lines (drop n xs)) xs n
    (curves-told (take n xs) (ap (λ v. v % 6) (front-length 2 xs) ∙ parts.1))
    (lines-told (drop n xs) (ap (λ v. v % 2) (back-length 2 xs parts.0)))

lines_then_curve-reads : Reads (groups_and 2 6) lines_then_curve whole (λ _. told)
unfolding Reads whole
lines_then_curve-reads xs is =
    let parts = in-groups 2 6 (length xs) is in
    let n = length xs - 6 in
    told-both (lines (take n xs)) (curves (drop n xs)) xs n
    (lines-told (take n xs) (ap (λ v. v % 2) (front-length 6 xs) ∙ parts.1))
    (curves-told (drop n xs) (ap (λ v. v % 6) (back-length 6 xs parts.0)))

-- curves of four, by whether an operand stands beside them

is_odd : ℕ → Bool
is_odd n = n % 2 == 1

level : Axis → ℕ → List Stroke → List ℤ
level axis n ss = if is_odd n then begins_aside axis ss ∷ all_along axis ss else all_along axis ss

turns : Axis → ℕ → List Stroke → List ℤ
turns axis n ss = if is_odd n then turned_off axis ss else turned axis ss

-- one operand more than whole curves, or none

odd-one : (n : ℕ) → nat_lt 1 n ≡ true → (n - 1) % 4 ≡ 0 → n % 2 ≡ 1
odd-one n more h = let m = below 1 n more in omega (arith, m, h)

even-four : (n : ℕ) → (n - 0) % 4 ≡ 0 → n % 2 ≡ 0
even-four n h = omega (arith, h)

along-reads : (axis : Axis) (xs : List ℤ) → length xs % 4 ≡ 0 → nat_lt 0 (length xs) ≡ true → all_along axis (curves_level axis xs) ≡ xs
unfolding all_along
along-reads axis [] fours more = refl
along-reads axis (d ∷ rest) fours more = by_test (length rest % 2 == 0) refl
  where
    by_test : (b : Bool) → (length rest % 2 == 0) ≡ b →
        all_along axis (if b then curves_along axis d rest else curves_along axis (pos 0) (d ∷ rest)) ≡ d ∷ rest
    by_test true is =
        let even = eqb-true (length rest % 2) 0 is in
        let none : ⊥ = omega (arith, even, fours) in
        absurd none
    by_test false is = along-told axis (pos 0) (d ∷ rest) fours

begins-told : (axis : Axis) (d : ℤ) (rest : List ℤ) → length rest % 4 ≡ 0 → 0 < length rest →
    begins_aside axis (curves_along axis d rest) ≡ d
unfolding begins_aside
begins-told axis d [] fours more = let none : ⊥ = omega (arith, more) in absurd none
begins-told axis d (a ∷ []) fours more = cc
begins-told axis d (a ∷ b ∷ []) fours more = cc
begins-told axis d (a ∷ b ∷ c ∷ []) fours more = cc
begins-told axis d (a ∷ b ∷ c ∷ e ∷ rest) fours more = part-off axis a d

first-reads : (axis : Axis) (d : ℤ) (rest : List ℤ) → length rest % 4 ≡ 0 → 0 < length rest →
    begins_aside axis (curves_level axis (d ∷ rest)) ∷ all_along axis (curves_level axis (d ∷ rest)) ≡ d ∷ rest
first-reads axis d rest fours more =
    let even : length rest % 2 ≡ 0 = omega (arith, fours) in
    by_test (length rest % 2 == 0) (ap (λ v. v == 0) even)
  where
    by_test : (b : Bool) → b ≡ true →
        let ss : List Stroke = if b then curves_along axis d rest else curves_along axis (pos 0) (d ∷ rest) in
        begins_aside axis ss ∷ all_along axis ss ≡ d ∷ rest
    by_test true is =
        ap (λ v. v ∷ all_along axis (curves_along axis d rest)) (begins-told axis d rest fours more)
        ∙ ap (λ v. d ∷ v) (along-told axis d rest fours)
    by_test false is = cc

odd-test : (n : ℕ) → n % 2 ≡ 1 → is_odd n ≡ true
unfolding is_odd
odd-test n h = ap (λ v. v == 1) h

even-test : (n : ℕ) → n % 2 ≡ 0 → is_odd n ≡ false
unfolding is_odd
even-test n h = ap (λ v. v == 1) h

odd-level : (axis : Axis) (xs : List ℤ) → 1 < length xs → (length xs - 1) % 4 ≡ 0 →
    begins_aside axis (curves_level axis xs) ∷ all_along axis (curves_level axis xs) ≡ xs
odd-level axis [] more fours = let none : ⊥ = omega (arith, more) in absurd none
odd-level axis (d ∷ rest) more fours = first-reads axis d rest (omega (arith, more, fours)) (omega (arith, more))

level-reads : (axis : Axis) → Reads curves_of_four (curves_level axis) whole (level axis)
unfolding Reads whole level
level-reads axis xs is = by_form (either (groups 4 (length xs)) (groups_and 4 1 (length xs)) is)
  where
    by_form : (groups 4 (length xs) ≡ true) ⊎ (groups_and 4 1 (length xs) ≡ true) → level axis (length xs) (curves_level axis xs) ≡ xs
    by_form (inl form) =
        let parts = in-groups 4 0 (length xs) form in
        let ss = curves_level axis xs in
        ap (λ b. if b then begins_aside axis ss ∷ all_along axis ss else all_along axis ss)
        (even-test (length xs) (even-four (length xs) parts.1))
        ∙ along-reads axis xs (ap (λ n. n % 4) (none-less (length xs)) ∙ parts.1) parts.0
    by_form (inr form) =
        let parts = in-groups 4 1 (length xs) form in
        let ss = curves_level axis xs in
        ap (λ b. if b then begins_aside axis ss ∷ all_along axis ss else all_along axis ss)
        (odd-test (length xs) (odd-one (length xs) parts.0 parts.1))
        ∙ odd-level axis xs (below 1 (length xs) parts.0) parts.1

odd-turns : (axis : Axis) (xs : List ℤ) → 1 < length xs → (length xs - 1) % 4 ≡ 0 → turned_off axis (curves_in_turn axis xs) ≡ xs
odd-turns axis [] more fours = let none : ⊥ = omega (arith, more) in absurd none
odd-turns axis (a ∷ []) more fours = let none : ⊥ = omega (arith, more) in absurd none
odd-turns axis (a ∷ b ∷ []) more fours = let none : ⊥ = omega (arith, fours) in absurd none
odd-turns axis (a ∷ b ∷ c ∷ []) more fours = let none : ⊥ = omega (arith, fours) in absurd none
odd-turns axis (a ∷ b ∷ c ∷ d ∷ []) more fours = let none : ⊥ = omega (arith, fours) in absurd none
odd-turns axis (a ∷ b ∷ c ∷ d ∷ e ∷ rest) more fours = turned_off-told axis a b c d e rest (omega (arith, fours))

turns-reads : (axis : Axis) → Reads curves_of_four (curves_in_turn axis) whole (turns axis)
unfolding Reads whole turns
turns-reads axis xs is = by_form (either (groups 4 (length xs)) (groups_and 4 1 (length xs)) is)
  where
    by_form : (groups 4 (length xs) ≡ true) ⊎ (groups_and 4 1 (length xs) ≡ true) → turns axis (length xs) (curves_in_turn axis xs) ≡ xs
    by_form (inl form) =
        let parts = in-groups 4 0 (length xs) form in
        let ss = curves_in_turn axis xs in
        ap (λ b. if b then turned_off axis ss else turned axis ss) (even-test (length xs) (even-four (length xs) parts.1))
        ∙ turned-told axis xs (ap (λ n. n % 4) (none-less (length xs)) ∙ parts.1)
    by_form (inr form) =
        let parts = in-groups 4 1 (length xs) form in
        let ss = curves_in_turn axis xs in
        ap (λ b. if b then turned_off axis ss else turned axis ss) (odd-test (length xs) (odd-one (length xs) parts.0 parts.1))
        ∙ odd-turns axis xs (below 1 (length xs) parts.0) parts.1

use-kind : (takes : ℕ → Bool) (f : List ℤ → List Stroke) (read : ℕ → List Stroke → List ℤ) → Reads takes f whole read
    → (xs ys : List ℤ) → greatest takes (length xs) ≡ Some (length xs) → length xs ≡ length ys → f xs ≡ f ys → xs ≡ ys
unfolding whole
use-kind takes f read reads xs ys fits as_many same = same-operands takes f whole read reads xs ys fits as_many same

pub strokes-use-operands : StrokesUseOperands
strokes-use-operands RMoveTo xs ys d fits as_many same = use-kind _ _ _ move-reads xs ys fits as_many same
strokes-use-operands HMoveTo xs ys d fits as_many same = use-kind _ _ _ (move_along-reads Horizontal) xs ys fits as_many same
strokes-use-operands VMoveTo xs ys d fits as_many same = use-kind _ _ _ (move_along-reads Vertical) xs ys fits as_many same
strokes-use-operands RLineTo xs ys d fits as_many same = use-kind _ _ _ lines-reads xs ys fits as_many same
strokes-use-operands HLineTo xs ys d fits as_many same = use-kind _ _ _ (in_turn-reads Horizontal) xs ys fits as_many same
strokes-use-operands VLineTo xs ys d fits as_many same = use-kind _ _ _ (in_turn-reads Vertical) xs ys fits as_many same
strokes-use-operands RRCurveTo xs ys d fits as_many same = use-kind _ _ _ curves-reads xs ys fits as_many same
strokes-use-operands HHCurveTo xs ys d fits as_many same = use-kind _ _ _ (level-reads Horizontal) xs ys fits as_many same
strokes-use-operands VVCurveTo xs ys d fits as_many same = use-kind _ _ _ (level-reads Vertical) xs ys fits as_many same
strokes-use-operands HVCurveTo xs ys d fits as_many same = use-kind _ _ _ (turns-reads Horizontal) xs ys fits as_many same
strokes-use-operands VHCurveTo xs ys d fits as_many same = use-kind _ _ _ (turns-reads Vertical) xs ys fits as_many same
strokes-use-operands RCurveLine xs ys d fits as_many same = use-kind _ _ _ curves_then_line-reads xs ys fits as_many same
strokes-use-operands RLineCurve xs ys d fits as_many same = use-kind _ _ _ lines_then_curve-reads xs ys fits as_many same
strokes-use-operands Flex xs ys d fits as_many same = same-operands (exactly 13) flex (take 12) _ flex-reads xs ys fits as_many same
strokes-use-operands HFlex xs ys d fits as_many same = use-kind _ _ _ hflex-reads xs ys fits as_many same
strokes-use-operands HFlex1 xs ys d fits as_many same = use-kind _ _ _ hflex1-reads xs ys fits as_many same
strokes-use-operands Flex1 xs ys d fits as_many same = use-kind _ _ _ flex1-reads xs ys fits as_many same
strokes-use-operands HStem xs ys d fits as_many same = absurd d
strokes-use-operands VStem xs ys d fits as_many same = absurd d
strokes-use-operands HStemHM xs ys d fits as_many same = absurd d
strokes-use-operands VStemHM xs ys d fits as_many same = absurd d
strokes-use-operands HintMask xs ys d fits as_many same = absurd d
strokes-use-operands CntrMask xs ys d fits as_many same = absurd d
strokes-use-operands CallSubr xs ys d fits as_many same = absurd d
strokes-use-operands CallGSubr xs ys d fits as_many same = absurd d
strokes-use-operands Return xs ys d fits as_many same = absurd d
strokes-use-operands EndChar xs ys d fits as_many same = absurd d
strokes-use-operands Abs xs ys d fits as_many same = absurd d
strokes-use-operands Neg xs ys d fits as_many same = absurd d
strokes-use-operands Sqrt xs ys d fits as_many same = absurd d
strokes-use-operands Not xs ys d fits as_many same = absurd d
strokes-use-operands Add xs ys d fits as_many same = absurd d
strokes-use-operands Sub xs ys d fits as_many same = absurd d
strokes-use-operands Mul xs ys d fits as_many same = absurd d
strokes-use-operands Div xs ys d fits as_many same = absurd d
strokes-use-operands And xs ys d fits as_many same = absurd d
strokes-use-operands Or xs ys d fits as_many same = absurd d
strokes-use-operands Eq xs ys d fits as_many same = absurd d
strokes-use-operands IfElse xs ys d fits as_many same = absurd d
strokes-use-operands Drop xs ys d fits as_many same = absurd d
strokes-use-operands Exch xs ys d fits as_many same = absurd d
strokes-use-operands Dup xs ys d fits as_many same = absurd d
strokes-use-operands Index xs ys d fits as_many same = absurd d
strokes-use-operands Roll xs ys d fits as_many same = absurd d
strokes-use-operands Put xs ys d fits as_many same = absurd d
strokes-use-operands Get xs ys d fits as_many same = absurd d
strokes-use-operands Random xs ys d fits as_many same = absurd d
