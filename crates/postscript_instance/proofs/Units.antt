-- Operands that go along axes in whole units draw the strokes in whole units.
use Rattle.std.proofs.Common.{◌≡◌, refl, ap, sym, subst, ◌∙◌, ℕ, ◌+◌, ◌-◌, ◌%◌, ◌<◌, ◌≤◌, ◌⊎◌, inl, inr, ℤ, pos, ◌+ℤ◌, ◌-ℤ◌, IsTrue, List, [], ◌∷◌, ◌++◌, length, length-append, take, drop, append-nil, arith}
use Rattle.std.proofs.lemmas.Bool.Decides.{nat_tests}
use Rattle.std.proofs.lemmas.Int.{ints}
use Rattle.std.proofs.lemmas.List.{take-append-drop, length-take-le, length-drop}
use Rattle.std.proofs.Math.Seq.{take-append-add, drop-append-add}
use Rattle.postscript_drawing.specs.Operators.{strokes}
use Rattle.postscript_drawing.specs.Strokes.{by, aside, along, other, lines, lines_in_turn, curves, curves_along, curves_level, curves_in_turn, curves_then_line, lines_then_curve, two}
use Rattle.postscript_drawing.specs.Using.{used}
use Rattle.postscript_drawing.specs.declared.stroke.Axis.{Axis}
use Rattle.postscript_drawing.specs.declared.stroke.Axis.TheVariants.{Horizontal, Vertical}
use Rattle.postscript_drawing.specs.declared.stroke.Stroke.{Stroke}
use Rattle.postscript_drawing.specs.declared.stroke.Stroke.TheVariants.{Move, Line, Curve}
use Rattle.postscript_drawing.specs.declared.stroke.Vector.{Vector}
use Rattle.postscript_outline.specs.declared.point.Point.{Point}
use Rattle.postscript_type2.specs.declared.operation.Operator.{Operator}
use Rattle.postscript_type2.specs.declared.operation.Operator.TheVariants.{VMoveTo, RLineTo, HLineTo, VLineTo, RRCurveTo, RMoveTo, HMoveTo, RCurveLine, RLineCurve, VVCurveTo, HHCurveTo, VHCurveTo, HVCurveTo, HFlex, Flex, HFlex1, Flex1}
use Rattle.postscript_type2.specs.Operation.Kinds.{Kind, Draws, kind}
use Rattle.postscript_type2.specs.Operation.Lengths.{exactly, some, groups, groups_and, curves_of_four}
use Rattle.postscript_type2.specs.Number.{whole as units}
use Rattle.postscript_type2.specs.Program.StackRules.{IsHeld}
use Rattle.postscript_instance.specs.declared.axes.Step.{Step}
use Rattle.postscript_instance.specs.Axes.{so_far, in_turn, bows, level, coordinates, steps_of, at, moved, rounded_steps, behind_steps, AreSteps}
use Rattle.postscript_instance.proofs.Nearest.{is-whole}
use Rattle.postscript_instance.specs.Far.{IsStep, IsWay, AreWays}
use Rattle.postscript_instance.specs.Rounded.{rounded_operator, depth_of, AreWhole}
use Rattle.postscript_instance.specs.Nearest.{nearest, rounded, rounded_by, led, rounded_strokes, behind, IsInRange, AreInRange}

-- strokes of operands, and of the same in whole units
pub record Agrees (p : Point) (steps : List Step) (old new : List Stroke) : Type 0 where
  pub same : new ≡ rounded_strokes p old
  pub behind : behind_steps p steps ≡ behind p old
  pub range : IsInRange p → AreSteps p steps → AreInRange p old
  pub ways : AreWays p old → AreSteps p steps

-- what stays along one axis while something goes along the other
no-way : (a : ℤ) → rounded a (pos 0) ≡ pos 0
no-way a = let same : nearest (a +ℤ pos 0) ≡ nearest a = ap nearest (omega (arith, ints)) in omega (arith, ints, same)

stays : (a : ℤ) → a +ℤ pos 0 ≡ a
stays a = omega (arith, ints)

along-rounded : (axis : Axis) (p : Point) (d : ℤ) → rounded_by p (along axis d) ≡ along axis (rounded (at axis p) d)
along-rounded Horizontal p d = ap (λ z. by (rounded p.x d) z) (no-way p.y)
along-rounded Vertical p d = ap (λ z. by z (rounded p.y d)) (no-way p.x)

along-led : (axis : Axis) (p : Point) (d : ℤ) → led p (along axis d) ≡ moved axis p d
along-led Horizontal p d = ap (λ z. moved Horizontal (record { x = p.x; y = z }) d) (stays p.y)
along-led Vertical p d = ap (λ z. moved Vertical (record { x = z; y = p.y }) d) (stays p.x)

moved-range : (axis : Axis) (p : Point) (d : ℤ) → IsInRange p → IsHeld (nearest (at axis p +ℤ d)) → IsInRange (moved axis p d)
moved-range Horizontal p d here there = (there, here.1)
moved-range Vertical p d here there = (here.0, there)

-- a way along an axis, and perhaps aside of it
way-along : (axis : Axis) (p : Point) (d : ℤ) → IsWay p (along axis d) → IsStep (at axis p) d
way-along Horizontal p d way = way.0
way-along Vertical p d way = way.1

way-aside : (axis : Axis) (p : Point) (d off : ℤ) → IsWay p (aside axis d off) →
    IsStep (at axis p) d × IsStep (at (other axis) (moved axis p d)) off
way-aside Horizontal p d off way = way
way-aside Vertical p d off way = (way.1, way.0)

way-off : (axis : Axis) (p : Point) (d off : ℤ) → IsWay p (aside axis d off) →
    IsStep (at (other axis) p) off × IsStep (at axis (moved (other axis) p off)) d
way-off Horizontal p d off way = (way.1, way.0)
way-off Vertical p d off way = way

-- lines
lines-round : (p : Point) (xs : List ℤ) → length xs % 2 ≡ 0 → Agrees p (in_turn Horizontal xs) (lines xs)
    (lines (rounded_steps p (in_turn Horizontal xs)))
lines-round p [] h = record { same = refl; behind = refl; range = λ here are. here; ways = λ w. tt }
lines-round p (a ∷ []) h = absurd (omega (arith, h))
lines-round p (a ∷ b ∷ xs) h =
    let rest = lines-round (led p (by a b)) xs (omega (arith, h)) in record {
      same = ap (λ ss. Line (rounded_by p (by a b)) ∷ ss) rest.same;
      behind = rest.behind;
      range = λ here are. (here, rest.range (are.0.end, are.1.0.end) are.1.1);
      ways = λ w. (w.0.0, (w.0.1, rest.ways w.1));
    }

turned-round : (axis : Axis) (p : Point) (xs : List ℤ) → Agrees p (in_turn axis xs) (lines_in_turn axis xs)
    (lines_in_turn axis (rounded_steps p (in_turn axis xs)))
turned-round axis p [] = record { same = refl; behind = refl; range = λ here are. here; ways = λ w. tt }
turned-round axis p (d ∷ xs) =
    let q = moved axis p d in
    let ss = lines_in_turn (other axis) xs in
    let rest = turned-round (other axis) q xs in record {
      same = ap (λ v. Line v ∷ lines_in_turn (other axis) (rounded_steps q (in_turn (other axis) xs))) (sym (along-rounded axis p d))
          ∙ ap (λ zs. Line (rounded_by p (along axis d)) ∷ zs) (rest.same ∙ ap (λ z. rounded_strokes z ss) (sym (along-led axis p d)));
      behind = rest.behind ∙ ap (λ z. behind z ss) (sym (along-led axis p d));
      range = λ here are. (
        here,
        subst (λ z. AreInRange z ss) (sym (along-led axis p d))
            (rest.range (moved-range axis p d here are.0.end) are.1),
      );
      ways = λ w. (way-along axis p d w.0, rest.ways (subst (λ z. AreWays z ss) (along-led axis p d) w.1));
    }

-- curves
curves-round : (p : Point) (xs : List ℤ) → length xs % 6 ≡ 0 → Agrees p (in_turn Horizontal xs) (curves xs)
    (curves (rounded_steps p (in_turn Horizontal xs)))
curves-round p [] h = record { same = refl; behind = refl; range = λ here are. here; ways = λ w. tt }
curves-round p (a ∷ []) h = absurd (omega (arith, h))
curves-round p (a ∷ b ∷ []) h = absurd (omega (arith, h))
curves-round p (a ∷ b ∷ c ∷ []) h = absurd (omega (arith, h))
curves-round p (a ∷ b ∷ c ∷ d ∷ []) h = absurd (omega (arith, h))
curves-round p (a ∷ b ∷ c ∷ d ∷ e ∷ []) h = absurd (omega (arith, h))
curves-round p (a ∷ b ∷ c ∷ d ∷ e ∷ f ∷ xs) h =
    let q = led p (by a b) in
    let r = led q (by c d) in
    let rest = curves-round (led r (by e f)) xs (omega (arith, h)) in record {
      same = ap (λ ss. Curve (rounded_by p (by a b)) (rounded_by q (by c d)) (rounded_by r (by e f)) ∷ ss) rest.same;
      behind = rest.behind;
      range = λ here are. (
        here,
        (are.0.end, are.1.0.end),
        (are.1.1.0.end, are.1.1.1.0.end),
        rest.range (are.1.1.1.1.0.end, are.1.1.1.1.1.0.end) are.1.1.1.1.1.1,
      );
      ways = λ w. (w.0.0, (w.0.1, (w.1.0, (w.1.1, (w.2.0, (w.2.1, rest.ways w.3))))));
    }

-- a curve that begins so far along an axis, and perhaps so far aside of it
aside-rounded : (axis : Axis) (p : Point) (d off : ℤ) → rounded_by p (aside axis d off) ≡ aside axis (rounded (at axis p) d)
    (rounded (at (other axis) p) off)
aside-rounded Horizontal p d off = refl
aside-rounded Vertical p d off = refl

aside-led : (axis : Axis) (p : Point) (d off : ℤ) → led p (aside axis d off) ≡ moved axis (moved (other axis) p off) d
aside-led Horizontal p d off = refl
aside-led Vertical p d off = refl

at-aside : (axis : Axis) (p : Point) (off : ℤ) → at axis (moved (other axis) p off) ≡ at axis p
at-aside Horizontal p off = refl
at-aside Vertical p off = refl

-- one curve before others: where its three vectors are in whole units, and lead to these places
one-curve : (p q r s : Point) (a b c a' b' c' : Vector) (old new : List Stroke) → a' ≡ rounded_by p a → led p a ≡ q →
    b' ≡ rounded_by q b → led q b ≡ r → c' ≡ rounded_by r c → led r c ≡ s →
    new ≡ rounded_strokes s old → Curve a' b' c' ∷ new ≡ rounded_strokes p (Curve a b c ∷ old)
one-curve p q r s a b c a' b' c' old new ha hq hb hr hc hs rest =
    rw (ha, hb, hc, rest, ← hs, ← hr, ← hq) refl

behind-curve : (p q r s : Point) (a b c : Vector) (old : List Stroke) (end : Point) → led p a ≡ q → led q b ≡ r → led r c ≡ s →
    end ≡ behind s old → end ≡ behind p (Curve a b c ∷ old)
behind-curve p q r s a b c old end hq hr hs rest = rw (rest, ← hs, ← hr, ← hq) refl

range-curve : (p q r s : Point) (a b c : Vector) (old : List Stroke) → led p a ≡ q → led q b ≡ r → led r c ≡ s → IsInRange p →
    IsInRange q → IsInRange r → AreInRange s old →
    AreInRange p (Curve a b c ∷ old)
range-curve p q r s a b c old hq hr hs at_p at_q at_r rest =
    let second = ap (λ z. led z b) hq ∙ hr in
    let third = ap (λ z. led z c) second ∙ hs in
    (at_p, subst IsInRange (sym hq) at_q, subst IsInRange (sym second) at_r, subst (λ z. AreInRange z old) (sym third) rest)

ways-curve : (p q r s : Point) (a b c : Vector) (old : List Stroke) → led p a ≡ q → led q b ≡ r → led r c ≡ s →
    AreWays p (Curve a b c ∷ old) →
    IsWay p a × IsWay q b × IsWay r c × AreWays s old
ways-curve p q r s a b c old hq hr hs w =
    let second = ap (λ z. led z b) hq ∙ hr in
    let third = ap (λ z. led z c) second ∙ hs in
    (w.0, subst (λ z. IsWay z b) hq w.1, subst (λ z. IsWay z c) second w.2, subst (λ z. AreWays z old) third w.3)

-- level curves: the first begins so far aside
level-round : (axis : Axis) (p : Point) (xs : List ℤ) → length xs % 4 ≡ 0 →
    Agrees p (bows axis axis xs) (curves_along axis (pos 0) xs) (curves_along axis (pos 0) (rounded_steps p (bows axis axis xs)))
level-round axis p [] h = record { same = refl; behind = refl; range = λ here are. here; ways = λ w. tt }
level-round axis p (a ∷ []) h = absurd (omega (arith, h))
level-round axis p (a ∷ b ∷ []) h = absurd (omega (arith, h))
level-round axis p (a ∷ b ∷ c ∷ []) h = absurd (omega (arith, h))
level-round axis p (a ∷ b ∷ c ∷ d ∷ xs) h =
    let q = moved axis p a in
    let r = led q (by b c) in
    let s = moved axis r d in
    let old = curves_along axis (pos 0) xs in
    let rest = level-round axis s xs (omega (arith, h)) in
    let hq = along-led axis p a in
    let hs = along-led axis r d in record {
      same =
          one-curve p q r s (along axis a) (by b c) (along axis d) (along axis (rounded (at axis p) a)) (rounded_by q (by b c))
          (along axis (rounded (at axis r) d)) old
          (curves_along axis (pos 0) (rounded_steps s (bows axis axis xs))) (sym (along-rounded axis p a)) hq refl refl
          (sym (along-rounded axis r d)) hs rest.same;
      behind = behind-curve p q r s (along axis a) (by b c) (along axis d) old (behind_steps s (bows axis axis xs)) hq refl hs rest.behind;
      range = λ here are.
          let at_q = moved-range axis p a here are.0.end in
          let at_r : IsInRange r = (are.1.0.end, are.1.1.0.end) in
          range-curve p q r s (along axis a) (by b c) (along axis d) old hq refl hs here at_q at_r
          (rest.range (moved-range axis r d at_r are.1.1.1.0.end) are.1.1.1.1);
      ways = λ w.
          let all = ways-curve p q r s (along axis a) (by b c) (along axis d) old hq refl hs w in
          (way-along axis p a all.0, (all.1.0, (all.1.1, (way-along axis r d all.2, rest.ways all.3))));
    }

first-aside-round : (axis : Axis) (p : Point) (e : ℤ) (xs : List ℤ) → length xs % 4 ≡ 0 → 0 < length xs →
    Agrees p (so_far (other axis) e ∷ bows axis axis xs) (curves_along axis e xs)
    (curves_along axis (rounded (at (other axis) p) e) (rounded_steps (moved (other axis) p e) (bows axis axis xs)))
first-aside-round axis p e [] h some = absurd (omega (arith, some))
first-aside-round axis p e (a ∷ []) h some = absurd (omega (arith, h))
first-aside-round axis p e (a ∷ b ∷ []) h some = absurd (omega (arith, h))
first-aside-round axis p e (a ∷ b ∷ c ∷ []) h some = absurd (omega (arith, h))
first-aside-round axis p e (a ∷ b ∷ c ∷ d ∷ xs) h some =
    let o = moved (other axis) p e in
    let q = moved axis o a in
    let r = led q (by b c) in
    let s = moved axis r d in
    let old = curves_along axis (pos 0) xs in
    let rest = level-round axis s xs (omega (arith, h)) in
    let hq = aside-led axis p a e in
    let hs = along-led axis r d in
    let first : aside axis (rounded (at axis o) a) (rounded (at (other axis) p) e) ≡ rounded_by p (aside axis a e) =
    ap (λ z. aside axis (rounded z a) (rounded (at (other axis) p) e)) (at-aside axis p e) ∙ sym (aside-rounded axis p a e) in record {
      same =
          one-curve p q r s (aside axis a e) (by b c) (along axis d) (aside axis (rounded (at axis o) a) (rounded (at (other axis) p) e))
          (rounded_by q (by b c))
          (along axis (rounded (at axis r) d)) old (curves_along axis (pos 0) (rounded_steps s (bows axis axis xs))) first hq refl refl
          (sym (along-rounded axis r d)) hs rest.same;
      behind = behind-curve p q r s (aside axis a e) (by b c) (along axis d) old
          (behind_steps s (bows axis axis xs)) hq refl hs rest.behind;
      range = λ here are.
          let at_q = moved-range axis o a (moved-range (other axis) p e here are.0.end) are.1.0.end in
          let at_r : IsInRange r = (are.1.1.0.end, are.1.1.1.0.end) in
          range-curve p q r s (aside axis a e) (by b c) (along axis d) old hq refl hs here at_q at_r
          (rest.range (moved-range axis r d at_r are.1.1.1.1.0.end) are.1.1.1.1.1);
      ways = λ w.
          let all = ways-curve p q r s (aside axis a e) (by b c) (along axis d) old hq refl hs w in
          let both = way-off axis p a e all.0 in
          (both.0, (both.1, (all.1.0, (all.1.1, (way-along axis r d all.2, rest.ways all.3)))));
    }

-- curves in turn: one that ends along its axis, before others
turn-more : (axis : Axis) (p : Point) (a b c d : ℤ) (steps : List Step) (old new : List Stroke) →
    Agrees (moved (other axis) (led (moved axis p a) (by b c)) d) steps old new →
    Agrees p (so_far axis a ∷ so_far Horizontal b ∷ so_far Vertical c ∷ so_far (other axis) d ∷ steps)
    (Curve (along axis a) (by b c) (along (other axis) d) ∷ old)
    (Curve (along axis (rounded (at axis p) a)) (by (rounded (moved axis p a).x b) (rounded (moved axis p a).y c))
    (along (other axis) (rounded (at (other axis) (led (moved axis p a) (by b c))) d)) ∷ new)
turn-more axis p a b c d steps old new rest =
    let q = moved axis p a in
    let r = led q (by b c) in
    let s = moved (other axis) r d in
    let hq = along-led axis p a in
    let hs = along-led (other axis) r d in record {
      same =
          one-curve p q r s (along axis a) (by b c) (along (other axis) d) (along axis (rounded (at axis p) a)) (rounded_by q (by b c))
          (along (other axis) (rounded (at (other axis) r) d))
          old new (sym (along-rounded axis p a)) hq refl refl (sym (along-rounded (other axis) r d)) hs rest.same;
      behind = behind-curve p q r s (along axis a) (by b c) (along (other axis) d) old (behind_steps s steps) hq refl hs rest.behind;
      range = λ here are.
          let at_q = moved-range axis p a here are.0.end in
          let at_r : IsInRange r = (are.1.0.end, are.1.1.0.end) in
          range-curve p q r s (along axis a) (by b c) (along (other axis) d) old hq refl hs here at_q at_r
          (rest.range (moved-range (other axis) r d at_r are.1.1.1.0.end) are.1.1.1.1);
      ways = λ w.
          let all = ways-curve p q r s (along axis a) (by b c) (along (other axis) d) old hq refl hs w in
          (way-along axis p a all.0, (all.1.0, (all.1.1, (way-along (other axis) r d all.2, rest.ways all.3))));
    }

none : (p : Point) → Agrees p [] [] []
none p = record { same = refl; behind = refl; range = λ here are. here; ways = λ w. tt }

-- the last one, and an operand alone behind it, which goes aside of its end
turn-last-aside : (axis : Axis) (p : Point) (a b c d e : ℤ) →
    Agrees p (so_far axis a ∷ so_far Horizontal b ∷ so_far Vertical c ∷ so_far (other axis) d ∷ so_far (other (other axis)) e ∷ [])
    (Curve (along axis a) (by b c) (aside (other axis) d e) ∷ [])
    (Curve (along axis (rounded (at axis p) a)) (by (rounded (at Horizontal (moved axis p a)) b) (rounded (moved axis p a).y c))
    (aside (other axis) (rounded (at (other axis) (led (moved axis p a) (by b c))) d)
    (rounded (at (other (other axis)) (moved (other axis) (led (moved axis p a) (by b c)) d)) e)) ∷ [])
turn-last-aside axis p a b c d e =
    let q = moved axis p a in
    let r = led q (by b c) in
    let s = moved (other axis) (moved (other (other axis)) r e) d in
    let hq = along-led axis p a in
    let hs = aside-led (other axis) r d e in
    let last : aside (other axis) (rounded (at (other axis) r) d)
    (rounded (at (other (other axis)) (moved (other axis) r d)) e) ≡ rounded_by r (aside (other axis) d e) =
    ap (λ z. aside (other axis) (rounded (at (other axis) r) d) (rounded z e)) (at-other (other axis) r d)
    ∙ sym (aside-rounded (other axis) r d e) in record {
      same = one-curve p q r s (along axis a) (by b c) (aside (other axis) d e) (along axis (rounded (at axis p) a)) (rounded_by q (by b c))
          (aside (other axis) (rounded (at (other axis) r) d) (rounded (at (other (other axis)) (moved (other axis) r d)) e))
          [] [] (sym (along-rounded axis p a)) hq refl refl last hs refl;
      behind = behind-curve p q r s (along axis a) (by b c) (aside (other axis) d e) []
          (moved (other (other axis)) (moved (other axis) r d) e) hq refl hs (either-first (other axis) r d e);
      range = λ here are.
          let at_q = moved-range axis p a here are.0.end in
          let at_r : IsInRange r = (are.1.0.end, are.1.1.0.end) in
          let at_d = moved-range (other axis) r d at_r are.1.1.1.0.end in
          let at_s = moved-range (other (other axis)) (moved (other axis) r d) e at_d are.1.1.1.1.0.end in
          range-curve p q r s (along axis a) (by b c) (aside (other axis) d e) [] hq refl hs here at_q at_r
          (subst IsInRange (either-first (other axis) r d e) at_s);
      ways = λ w.
          let all = ways-curve p q r s (along axis a) (by b c) (aside (other axis) d e) [] hq refl hs w in
          let both = way-aside (other axis) r d e all.2 in
          (way-along axis p a all.0, (all.1.0, (all.1.1, (both.0, (both.1, tt)))));
    }
  where
    at-other : (axis : Axis) (p : Point) (d : ℤ) → at (other axis) (moved axis p d) ≡ at (other axis) p
    at-other Horizontal p d = refl
    at-other Vertical p d = refl

    either-first : (axis : Axis) (p : Point) (d e : ℤ) → moved (other axis) (moved axis p d) e ≡ moved axis (moved (other axis) p e) d
    either-first Horizontal p d e = refl
    either-first Vertical p d e = refl

turn-round : (axis : Axis) (p : Point) (xs : List ℤ) → length xs % 4 < 2 → (length xs ≡ 1 → ⊥) →
    Agrees p (bows axis (other axis) xs) (curves_in_turn axis xs) (curves_in_turn axis (rounded_steps p (bows axis (other axis) xs)))
turn-round axis p [] h k = none p
turn-round axis p (a ∷ []) h k = absurd (k (omega arith))
turn-round axis p (a ∷ b ∷ []) h k = absurd (omega (arith, h))
turn-round axis p (a ∷ b ∷ c ∷ []) h k = absurd (omega (arith, h))
turn-round axis p (a ∷ b ∷ c ∷ d ∷ []) h k = turn-more axis p a b c d [] [] [] (none _)
turn-round Horizontal p (a ∷ b ∷ c ∷ d ∷ e ∷ []) h k = turn-last-aside Horizontal p a b c d e
turn-round Vertical p (a ∷ b ∷ c ∷ d ∷ e ∷ []) h k = turn-last-aside Vertical p a b c d e
turn-round axis p (a ∷ b ∷ c ∷ d ∷ e ∷ f ∷ []) h k = absurd (omega (arith, h))
turn-round axis p (a ∷ b ∷ c ∷ d ∷ e ∷ f ∷ g ∷ []) h k = absurd (omega (arith, h))
turn-round Horizontal p (a ∷ b ∷ c ∷ d ∷ e ∷ f ∷ g ∷ i ∷ xs) h k =
    let s = moved Vertical (led (moved Horizontal p a) (by b c)) d in
    turn-more Horizontal p a b c d _ _ _
    (turn-round Vertical s (e ∷ f ∷ g ∷ i ∷ xs) (omega (arith, h)) (λ one. absurd (omega (arith, one))))
turn-round Vertical p (a ∷ b ∷ c ∷ d ∷ e ∷ f ∷ g ∷ i ∷ xs) h k =
    let s = moved Horizontal (led (moved Vertical p a) (by b c)) d in
    turn-more Vertical p a b c d _ _ _
    (turn-round Horizontal s (e ∷ f ∷ g ∷ i ∷ xs) (omega (arith, h)) (λ one. absurd (omega (arith, one))))

-- steps behind steps
rounded-append : (p : Point) (s t : List Step) → rounded_steps p (s ++ t) ≡ rounded_steps p s ++ rounded_steps (behind_steps p s) t
rounded-append p [] t = refl
rounded-append p (x ∷ s) t = ap (λ ds. rounded (at x.axis p) x.distance ∷ ds) (rounded-append (moved x.axis p x.distance) s t)

behind-append : (p : Point) (s t : List Step) → behind_steps p (s ++ t) ≡ behind_steps (behind_steps p s) t
behind-append p [] t = refl
behind-append p (x ∷ s) t = behind-append (moved x.axis p x.distance) s t

steps-append : (p : Point) (s t : List Step) → AreSteps p (s ++ t) → AreSteps p s × AreSteps (behind_steps p s) t
steps-append p [] t are = (tt, are)
steps-append p (x ∷ s) t are = let rest = steps-append (moved x.axis p x.distance) s t are.1 in ((are.0, rest.0), rest.1)

-- strokes behind strokes
pub strokes-append : (p : Point) (xs ys : List Stroke) →
    rounded_strokes p (xs ++ ys) ≡ rounded_strokes p xs ++ rounded_strokes (behind p xs) ys
strokes-append p [] ys = refl
strokes-append p (Move v ∷ xs) ys = ap (λ ss. Move (rounded_by p v) ∷ ss) (strokes-append (led p v) xs ys)
strokes-append p (Line v ∷ xs) ys = ap (λ ss. Line (rounded_by p v) ∷ ss) (strokes-append (led p v) xs ys)
strokes-append p (Curve a b c ∷ xs) ys =
    let q = led p a in
    let r = led q b in
    ap (λ ss. Curve (rounded_by p a) (rounded_by q b) (rounded_by r c) ∷ ss) (strokes-append (led r c) xs ys)

pub place-append : (p : Point) (xs ys : List Stroke) → behind p (xs ++ ys) ≡ behind (behind p xs) ys
place-append p [] ys = refl
place-append p (Move v ∷ xs) ys = place-append (led p v) xs ys
place-append p (Line v ∷ xs) ys = place-append (led p v) xs ys
place-append p (Curve a b c ∷ xs) ys = place-append (led (led (led p a) b) c) xs ys

pub range-behind : (p : Point) (xs : List Stroke) → AreInRange p xs → IsInRange (behind p xs)
range-behind p [] are = are
range-behind p (Move v ∷ xs) are = range-behind (led p v) xs are.1
range-behind p (Line v ∷ xs) are = range-behind (led p v) xs are.1
range-behind p (Curve a b c ∷ xs) are = range-behind (led (led (led p a) b) c) xs are.3

pub range-append : (p : Point) (xs ys : List Stroke) → AreInRange p xs → AreInRange (behind p xs) ys → AreInRange p (xs ++ ys)
range-append p [] ys these those = those
range-append p (Move v ∷ xs) ys these those = (these.0, range-append (led p v) xs ys these.1 those)
range-append p (Line v ∷ xs) ys these those = (these.0, range-append (led p v) xs ys these.1 those)
range-append p (Curve a b c ∷ xs) ys these those = (these.0, these.1, these.2, range-append (led (led (led p a) b) c) xs ys these.3 those)

ways-append : (p : Point) (xs ys : List Stroke) → AreWays p (xs ++ ys) → AreWays p xs × AreWays (behind p xs) ys
ways-append p [] ys w = (tt, w)
ways-append p (Move v ∷ xs) ys w = let rest = ways-append (led p v) xs ys w.1 in ((w.0, rest.0), rest.1)
ways-append p (Line v ∷ xs) ys w = let rest = ways-append (led p v) xs ys w.1 in ((w.0, rest.0), rest.1)
ways-append p (Curve a b c ∷ xs) ys w = let rest = ways-append (led (led (led p a) b) c) xs ys w.3 in ((w.0, w.1, w.2, rest.0), rest.1)

steps-join : (p : Point) (s t : List Step) → AreSteps p s → AreSteps (behind_steps p s) t → AreSteps p (s ++ t)
steps-join p [] t these those = those
steps-join p (x ∷ s) t these those = (these.0, steps-join (moved x.axis p x.distance) s t these.1 those)

join : (p : Point) (s t : List Step) (xs ys xs' ys' : List Stroke) → Agrees p s xs xs' → Agrees (behind_steps p s) t ys ys' →
    Agrees p (s ++ t) (xs ++ ys) (xs' ++ ys')
join p s t xs ys xs' ys' these those = record {
  same = ap (λ zs. zs ++ ys') these.same
      ∙ ap (λ zs. rounded_strokes p xs ++ zs) (those.same ∙ ap (λ q. rounded_strokes q ys) these.behind) ∙ sym (strokes-append p xs ys);
  behind = behind-append p s t ∙ those.behind ∙ ap (λ q. behind q ys) these.behind ∙ sym (place-append p xs ys);
  range = λ here are.
      let both = steps-append p s t are in
      let first = these.range here both.0 in
      let there = subst IsInRange (sym these.behind) (range-behind p xs first) in
      range-append p xs ys first (subst (λ q. AreInRange q ys) these.behind (those.range there both.1));
  ways = λ w.
      let both = ways-append p xs ys w in
      steps-join p s t (these.ways both.0) (those.ways (subst (λ q. AreWays q ys) (sym these.behind) both.1));
}

-- as many as there were
pub steps-length : (p : Point) (s : List Step) → length (rounded_steps p s) ≡ length s
steps-length p [] = refl
steps-length p (x ∷ s) = let rest = steps-length (moved x.axis p x.distance) s in omega (arith, rest)

turn-length : (axis : Axis) (xs : List ℤ) → length (in_turn axis xs) ≡ length xs
turn-length axis [] = refl
turn-length axis (x ∷ xs) = let rest = turn-length (other axis) xs in omega (arith, rest)

bows-length : (begin end : Axis) (xs : List ℤ) → length xs % 4 < 2 → length (bows begin end xs) ≡ length xs
bows-length begin end [] h = refl
bows-length begin end (a ∷ []) h = refl
bows-length begin end (a ∷ b ∷ []) h = absurd (omega (arith, h))
bows-length begin end (a ∷ b ∷ c ∷ []) h = absurd (omega (arith, h))
bows-length begin end (a ∷ b ∷ c ∷ d ∷ xs) h = let rest = bows-length end begin xs (omega (arith, h)) in omega (arith, rest)

-- axes in turn begin again behind an even number
turn-append : (xs ys : List ℤ) → length xs % 2 ≡ 0 → in_turn Horizontal (xs ++ ys) ≡ in_turn Horizontal xs ++ in_turn Horizontal ys
turn-append [] ys h = refl
turn-append (a ∷ []) ys h = absurd (omega (arith, h))
turn-append (a ∷ b ∷ xs) ys h = ap (λ ss. so_far Horizontal a ∷ so_far Vertical b ∷ ss) (turn-append xs ys (omega (arith, h)))

-- the last two operands are a line, and the last six a curve
front : (xs ys : List ℤ) (k : ℕ) → length ys ≡ k → take (length (xs ++ ys) - k) (xs ++ ys) ≡ xs
front xs ys k h =
    let long = length-append xs ys in
    let m : length (xs ++ ys) - k ≡ length xs + 0 = omega (arith, long, h) in
    ap (λ n. take n (xs ++ ys)) m ∙ take-append-add xs ys 0 ∙ append-nil xs

back : (xs ys : List ℤ) (k : ℕ) → length ys ≡ k → drop (length (xs ++ ys) - k) (xs ++ ys) ≡ ys
back xs ys k h =
    let long = length-append xs ys in
    let m : length (xs ++ ys) - k ≡ length xs + 0 = omega (arith, long, h) in
    ap (λ n. drop n (xs ++ ys)) m ∙ drop-append-add xs ys 0

line-behind : (xs ys : List ℤ) → length ys ≡ 2 → curves_then_line (xs ++ ys) ≡ curves xs ++ lines ys
line-behind xs ys h =
    ap (λ zs. curves zs ++ lines (drop (length (xs ++ ys) - 2) (xs ++ ys))) (front xs ys 2 h)
    ∙ ap (λ zs. curves xs ++ lines zs) (back xs ys 2 h)

curve-behind : (xs ys : List ℤ) → length ys ≡ 6 → lines_then_curve (xs ++ ys) ≡ lines xs ++ curves ys
curve-behind xs ys h =
    ap (λ zs. lines zs ++ curves (drop (length (xs ++ ys) - 6) (xs ++ ys))) (front xs ys 6 h)
    ∙ ap (λ zs. lines xs ++ curves zs) (back xs ys 6 h)

agrees-as : {p : Point} {s s' : List Step} {old old' new new' : List Stroke} → Agrees p s old new → s ≡ s' → old ≡ old' → new ≡ new' →
    Agrees p s' old' new'
agrees-as {p} {s} {s'} {old} {old'} {new} {new'} are hs hold hnew =
    subst (λ x. Agrees p x old' new') hs (subst (λ x. Agrees p s x new') hold (subst (λ x. Agrees p s old x) hnew are))

both-rounded : (p : Point) (xs ys : List ℤ) → length xs % 2 ≡ 0 →
    rounded_steps p (in_turn Horizontal (xs ++ ys)) ≡
    rounded_steps p (in_turn Horizontal xs) ++ rounded_steps (behind_steps p (in_turn Horizontal xs)) (in_turn Horizontal ys)
both-rounded p xs ys h = ap (rounded_steps p) (turn-append xs ys h) ∙ rounded-append p (in_turn Horizontal xs) (in_turn Horizontal ys)

in-turn-count : (p : Point) (xs : List ℤ) → length (rounded_steps p (in_turn Horizontal xs)) ≡ length xs
in-turn-count p xs = steps-length p (in_turn Horizontal xs) ∙ turn-length Horizontal xs

line-round : (p : Point) (xs ys : List ℤ) → length xs % 6 ≡ 0 → length ys ≡ 2 →
    Agrees p (in_turn Horizontal (xs ++ ys)) (curves_then_line (xs ++ ys))
    (curves_then_line (rounded_steps p (in_turn Horizontal (xs ++ ys))))
line-round p xs ys h two =
    let q = behind_steps p (in_turn Horizontal xs) in
    let xs' = rounded_steps p (in_turn Horizontal xs) in
    let ys' = rounded_steps q (in_turn Horizontal ys) in
    let even : length xs % 2 ≡ 0 = omega (arith, h) in
    agrees-as
    (join p (in_turn Horizontal xs) (in_turn Horizontal ys) (curves xs) (lines ys) (curves xs') (lines ys') (curves-round p xs h)
    (lines-round q ys (omega (arith, two))))
    (sym (turn-append xs ys even)) (sym (line-behind xs ys two))
    (sym (line-behind xs' ys' (in-turn-count q ys ∙ two)) ∙ ap curves_then_line (sym (both-rounded p xs ys even)))

curve-round : (p : Point) (xs ys : List ℤ) → length xs % 2 ≡ 0 → length ys ≡ 6 →
    Agrees p (in_turn Horizontal (xs ++ ys)) (lines_then_curve (xs ++ ys))
    (lines_then_curve (rounded_steps p (in_turn Horizontal (xs ++ ys))))
curve-round p xs ys even six =
    let q = behind_steps p (in_turn Horizontal xs) in
    let xs' = rounded_steps p (in_turn Horizontal xs) in
    let ys' = rounded_steps q (in_turn Horizontal ys) in
    agrees-as
    (join p (in_turn Horizontal xs) (in_turn Horizontal ys) (lines xs) (curves ys) (lines xs') (curves ys') (lines-round p xs even)
    (curves-round q ys (omega (arith, six))))
    (sym (turn-append xs ys even)) (sym (curve-behind xs ys six))
    (sym (curve-behind xs' ys' (in-turn-count q ys ∙ six)) ∙ ap lines_then_curve (sym (both-rounded p xs ys even)))

split-last : (P : List ℤ → Type 0) (k : ℕ) (xs : List ℤ) → k ≤ length xs →
    ((ys zs : List ℤ) → length ys ≡ length xs - k → length zs ≡ k → P (ys ++ zs)) → P xs
split-last P k xs h all =
    let n = length xs - k in
    let long : length (drop n xs) ≡ k = length-drop n xs ∙ omega (arith, h) in
    subst P (take-append-drop n xs) (all (take n xs) (drop n xs) (length-take-le n xs (omega (arith, h))) long)

-- curves that begin and end along an axis
level-odd : (axis : Axis) (d : ℤ) (xs : List ℤ) → length xs % 2 ≡ 0 → curves_level axis (d ∷ xs) ≡ curves_along axis d xs
level-odd axis d xs h = grind (arith, nat_tests)

level-even : (axis : Axis) (xs : List ℤ) → length xs % 2 ≡ 0 → curves_level axis xs ≡ curves_along axis (pos 0) xs
level-even axis [] h = refl
level-even axis (d ∷ xs) h = grind (arith, nat_tests)

steps-odd : (axis : Axis) (d : ℤ) (xs : List ℤ) → length xs % 2 ≡ 0 → level axis (d ∷ xs) ≡ so_far (other axis) d ∷ bows axis axis xs
steps-odd axis d xs h = grind (arith, nat_tests)

steps-even : (axis : Axis) (xs : List ℤ) → length xs % 2 ≡ 0 → level axis xs ≡ bows axis axis xs
steps-even axis [] h = refl
steps-even axis (d ∷ xs) h = grind (arith, nat_tests)

below : (n : ℕ) → (n % 4 ≡ 0) ⊎ (n % 4 ≡ 1) → n % 4 < 2
below n (inl h) = omega (arith, h)
below n (inr h) = omega (arith, h)

fours : (n : ℕ) → IsTrue (curves_of_four n) → ((n % 4 ≡ 0) ⊎ (n % 4 ≡ 1)) × 1 < n
fours n h = (grind (arith, nat_tests), grind (arith, nat_tests))

level-of : (axis : Axis) (p : Point) (xs : List ℤ) → (length xs % 4 ≡ 0) ⊎ (length xs % 4 ≡ 1) → 1 < length xs →
    Agrees p (level axis xs) (curves_level axis xs)
    (curves_level axis (rounded_steps p (level axis xs))) × (length (level axis xs) ≡ length xs)
level-of axis p xs (inl h) some =
    let even : length xs % 2 ≡ 0 = omega (arith, h) in
    let steps = steps-even axis xs even in
    let count : length (bows axis axis xs) ≡ length xs = bows-length axis axis xs (omega (arith, h)) in
    let new = rounded_steps p (bows axis axis xs) in
    let long = steps-length p (bows axis axis xs) in (
      agrees-as (level-round axis p xs h) (sym steps) (sym (level-even axis xs even))
          (sym (level-even axis new (omega (arith, even, count, long))) ∙ ap (λ s. curves_level axis (rounded_steps p s)) (sym steps)),
      ap length steps ∙ count,
    )
level-of axis p [] (inr h) some = absurd (omega (arith, some))
level-of axis p (d ∷ xs) (inr h) some =
    let even : length xs % 2 ≡ 0 = omega (arith, h) in
    let steps = steps-odd axis d xs even in
    let count : length (bows axis axis xs) ≡ length xs = bows-length axis axis xs (omega (arith, h)) in
    let q = moved (other axis) p d in
    let new = rounded_steps q (bows axis axis xs) in
    let long = steps-length q (bows axis axis xs) in
    let first = rounded (at (other axis) p) d in (
      agrees-as (first-aside-round axis p d xs (omega (arith, h)) (omega (arith, some))) (sym steps) (sym (level-odd axis d xs even))
          (sym (level-odd axis first new (omega (arith, even, count, long))) ∙ ap (λ s. curves_level axis (rounded_steps p s)) (sym steps)),
      ap length steps ∙ omega (arith, count),
    )

-- what is between whole units is whole
pub is-way-whole : (from distance : ℤ) → (n : ℤ) × (rounded from distance ≡ units n)
is-way-whole from distance =
    let there = is-whole (from +ℤ distance) in
    let here = is-whole from in
    let at_there = there.1 in
    let at_here = here.1 in
    (there.0 -ℤ here.0, omega (arith, ints, at_there, at_here))

pub steps-whole : (p : Point) (s : List Step) → AreWhole (rounded_steps p s)
steps-whole p [] = tt
steps-whole p (x ∷ s) = (is-way-whole (at x.axis p) x.distance, steps-whole (moved x.axis p x.distance) s)

-- as many operands as an operator of a kind takes
abbrev pub Takes : Kind → ℕ → Type 0
Takes (Draws takes) n = IsTrue (takes n)
Takes kind n = ⊥

-- the operands of an operator in whole units draw its strokes in whole units, and are as many as the operator takes
pub record InUnits (op : Operator) (p : Point) (xs : List ℤ) : Type 0 where
  pub agrees : Agrees p (steps_of op xs) (strokes op xs)
      (strokes (rounded_operator op) (rounded_steps p (steps_of op xs) ++ depth_of op xs))
  pub takes : Takes (kind (rounded_operator op)) (length (rounded_steps p (steps_of op xs) ++ depth_of op xs))
  pub uses : used (rounded_operator op) (rounded_steps p (steps_of op xs) ++ depth_of op xs) ≡ rounded_steps p (steps_of op xs)
  pub depth : rounded_operator op ≡ Flex → drop 12 (rounded_steps p (steps_of op xs) ++ depth_of op xs) ≡ depth_of op xs

-- an operator that stays, without a depth
stays-so : (op : Operator) (p : Point) (xs : List ℤ) → rounded_operator op ≡ op → depth_of op xs ≡ [] → Takes (kind op) (length xs) →
    length (steps_of op xs) ≡ length xs →
    Agrees p (steps_of op xs) (strokes op xs)
    (strokes op (rounded_steps p (steps_of op xs))) → ((ys : List ℤ) → used op ys ≡ ys) → (op ≡ Flex → ⊥) → InUnits op p xs
stays-so op p xs same none takes count agrees uses other =
    let new = rounded_steps p (steps_of op xs) in
    let all : new ++ depth_of op xs ≡ new = ap (λ ds. new ++ ds) none ∙ append-nil new in record {
      agrees = agrees-as agrees refl refl (ap (strokes op) (sym all) ∙ ap (λ o. strokes o (new ++ depth_of op xs)) (sym same));
      takes = subst (λ o. Takes (kind o) (length (new ++ depth_of op xs))) (sym same)
          (subst (Takes (kind op)) (sym (ap length all ∙ steps-length p (steps_of op xs) ∙ count)) takes);
      uses = ap (λ o. used o (new ++ depth_of op xs)) same ∙ uses (new ++ depth_of op xs) ∙ all;
      depth = λ flex. absurd (other (sym same ∙ flex));
    }

move-of : (p : Point) (xs : List ℤ) → length xs ≡ 2 → Agrees p (steps_of RMoveTo xs) (strokes RMoveTo xs)
    (strokes RMoveTo (rounded_steps p (steps_of RMoveTo xs)))
move-of p [] h = absurd (omega (arith, h))
move-of p (a ∷ []) h = absurd (omega (arith, h))
move-of p (a ∷ b ∷ []) h =
    record { same = refl; behind = refl; range = λ here are. (here, (are.0.end, are.1.0.end)); ways = λ w. (w.0.0, (w.0.1, tt)) }
move-of p (a ∷ b ∷ z ∷ xs) h = absurd (omega (arith, h))

along-move : (axis : Axis) (p : Point) (d : ℤ) → Agrees p (so_far axis d ∷ []) (Move (along axis d) ∷ [])
    (Move (along axis (rounded (at axis p) d)) ∷ [])
along-move axis p d = record {
  same = ap (λ v. Move v ∷ []) (sym (along-rounded axis p d));
  behind = sym (along-led axis p d);
  range = λ here are. (here, subst IsInRange (sym (along-led axis p d)) (moved-range axis p d here are.0.end));
  ways = λ w. (way-along axis p d w.0, tt);
}

across-of : (p : Point) (xs : List ℤ) → length xs ≡ 1 → Agrees p (steps_of HMoveTo xs) (strokes HMoveTo xs)
    (strokes HMoveTo (rounded_steps p (steps_of HMoveTo xs)))
across-of p [] h = absurd (omega (arith, h))
across-of p (a ∷ []) h = along-move Horizontal p a
across-of p (a ∷ z ∷ xs) h = absurd (omega (arith, h))

up-of : (p : Point) (xs : List ℤ) → length xs ≡ 1 → Agrees p (steps_of VMoveTo xs) (strokes VMoveTo xs)
    (strokes VMoveTo (rounded_steps p (steps_of VMoveTo xs)))
up-of p [] h = absurd (omega (arith, h))
up-of p (a ∷ []) h = along-move Vertical p a
up-of p (a ∷ z ∷ xs) h = absurd (omega (arith, h))

-- the two curves of a flex
flex-round : (p : Point) (a b c d e f : Vector) (fd : ℤ) →
    Agrees p (coordinates (two a b c d e f)) (two a b c d e f) (strokes Flex (rounded_steps p (coordinates (two a b c d e f)) ++ fd ∷ []))
flex-round p a b c d e f fd = record {
  same = refl;
  behind = refl;
  range = λ here are. (
    here,
    (are.0.end, are.1.0.end),
    (are.1.1.0.end, are.1.1.1.0.end),
    (
      (are.1.1.1.1.0.end, are.1.1.1.1.1.0.end),
      (are.1.1.1.1.1.1.0.end, are.1.1.1.1.1.1.1.0.end),
      (are.1.1.1.1.1.1.1.1.0.end, are.1.1.1.1.1.1.1.1.1.0.end),
      (are.1.1.1.1.1.1.1.1.1.1.0.end, are.1.1.1.1.1.1.1.1.1.1.1.0.end),
    ),
  );
  ways = λ w. (
    w.0.0,
    (w.0.1, (w.1.0, (w.1.1, (w.2.0, (w.2.1, (w.3.0.0, (w.3.0.1, (w.3.1.0, (w.3.1.1, (w.3.2.0, (w.3.2.1, tt))))))))))),
  );
}

flex-of : (p : Point) (xs : List ℤ) → length xs ≡ 13 → InUnits Flex p xs
flex-of p [] h = absurd (omega (arith, h))
flex-of p (a ∷ []) h = absurd (omega (arith, h))
flex-of p (a ∷ b ∷ []) h = absurd (omega (arith, h))
flex-of p (a ∷ b ∷ c ∷ []) h = absurd (omega (arith, h))
flex-of p (a ∷ b ∷ c ∷ d ∷ []) h = absurd (omega (arith, h))
flex-of p (a ∷ b ∷ c ∷ d ∷ e ∷ []) h = absurd (omega (arith, h))
flex-of p (a ∷ b ∷ c ∷ d ∷ e ∷ f ∷ []) h = absurd (omega (arith, h))
flex-of p (a ∷ b ∷ c ∷ d ∷ e ∷ f ∷ g ∷ []) h = absurd (omega (arith, h))
flex-of p (a ∷ b ∷ c ∷ d ∷ e ∷ f ∷ g ∷ i ∷ []) h = absurd (omega (arith, h))
flex-of p (a ∷ b ∷ c ∷ d ∷ e ∷ f ∷ g ∷ i ∷ j ∷ []) h = absurd (omega (arith, h))
flex-of p (a ∷ b ∷ c ∷ d ∷ e ∷ f ∷ g ∷ i ∷ j ∷ k ∷ []) h = absurd (omega (arith, h))
flex-of p (a ∷ b ∷ c ∷ d ∷ e ∷ f ∷ g ∷ i ∷ j ∷ k ∷ l ∷ []) h = absurd (omega (arith, h))
flex-of p (a ∷ b ∷ c ∷ d ∷ e ∷ f ∷ g ∷ i ∷ j ∷ k ∷ l ∷ m ∷ []) h = absurd (omega (arith, h))
flex-of p (a ∷ b ∷ c ∷ d ∷ e ∷ f ∷ g ∷ i ∷ j ∷ k ∷ l ∷ m ∷ n ∷ []) h =
    record { agrees = flex-round p _ _ _ _ _ _ n; takes = refl; uses = refl; depth = λ same. refl }
flex-of p (a ∷ b ∷ c ∷ d ∷ e ∷ f ∷ g ∷ i ∷ j ∷ k ∷ l ∷ m ∷ n ∷ z ∷ xs) h = absurd (omega (arith, h))

hflex-of : (p : Point) (xs : List ℤ) → length xs ≡ 7 → InUnits HFlex p xs
hflex-of p [] h = absurd (omega (arith, h))
hflex-of p (a ∷ []) h = absurd (omega (arith, h))
hflex-of p (a ∷ b ∷ []) h = absurd (omega (arith, h))
hflex-of p (a ∷ b ∷ c ∷ []) h = absurd (omega (arith, h))
hflex-of p (a ∷ b ∷ c ∷ d ∷ []) h = absurd (omega (arith, h))
hflex-of p (a ∷ b ∷ c ∷ d ∷ e ∷ []) h = absurd (omega (arith, h))
hflex-of p (a ∷ b ∷ c ∷ d ∷ e ∷ f ∷ []) h = absurd (omega (arith, h))
hflex-of p (a ∷ b ∷ c ∷ d ∷ e ∷ f ∷ g ∷ []) h =
    record { agrees = flex-round p _ _ _ _ _ _ (units (pos 50)); takes = refl; uses = refl; depth = λ same. refl }
hflex-of p (a ∷ b ∷ c ∷ d ∷ e ∷ f ∷ g ∷ z ∷ xs) h = absurd (omega (arith, h))

hflex1-of : (p : Point) (xs : List ℤ) → length xs ≡ 9 → InUnits HFlex1 p xs
hflex1-of p [] h = absurd (omega (arith, h))
hflex1-of p (a ∷ []) h = absurd (omega (arith, h))
hflex1-of p (a ∷ b ∷ []) h = absurd (omega (arith, h))
hflex1-of p (a ∷ b ∷ c ∷ []) h = absurd (omega (arith, h))
hflex1-of p (a ∷ b ∷ c ∷ d ∷ []) h = absurd (omega (arith, h))
hflex1-of p (a ∷ b ∷ c ∷ d ∷ e ∷ []) h = absurd (omega (arith, h))
hflex1-of p (a ∷ b ∷ c ∷ d ∷ e ∷ f ∷ []) h = absurd (omega (arith, h))
hflex1-of p (a ∷ b ∷ c ∷ d ∷ e ∷ f ∷ g ∷ []) h = absurd (omega (arith, h))
hflex1-of p (a ∷ b ∷ c ∷ d ∷ e ∷ f ∷ g ∷ i ∷ []) h = absurd (omega (arith, h))
hflex1-of p (a ∷ b ∷ c ∷ d ∷ e ∷ f ∷ g ∷ i ∷ j ∷ []) h =
    record { agrees = flex-round p _ _ _ _ _ _ (units (pos 50)); takes = refl; uses = refl; depth = λ same. refl }
hflex1-of p (a ∷ b ∷ c ∷ d ∷ e ∷ f ∷ g ∷ i ∷ j ∷ z ∷ xs) h = absurd (omega (arith, h))

flex1-of : (p : Point) (xs : List ℤ) → length xs ≡ 11 → InUnits Flex1 p xs
flex1-of p [] h = absurd (omega (arith, h))
flex1-of p (a ∷ []) h = absurd (omega (arith, h))
flex1-of p (a ∷ b ∷ []) h = absurd (omega (arith, h))
flex1-of p (a ∷ b ∷ c ∷ []) h = absurd (omega (arith, h))
flex1-of p (a ∷ b ∷ c ∷ d ∷ []) h = absurd (omega (arith, h))
flex1-of p (a ∷ b ∷ c ∷ d ∷ e ∷ []) h = absurd (omega (arith, h))
flex1-of p (a ∷ b ∷ c ∷ d ∷ e ∷ f ∷ []) h = absurd (omega (arith, h))
flex1-of p (a ∷ b ∷ c ∷ d ∷ e ∷ f ∷ g ∷ []) h = absurd (omega (arith, h))
flex1-of p (a ∷ b ∷ c ∷ d ∷ e ∷ f ∷ g ∷ i ∷ []) h = absurd (omega (arith, h))
flex1-of p (a ∷ b ∷ c ∷ d ∷ e ∷ f ∷ g ∷ i ∷ j ∷ []) h = absurd (omega (arith, h))
flex1-of p (a ∷ b ∷ c ∷ d ∷ e ∷ f ∷ g ∷ i ∷ j ∷ k ∷ []) h = absurd (omega (arith, h))
flex1-of p (a ∷ b ∷ c ∷ d ∷ e ∷ f ∷ g ∷ i ∷ j ∷ k ∷ l ∷ []) h =
    record { agrees = flex-round p _ _ _ _ _ _ (units (pos 50)); takes = refl; uses = refl; depth = λ same. refl }
flex1-of p (a ∷ b ∷ c ∷ d ∷ e ∷ f ∷ g ∷ i ∷ j ∷ k ∷ l ∷ z ∷ xs) h = absurd (omega (arith, h))

exact : (m n : ℕ) → IsTrue (exactly m n) → n ≡ m
exact m n is = grind (arith, nat_tests)

twos : (n : ℕ) → IsTrue (groups 2 n) → n % 2 ≡ 0
twos n is = grind (arith, nat_tests)

sixes : (n : ℕ) → IsTrue (groups 6 n) → n % 6 ≡ 0
sixes n is = grind (arith, nat_tests)

sixes-and : (n : ℕ) → IsTrue (groups_and 6 2 n) → ((n - 2) % 6 ≡ 0) × 2 < n
sixes-and n is = (grind (arith, nat_tests), grind (arith, nat_tests))

twos-and : (n : ℕ) → IsTrue (groups_and 2 6 n) → ((n - 6) % 2 ≡ 0) × 6 < n
twos-and n is = (grind (arith, nat_tests), grind (arith, nat_tests))

pub in-units : (op : Operator) (p : Point) (xs : List ℤ) → Takes (kind op) (length xs) → InUnits op p xs
in-units RMoveTo p xs h =
    stays-so RMoveTo p xs refl refl h (turn-length Horizontal xs) (move-of p xs (exact 2 (length xs) h)) (λ ys. refl) (λ flex. absurd (cc))
in-units HMoveTo p xs h =
    stays-so HMoveTo p xs refl refl h (turn-length Horizontal xs) (across-of p xs (exact 1 (length xs) h)) (λ ys. refl)
    (λ flex. absurd (cc))
in-units VMoveTo p xs h =
    stays-so VMoveTo p xs refl refl h (turn-length Vertical xs) (up-of p xs (exact 1 (length xs) h)) (λ ys. refl) (λ flex. absurd (cc))
in-units RLineTo p xs h =
    stays-so RLineTo p xs refl refl h (turn-length Horizontal xs) (lines-round p xs (twos (length xs) h)) (λ ys. refl) (λ flex. absurd (cc))
in-units HLineTo p xs h =
    stays-so HLineTo p xs refl refl h (turn-length Horizontal xs) (turned-round Horizontal p xs) (λ ys. refl) (λ flex. absurd (cc))
in-units VLineTo p xs h =
    stays-so VLineTo p xs refl refl h (turn-length Vertical xs) (turned-round Vertical p xs) (λ ys. refl) (λ flex. absurd (cc))
in-units RRCurveTo p xs h =
    stays-so RRCurveTo p xs refl refl h (turn-length Horizontal xs) (curves-round p xs (sixes (length xs) h)) (λ ys. refl)
    (λ flex. absurd (cc))
in-units RCurveLine p xs h =
    let is = sixes-and (length xs) h in
    stays-so RCurveLine p xs refl refl h (turn-length Horizontal xs)
    (split-last (λ zs. Agrees p (in_turn Horizontal zs) (curves_then_line zs)
    (curves_then_line (rounded_steps p (in_turn Horizontal zs)))) 2 xs (omega (arith, is.1))
    (λ ys zs long two. line-round p ys zs (ap (λ n. n % 6) long ∙ is.0) two)) (λ ys. refl) (λ flex. absurd (cc))
in-units RLineCurve p xs h =
    let is = twos-and (length xs) h in
    stays-so RLineCurve p xs refl refl h (turn-length Horizontal xs)
    (split-last (λ zs. Agrees p (in_turn Horizontal zs) (lines_then_curve zs)
    (lines_then_curve (rounded_steps p (in_turn Horizontal zs)))) 6 xs (omega (arith, is.1))
    (λ ys zs long six. curve-round p ys zs (ap (λ n. n % 2) long ∙ is.0) six)) (λ ys. refl) (λ flex. absurd (cc))
in-units VVCurveTo p xs h =
    let is = fours (length xs) h in
    let all = level-of Vertical p xs is.0 is.1 in
    stays-so VVCurveTo p xs refl refl h all.1 all.0 (λ ys. refl) (λ flex. absurd (cc))
in-units HHCurveTo p xs h =
    let is = fours (length xs) h in
    let all = level-of Horizontal p xs is.0 is.1 in
    stays-so HHCurveTo p xs refl refl h all.1 all.0 (λ ys. refl) (λ flex. absurd (cc))
in-units VHCurveTo p xs h =
    let is = fours (length xs) h in
    let few : length xs % 4 < 2 = below (length xs) is.0 in
    stays-so VHCurveTo p xs refl refl h (bows-length Vertical Horizontal xs few)
    (turn-round Vertical p xs few (λ one. absurd (omega (arith, one, is.1)))) (λ ys. refl) (λ flex. absurd (cc))
in-units HVCurveTo p xs h =
    let is = fours (length xs) h in
    let few : length xs % 4 < 2 = below (length xs) is.0 in
    stays-so HVCurveTo p xs refl refl h (bows-length Horizontal Vertical xs few)
    (turn-round Horizontal p xs few (λ one. absurd (omega (arith, one, is.1)))) (λ ys. refl) (λ flex. absurd (cc))
in-units HFlex p xs h = hflex-of p xs (exact 7 (length xs) h)
in-units Flex p xs h = flex-of p xs (exact 13 (length xs) h)
in-units HFlex1 p xs h = hflex1-of p xs (exact 9 (length xs) h)
in-units Flex1 p xs h = flex1-of p xs (exact 11 (length xs) h)
in-units op p xs h = absurd h
