-- The strokes of a front of operands, and of what is behind it.
use Rattle.std.proofs.Common.{◌≡◌, refl, ap, sym, ◌∙◌, ℕ, ◌+◌, ◌-◌, ◌%◌, ◌<◌, ◌≤◌, ℤ, pos, List, [], ◌∷◌, ◌++◌, length, length-append, take, drop, append_assoc, arith}
use Rattle.std.proofs.lemmas.Bool.Decides.{nat_tests}
use Rattle.std.proofs.Math.Seq.{take-append-add, drop-append-add}
use Rattle.postscript_drawing.specs.declared.stroke.Axis.{Axis}
use Rattle.postscript_drawing.specs.declared.stroke.Axis.TheVariants.{Horizontal, Vertical}
use Rattle.postscript_drawing.specs.declared.stroke.Stroke.TheVariants.{Line, Curve}
use Rattle.postscript_drawing.specs.Strokes.{by, along, aside, lines, lines_in_turn, curves, curves_along, curves_level, alone, curves_in_turn, curves_then_line, lines_then_curve}

-- whole lines and whole curves, and what is behind them
pub lines-behind : (xs ys : List ℤ) → length xs % 2 ≡ 0 → lines (xs ++ ys) ≡ lines xs ++ lines ys
lines-behind [] ys h = refl
lines-behind (a ∷ []) ys h = absurd (omega (arith, h))
lines-behind (a ∷ b ∷ xs) ys h = ap (λ ss. Line (by a b) ∷ ss) (lines-behind xs ys (omega (arith, h)))

pub curves-behind : (xs ys : List ℤ) → length xs % 6 ≡ 0 → curves (xs ++ ys) ≡ curves xs ++ curves ys
curves-behind [] ys h = refl
curves-behind (a ∷ []) ys h = absurd (omega (arith, h))
curves-behind (a ∷ b ∷ []) ys h = absurd (omega (arith, h))
curves-behind (a ∷ b ∷ c ∷ []) ys h = absurd (omega (arith, h))
curves-behind (a ∷ b ∷ c ∷ d ∷ []) ys h = absurd (omega (arith, h))
curves-behind (a ∷ b ∷ c ∷ d ∷ e ∷ []) ys h = absurd (omega (arith, h))
curves-behind (a ∷ b ∷ c ∷ d ∷ e ∷ f ∷ xs) ys h = ap (λ ss. Curve (by a b) (by c d) (by e f) ∷ ss) (curves-behind xs ys (omega (arith, h)))

-- two lines in turn, and the axis is the first again
pub turned-behind : (axis : Axis) (xs ys : List ℤ) → length xs % 2 ≡ 0 →
    lines_in_turn axis (xs ++ ys) ≡ lines_in_turn axis xs ++ lines_in_turn axis ys
turned-behind axis [] ys h = refl
turned-behind axis (a ∷ []) ys h = absurd (omega (arith, h))
turned-behind Horizontal (a ∷ b ∷ xs) ys h =
    ap (λ ss. Line (along Horizontal a) ∷ Line (along Vertical b) ∷ ss) (turned-behind Horizontal xs ys (omega (arith, h)))
turned-behind Vertical (a ∷ b ∷ xs) ys h =
    ap (λ ss. Line (along Vertical a) ∷ Line (along Horizontal b) ∷ ss) (turned-behind Vertical xs ys (omega (arith, h)))

-- level curves: only the first may begin aside
along-behind : (axis : Axis) (xs ys : List ℤ) → length xs % 4 ≡ 0 → curves_along axis (pos 0)
    (xs ++ ys) ≡ curves_along axis (pos 0) xs ++ curves_along axis (pos 0) ys
along-behind axis [] ys h = refl
along-behind axis (a ∷ []) ys h = absurd (omega (arith, h))
along-behind axis (a ∷ b ∷ []) ys h = absurd (omega (arith, h))
along-behind axis (a ∷ b ∷ c ∷ []) ys h = absurd (omega (arith, h))
along-behind axis (a ∷ b ∷ c ∷ d ∷ xs) ys h =
    ap (λ ss. Curve (aside axis a (pos 0)) (by b c) (along axis d) ∷ ss) (along-behind axis xs ys (omega (arith, h)))

aside-behind : (axis : Axis) (first : ℤ) (xs ys : List ℤ) → length xs % 4 ≡ 0 → 0 < length xs →
    curves_along axis first (xs ++ ys) ≡ curves_along axis first xs ++ curves_along axis (pos 0) ys
aside-behind axis first [] ys h some = absurd (omega (arith, some))
aside-behind axis first (a ∷ []) ys h some = absurd (omega (arith, h))
aside-behind axis first (a ∷ b ∷ []) ys h some = absurd (omega (arith, h))
aside-behind axis first (a ∷ b ∷ c ∷ []) ys h some = absurd (omega (arith, h))
aside-behind axis first (a ∷ b ∷ c ∷ d ∷ xs) ys h some =
    ap (λ ss. Curve (aside axis a first) (by b c) (along axis d) ∷ ss) (along-behind axis xs ys (omega (arith, h)))

level-odd : (axis : Axis) (d : ℤ) (xs : List ℤ) → length xs % 2 ≡ 0 → curves_level axis (d ∷ xs) ≡ curves_along axis d xs
level-odd axis d xs h = grind (arith, nat_tests)

level-even : (axis : Axis) (xs : List ℤ) → length xs % 2 ≡ 0 → curves_level axis xs ≡ curves_along axis (pos 0) xs
level-even axis [] h = refl
level-even axis (d ∷ xs) h = grind (arith, nat_tests)

pub level-behind : (axis : Axis) (xs ys : List ℤ) → length xs % 4 ≡ 0 → length ys % 2 ≡ 0 →
    curves_level axis (xs ++ ys) ≡ curves_level axis xs ++ curves_level axis ys
level-behind axis xs ys h even =
    let long = length-append xs ys in
    level-even axis (xs ++ ys) (omega (arith, long, h, even)) ∙ along-behind axis xs ys (omega (arith, h, even))
    ∙ ap (λ ss. ss ++ curves_along axis (pos 0) ys) (sym (level-even axis xs (omega (arith, h, even))))
    ∙ ap (λ ss. curves_level axis xs ++ ss) (sym (level-even axis ys even))

pub aside-level-behind : (axis : Axis) (d : ℤ) (xs ys : List ℤ) → length xs % 4 ≡ 0 → 0 < length xs → length ys % 2 ≡ 0 →
    curves_level axis (d ∷ xs ++ ys) ≡ curves_level axis (d ∷ xs) ++ curves_level axis ys
aside-level-behind axis d xs ys h some even =
    let long = length-append xs ys in
    level-odd axis d (xs ++ ys) (omega (arith, long, h, even)) ∙ aside-behind axis d xs ys h some
    ∙ ap (λ ss. ss ++ curves_along axis (pos 0) ys) (sym (level-odd axis d xs (omega (arith, h))))
    ∙ ap (λ ss. curves_level axis (d ∷ xs) ++ ss) (sym (level-even axis ys even))

-- curves in turn: two, and the axis is the first again; behind the last of a front there is no operand alone
alone-many : (xs : List ℤ) → 2 ≤ length xs → alone xs ≡ pos 0
alone-many [] h = refl
alone-many (a ∷ []) h = absurd (omega (arith, h))
alone-many (a ∷ b ∷ xs) h = refl

alone-eights : (xs : List ℤ) → length xs % 8 ≡ 0 → alone xs ≡ pos 0
alone-eights [] h = refl
alone-eights (a ∷ []) h = absurd (omega (arith, h))
alone-eights (a ∷ b ∷ xs) h = refl

pub turning-behind : (axis : Axis) (xs ys : List ℤ) → length xs % 8 ≡ 0 → 2 ≤ length ys →
    curves_in_turn axis (xs ++ ys) ≡ curves_in_turn axis xs ++ curves_in_turn axis ys
turning-behind axis [] ys h many = refl
turning-behind axis (a ∷ []) ys h many = absurd (omega (arith, h))
turning-behind axis (a ∷ b ∷ []) ys h many = absurd (omega (arith, h))
turning-behind axis (a ∷ b ∷ c ∷ []) ys h many = absurd (omega (arith, h))
turning-behind axis (a ∷ b ∷ c ∷ d ∷ []) ys h many = absurd (omega (arith, h))
turning-behind axis (a ∷ b ∷ c ∷ d ∷ e ∷ []) ys h many = absurd (omega (arith, h))
turning-behind axis (a ∷ b ∷ c ∷ d ∷ e ∷ f ∷ []) ys h many = absurd (omega (arith, h))
turning-behind axis (a ∷ b ∷ c ∷ d ∷ e ∷ f ∷ g ∷ []) ys h many = absurd (omega (arith, h))
turning-behind axis (a ∷ b ∷ c ∷ d ∷ e ∷ f ∷ g ∷ i ∷ xs) ys h many =
    let less : length xs % 8 ≡ 0 = omega (arith, h) in
    let long = length-append xs ys in
    let here = alone-many (xs ++ ys) (omega (arith, long, many)) in
    let there = alone-eights xs less in
    turned axis (here ∙ sym there) (turning-behind axis xs ys less many)
  where
    turned : (axis : Axis) → alone (xs ++ ys) ≡ alone xs →
        curves_in_turn axis (xs ++ ys) ≡ curves_in_turn axis xs ++ curves_in_turn axis ys →
        curves_in_turn axis (a ∷ b ∷ c ∷ d ∷ e ∷ f ∷ g ∷ i ∷ xs ++ ys) ≡ curves_in_turn axis
        (a ∷ b ∷ c ∷ d ∷ e ∷ f ∷ g ∷ i ∷ xs) ++ curves_in_turn axis ys
    turned Horizontal same rest =
        ap (λ de. Curve (along Horizontal a) (by b c) (aside Vertical d (pos 0)) ∷ Curve (along Vertical e) (by f g)
        (aside Horizontal i de) ∷ curves_in_turn Horizontal (xs ++ ys)) same
        ∙ ap (λ ss. Curve (along Horizontal a) (by b c) (aside Vertical d (pos 0)) ∷ Curve (along Vertical e) (by f g)
        (aside Horizontal i (alone xs)) ∷ ss) rest
    turned Vertical same rest =
        ap (λ de. Curve (along Vertical a) (by b c) (aside Horizontal d (pos 0)) ∷ Curve (along Horizontal e) (by f g)
        (aside Vertical i de) ∷ curves_in_turn Vertical (xs ++ ys)) same
        ∙ ap (λ ss. Curve (along Vertical a) (by b c) (aside Horizontal d (pos 0)) ∷ Curve (along Horizontal e) (by f g)
        (aside Vertical i (alone xs)) ∷ ss) rest

-- a line behind curves, and a curve behind lines: the last is the last of the rest
front-longer : (xs ys : List ℤ) (k : ℕ) → k ≤ length ys → take (length (xs ++ ys) - k) (xs ++ ys) ≡ xs ++ take (length ys - k) ys
front-longer xs ys k h =
    let long = length-append xs ys in
    let m : length (xs ++ ys) - k ≡ length xs + (length ys - k) = omega (arith, long, h) in
    ap (λ n. take n (xs ++ ys)) m ∙ take-append-add xs ys (length ys - k)

rest-same : (xs ys : List ℤ) (k : ℕ) → k ≤ length ys → drop (length (xs ++ ys) - k) (xs ++ ys) ≡ drop (length ys - k) ys
rest-same xs ys k h =
    let long = length-append xs ys in
    let m : length (xs ++ ys) - k ≡ length xs + (length ys - k) = omega (arith, long, h) in
    ap (λ n. drop n (xs ++ ys)) m ∙ drop-append-add xs ys (length ys - k)

pub line-last : (xs ys : List ℤ) → length xs % 6 ≡ 0 → 2 ≤ length ys → curves_then_line (xs ++ ys) ≡ curves xs ++ curves_then_line ys
line-last xs ys h many =
    let front = take (length ys - 2) ys in
    let last = drop (length ys - 2) ys in
    ap (λ zs. curves zs ++ lines (drop (length (xs ++ ys) - 2) (xs ++ ys))) (front-longer xs ys 2 many)
    ∙ ap (λ zs. curves (xs ++ front) ++ lines zs) (rest-same xs ys 2 many)
    ∙ ap (λ ss. ss ++ lines last) (curves-behind xs front h) ∙ append_assoc (curves xs) (curves front) (lines last)

pub curve-last : (xs ys : List ℤ) → length xs % 2 ≡ 0 → 6 ≤ length ys → lines_then_curve (xs ++ ys) ≡ lines xs ++ lines_then_curve ys
curve-last xs ys h many =
    let front = take (length ys - 6) ys in
    let last = drop (length ys - 6) ys in
    ap (λ zs. lines zs ++ curves (drop (length (xs ++ ys) - 6) (xs ++ ys))) (front-longer xs ys 6 many)
    ∙ ap (λ zs. lines (xs ++ front) ++ curves zs) (rest-same xs ys 6 many)
    ∙ ap (λ ss. ss ++ curves last) (lines-behind xs front h) ∙ append_assoc (lines xs) (lines front) (curves last)
