-- Strokes, and the patterns of operands that spell them (Technical Note 5177, "Path Construction Operators"). Operands that are too few for
-- one more stroke draw nothing.
use Rattle.std.specs.Prelude.{◌%◌, ◌-◌, ◌==◌, nat_lt, nat_abs, ℤ, pos, neg_ℤ, ◌+ℤ◌, List, [], ◌∷◌, ◌++◌, length, take, drop, if◌then◌else◌}
use Rattle.postscript_drawing.specs.declared.stroke.Axis.{Axis}
use Rattle.postscript_drawing.specs.declared.stroke.Axis.TheVariants.{Horizontal, Vertical}
use Rattle.postscript_drawing.specs.declared.stroke.Stroke.{Stroke}
use Rattle.postscript_drawing.specs.declared.stroke.Stroke.TheVariants.{Move, Line, Curve}
use Rattle.postscript_drawing.specs.declared.stroke.Vector.{Vector}

abbrev pub by : (dx dy : ℤ) → Vector
by dx dy = record { dx = dx; dy = dy }

-- a vector of d along an axis and `off` along the other axis
abbrev pub aside : Axis → (d off : ℤ) → Vector
aside Horizontal d off = by d off
aside Vertical d off = by off d

abbrev pub along : Axis → ℤ → Vector
along axis d = aside axis d (pos 0)

abbrev pub other : Axis → Axis
other Horizontal = Vertical
other Vertical = Horizontal

-- dx1 dy1
abbrev pub move : List ℤ → List Stroke
move (dx1 ∷ dy1 ∷ []) = Move (by dx1 dy1) ∷ []
move _ = []

-- d1
abbrev pub move_along : Axis → List ℤ → List Stroke
move_along axis (d1 ∷ []) = Move (along axis d1) ∷ []
move_along axis _ = []

-- {dxa dya}+
abbrev pub lines : List ℤ → List Stroke
lines (dxa ∷ dya ∷ rest) = Line (by dxa dya) ∷ lines rest
lines _ = []

-- {da}+: along one axis and the other alternately
abbrev pub lines_in_turn : Axis → List ℤ → List Stroke
lines_in_turn axis (da ∷ rest) = Line (along axis da) ∷ lines_in_turn (other axis) rest
lines_in_turn axis [] = []

-- {dxa dya dxb dyb dxc dyc}+
abbrev pub curves : List ℤ → List Stroke
curves (dxa ∷ dya ∷ dxb ∷ dyb ∷ dxc ∷ dyc ∷ rest) = Curve (by dxa dya) (by dxb dyb) (by dxc dyc) ∷ curves rest
curves _ = []

-- {da dxb dyb dc}+: each curve begins and ends along the axis, except that the first begins with `first` along the other axis
abbrev pub curves_along : Axis → (first : ℤ) → List ℤ → List Stroke
curves_along axis first (da ∷ dxb ∷ dyb ∷ dc ∷ rest) =
    Curve (aside axis da first) (by dxb dyb) (along axis dc) ∷ curves_along axis (pos 0) rest
curves_along axis first _ = []

-- d1? {da dxb dyb dc}+: if the number of operands is odd, the first curve begins with d1 along the other axis
abbrev pub curves_level : Axis → List ℤ → List Stroke
curves_level axis [] = []
curves_level axis (d ∷ rest) = if length rest % 2 == 0 then curves_along axis d rest else curves_along axis (pos 0) (d ∷ rest)

-- the operand if it is the only one, otherwise zero
abbrev pub alone : List ℤ → ℤ
alone (d ∷ []) = d
alone _ = pos 0

-- {da dxb dyb dc}+ de?: each curve begins along one axis and ends along the other, alternately. If only one operand is left after the last
-- curve, that curve ends with it along the other axis.
abbrev pub curves_in_turn : Axis → List ℤ → List Stroke
curves_in_turn axis (da ∷ dxb ∷ dyb ∷ dc ∷ rest) = Curve (along axis da) (by dxb dyb) (aside (other axis) dc (alone rest))
    ∷ curves_in_turn (other axis) rest
curves_in_turn axis _ = []

-- {dxa dya dxb dyb dxc dyc}+ dxd dyd: the last two are a line
abbrev pub curves_then_line : List ℤ → List Stroke
curves_then_line xs = curves (take (length xs - 2) xs) ++ lines (drop (length xs - 2) xs)

-- {dxa dya}+ dxb dyb dxc dyc dxd dyd: the last six are a curve
abbrev pub lines_then_curve : List ℤ → List Stroke
lines_then_curve xs = lines (take (length xs - 6) xs) ++ curves (drop (length xs - 6) xs)

-- the two curves of a flex
abbrev pub two : (a b c d e f : Vector) → List Stroke
two a b c d e f = Curve a b c ∷ Curve d e f ∷ []

-- dx1 dy1 dx2 dy2 dx3 dy3 dx4 dy4 dx5 dy5 dx6 dy6 fd
abbrev pub flex : List ℤ → List Stroke
flex (dx1 ∷ dy1 ∷ dx2 ∷ dy2 ∷ dx3 ∷ dy3 ∷ dx4 ∷ dy4 ∷ dx5 ∷ dy5 ∷ dx6 ∷ dy6 ∷ fd ∷ []) =
    two (by dx1 dy1) (by dx2 dy2) (by dx3 dy3) (by dx4 dy4) (by dx5 dy5) (by dx6 dy6)
flex _ = []

-- dx1 dx2 dy2 dx3 dx4 dx5 dx6: ends at the height of its start
abbrev pub hflex : List ℤ → List Stroke
hflex (dx1 ∷ dx2 ∷ dy2 ∷ dx3 ∷ dx4 ∷ dx5 ∷ dx6 ∷ []) =
    two (by dx1 (pos 0)) (by dx2 dy2) (by dx3 (pos 0)) (by dx4 (pos 0)) (by dx5 (neg_ℤ dy2)) (by dx6 (pos 0))
hflex _ = []

-- dx1 dy1 dx2 dy2 dx3 dx4 dx5 dy5 dx6: ends at the height of its start
abbrev pub hflex1 : List ℤ → List Stroke
hflex1 (dx1 ∷ dy1 ∷ dx2 ∷ dy2 ∷ dx3 ∷ dx4 ∷ dx5 ∷ dy5 ∷ dx6 ∷ []) =
    two (by dx1 dy1) (by dx2 dy2) (by dx3 (pos 0)) (by dx4 (pos 0)) (by dx5 dy5) (by dx6 (neg_ℤ (dy1 +ℤ dy2 +ℤ dy5)))
hflex1 _ = []

-- The last vector after vectors with this sum. It is d6 along the axis on which they went further, and goes back to the start on the other
-- axis. If they went equally far on both, d6 is vertical.
abbrev pub back : (dx dy d6 : ℤ) → Vector
back dx dy d6 = if nat_lt (nat_abs dy) (nat_abs dx) then by d6 (neg_ℤ dy) else by (neg_ℤ dx) d6

-- dx1 dy1 dx2 dy2 dx3 dy3 dx4 dy4 dx5 dy5 d6
abbrev pub flex1 : List ℤ → List Stroke
flex1 (dx1 ∷ dy1 ∷ dx2 ∷ dy2 ∷ dx3 ∷ dy3 ∷ dx4 ∷ dy4 ∷ dx5 ∷ dy5 ∷ d6 ∷ []) =
    two (by dx1 dy1) (by dx2 dy2) (by dx3 dy3) (by dx4 dy4) (by dx5 dy5)
    (back (dx1 +ℤ dx2 +ℤ dx3 +ℤ dx4 +ℤ dx5) (dy1 +ℤ dy2 +ℤ dy3 +ℤ dy4 +ℤ dy5) d6)
flex1 _ = []
