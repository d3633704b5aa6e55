-- What operators draw with small operands: the patterns of Technical Note 5177, "Path Construction Operators", written out
-- with the names that it gives the operands.
use Rattle.std.proofs.Common.{◌≡◌, ℤ, pos, neg_ℤ, [], ◌∷◌, refl}
use Rattle.postscript_drawing.specs.declared.stroke.Stroke.TheVariants.{Move, Line, Curve}
use Rattle.postscript_drawing.specs.Operators.{strokes}
use Rattle.postscript_drawing.specs.Strokes.{by}
use Rattle.postscript_type2.specs.declared.operation.Operator.TheVariants.{RMoveTo, HMoveTo, VMoveTo, RLineTo, HLineTo, VLineTo, RRCurveTo, HHCurveTo, VVCurveTo, HVCurveTo, VHCurveTo, RCurveLine, RLineCurve, HFlex, Flex1, HStem, HintMask}

abbrev 0ℤ : ℤ
0ℤ = pos 0

rmoveto : (dx1 dy1 : ℤ) → strokes RMoveTo (dx1 ∷ dy1 ∷ []) ≡ Move (by dx1 dy1) ∷ []
rmoveto dx1 dy1 = refl

hmoveto : (dx1 : ℤ) → strokes HMoveTo (dx1 ∷ []) ≡ Move (by dx1 0ℤ) ∷ []
hmoveto dx1 = refl

vmoveto : (dy1 : ℤ) → strokes VMoveTo (dy1 ∷ []) ≡ Move (by 0ℤ dy1) ∷ []
vmoveto dy1 = refl

rlineto : (dxa dya dxb dyb : ℤ) → strokes RLineTo (dxa ∷ dya ∷ dxb ∷ dyb ∷ []) ≡ Line (by dxa dya) ∷ Line (by dxb dyb) ∷ []
rlineto dxa dya dxb dyb = refl

-- dx1 {dya dxb}*
hlineto-odd : (dx1 dya dxb : ℤ) → strokes HLineTo (dx1 ∷ dya ∷ dxb ∷ []) ≡ Line (by dx1 0ℤ) ∷ Line (by 0ℤ dya) ∷ Line (by dxb 0ℤ) ∷ []
hlineto-odd dx1 dya dxb = refl

-- {dxa dyb}+
hlineto-even : (dxa dyb : ℤ) → strokes HLineTo (dxa ∷ dyb ∷ []) ≡ Line (by dxa 0ℤ) ∷ Line (by 0ℤ dyb) ∷ []
hlineto-even dxa dyb = refl

-- dy1 {dxa dyb}*
vlineto-odd : (dy1 dxa dyb : ℤ) → strokes VLineTo (dy1 ∷ dxa ∷ dyb ∷ []) ≡ Line (by 0ℤ dy1) ∷ Line (by dxa 0ℤ) ∷ Line (by 0ℤ dyb) ∷ []
vlineto-odd dy1 dxa dyb = refl

rrcurveto : (dxa dya dxb dyb dxc dyc : ℤ) → strokes RRCurveTo (dxa ∷ dya ∷ dxb ∷ dyb ∷ dxc ∷ dyc ∷ []) ≡ Curve (by dxa dya) (by dxb dyb)
    (by dxc dyc) ∷ []
rrcurveto dxa dya dxb dyb dxc dyc = refl

-- {dxa dxb dyb dxc}+
hhcurveto-even : (dxa dxb dyb dxc : ℤ) → strokes HHCurveTo (dxa ∷ dxb ∷ dyb ∷ dxc ∷ []) ≡ Curve (by dxa 0ℤ) (by dxb dyb) (by dxc 0ℤ) ∷ []
hhcurveto-even dxa dxb dyb dxc = refl

-- dy1 {dxa dxb dyb dxc}+: the second curve begins level again
hhcurveto-odd : (dy1 dxa dxb dyb dxc dxd dxe dye dxf : ℤ) → strokes HHCurveTo (dy1 ∷ dxa ∷ dxb ∷ dyb ∷ dxc ∷ dxd ∷ dxe ∷ dye ∷ dxf ∷ [])
    ≡ Curve (by dxa dy1) (by dxb dyb) (by dxc 0ℤ) ∷ Curve (by dxd 0ℤ) (by dxe dye) (by dxf 0ℤ) ∷ []
hhcurveto-odd dy1 dxa dxb dyb dxc dxd dxe dye dxf = refl

-- dx1 {dya dxb dyb dyc}+
vvcurveto-odd : (dx1 dya dxb dyb dyc : ℤ) → strokes VVCurveTo (dx1 ∷ dya ∷ dxb ∷ dyb ∷ dyc ∷ []) ≡ Curve (by dx1 dya) (by dxb dyb)
    (by 0ℤ dyc) ∷ []
vvcurveto-odd dx1 dya dxb dyb dyc = refl

vvcurveto-even : (dya dxb dyb dyc : ℤ) → strokes VVCurveTo (dya ∷ dxb ∷ dyb ∷ dyc ∷ []) ≡ Curve (by 0ℤ dya) (by dxb dyb) (by 0ℤ dyc) ∷ []
vvcurveto-even dya dxb dyb dyc = refl

-- dx1 dx2 dy2 dy3
hvcurveto-4 : (dx1 dx2 dy2 dy3 : ℤ) → strokes HVCurveTo (dx1 ∷ dx2 ∷ dy2 ∷ dy3 ∷ []) ≡ Curve (by dx1 0ℤ) (by dx2 dy2) (by 0ℤ dy3) ∷ []
hvcurveto-4 dx1 dx2 dy2 dy3 = refl

-- dx1 dx2 dy2 dy3 dxf
hvcurveto-5 : (dx1 dx2 dy2 dy3 dxf : ℤ) → strokes HVCurveTo (dx1 ∷ dx2 ∷ dy2 ∷ dy3 ∷ dxf ∷ []) ≡ Curve (by dx1 0ℤ) (by dx2 dy2)
    (by dxf dy3) ∷ []
hvcurveto-5 dx1 dx2 dy2 dy3 dxf = refl

-- dxa dxb dyb dyc dyd dxe dye dxf
hvcurveto-8 : (dxa dxb dyb dyc dyd dxe dye dxf : ℤ) → strokes HVCurveTo (dxa ∷ dxb ∷ dyb ∷ dyc ∷ dyd ∷ dxe ∷ dye ∷ dxf ∷ [])
    ≡ Curve (by dxa 0ℤ) (by dxb dyb) (by 0ℤ dyc) ∷ Curve (by 0ℤ dyd) (by dxe dye) (by dxf 0ℤ) ∷ []
hvcurveto-8 dxa dxb dyb dyc dyd dxe dye dxf = refl

-- dxa dxb dyb dyc dyd dxe dye dxf dyf
hvcurveto-9 : (dxa dxb dyb dyc dyd dxe dye dxf dyf : ℤ) → strokes HVCurveTo (dxa ∷ dxb ∷ dyb ∷ dyc ∷ dyd ∷ dxe ∷ dye ∷ dxf ∷ dyf ∷ [])
    ≡ Curve (by dxa 0ℤ) (by dxb dyb) (by 0ℤ dyc) ∷ Curve (by 0ℤ dyd) (by dxe dye) (by dxf dyf) ∷ []
hvcurveto-9 dxa dxb dyb dyc dyd dxe dye dxf dyf = refl

-- dx1 dx2 dy2 dy3 dya dxb dyb dxc dxd dxe dye dyf dxf: three curves
hvcurveto-13 : (dx1 dx2 dy2 dy3 dya dxb dyb dxc dxd dxe dye dyf dxf : ℤ) →
    strokes HVCurveTo (dx1 ∷ dx2 ∷ dy2 ∷ dy3 ∷ dya ∷ dxb ∷ dyb ∷ dxc ∷ dxd ∷ dxe ∷ dye ∷ dyf ∷ dxf ∷ [])
    ≡ Curve (by dx1 0ℤ) (by dx2 dy2) (by 0ℤ dy3) ∷ Curve (by 0ℤ dya) (by dxb dyb) (by dxc 0ℤ) ∷ Curve (by dxd 0ℤ) (by dxe dye)
    (by dxf dyf) ∷ []
hvcurveto-13 dx1 dx2 dy2 dy3 dya dxb dyb dxc dxd dxe dye dyf dxf = refl

-- dy1 dx2 dy2 dx3 dyf
vhcurveto-5 : (dy1 dx2 dy2 dx3 dyf : ℤ) → strokes VHCurveTo (dy1 ∷ dx2 ∷ dy2 ∷ dx3 ∷ dyf ∷ []) ≡ Curve (by 0ℤ dy1) (by dx2 dy2)
    (by dx3 dyf) ∷ []
vhcurveto-5 dy1 dx2 dy2 dx3 dyf = refl

-- dya dxb dyb dxc dxd dxe dye dyf dxf
vhcurveto-9 : (dya dxb dyb dxc dxd dxe dye dyf dxf : ℤ) → strokes VHCurveTo (dya ∷ dxb ∷ dyb ∷ dxc ∷ dxd ∷ dxe ∷ dye ∷ dyf ∷ dxf ∷ [])
    ≡ Curve (by 0ℤ dya) (by dxb dyb) (by dxc 0ℤ) ∷ Curve (by dxd 0ℤ) (by dxe dye) (by dxf dyf) ∷ []
vhcurveto-9 dya dxb dyb dxc dxd dxe dye dyf dxf = refl

rcurveline : (dxa dya dxb dyb dxc dyc dxd dyd : ℤ) → strokes RCurveLine (dxa ∷ dya ∷ dxb ∷ dyb ∷ dxc ∷ dyc ∷ dxd ∷ dyd ∷ [])
    ≡ Curve (by dxa dya) (by dxb dyb) (by dxc dyc) ∷ Line (by dxd dyd) ∷ []
rcurveline dxa dya dxb dyb dxc dyc dxd dyd = refl

rlinecurve : (dxa dya dxe dye dxb dyb dxc dyc dxd dyd : ℤ) →
    strokes RLineCurve (dxa ∷ dya ∷ dxe ∷ dye ∷ dxb ∷ dyb ∷ dxc ∷ dyc ∷ dxd ∷ dyd ∷ [])
    ≡ Line (by dxa dya) ∷ Line (by dxe dye) ∷ Curve (by dxb dyb) (by dxc dyc) (by dxd dyd) ∷ []
rlinecurve dxa dya dxe dye dxb dyb dxc dyc dxd dyd = refl

hflex : (dx1 dx2 dy2 dx3 dx4 dx5 dx6 : ℤ) → strokes HFlex (dx1 ∷ dx2 ∷ dy2 ∷ dx3 ∷ dx4 ∷ dx5 ∷ dx6 ∷ [])
    ≡ Curve (by dx1 0ℤ) (by dx2 dy2) (by dx3 0ℤ) ∷ Curve (by dx4 0ℤ) (by dx5 (neg_ℤ dy2)) (by dx6 0ℤ) ∷ []
hflex dx1 dx2 dy2 dx3 dx4 dx5 dx6 = refl

-- further across than up: the end is at the height of the start, which is 1 + 2 + 3 + 4 + 5 back
flex1-across : strokes Flex1 (pos 10 ∷ pos 1 ∷ pos 10 ∷ pos 2 ∷ pos 10 ∷ pos 3 ∷ pos 10 ∷ pos 4 ∷ pos 10 ∷ pos 5 ∷ pos 7 ∷ [])
    ≡ Curve (by (pos 10) (pos 1)) (by (pos 10) (pos 2)) (by (pos 10) (pos 3)) ∷ Curve (by (pos 10) (pos 4)) (by (pos 10) (pos 5))
    (by (pos 7) (neg_ℤ (pos 15))) ∷ []
flex1-across = refl

-- as far up as across: the last operand counts upwards
flex1-up : strokes Flex1 (pos 1 ∷ pos 1 ∷ pos 1 ∷ pos 1 ∷ pos 1 ∷ pos 1 ∷ pos 1 ∷ pos 1 ∷ pos 1 ∷ pos 1 ∷ pos 7 ∷ [])
    ≡ Curve (by (pos 1) (pos 1)) (by (pos 1) (pos 1)) (by (pos 1) (pos 1)) ∷ Curve (by (pos 1) (pos 1)) (by (pos 1) (pos 1))
    (by (neg_ℤ (pos 5)) (pos 7)) ∷ []
flex1-up = refl

-- hints draw nothing
hstem : (y dy : ℤ) → strokes HStem (y ∷ dy ∷ []) ≡ []
hstem y dy = refl

hintmask : strokes HintMask [] ≡ []
hintmask = refl
