-- Numbers as decimals, and a segment of path data.
use Rattle.std.proofs.Common.{◌≡◌, pos, neg_ℤ, [], ◌∷◌, ◌++◌, codes, refl}
use Rattle.std.specs.Fmt.{decimal}
use Rattle.postscript_outline.specs.declared.segment.Segment.TheVariants.{LineTo}
use Rattle.postscript_outline.specs.Points.{point}
use Rattle.postscript_outline.specs.Svg.{number, segment}
use Rattle.postscript_outline.specs.Fractions.{digits, spelled}

-- 1.5
one_and_a_half : number (pos 98304) ≡ decimal 1 ++ (codes "." ++ (decimal 5 ++ []))
one_and_a_half = refl

-- -0.0625
minus_a_sixteenth : number (neg_ℤ (pos 4096)) ≡ codes
    "-" ++ (decimal 0 ++ (codes "." ++ (decimal 0 ++ (decimal 6 ++ (decimal 2 ++ (decimal 5 ++ []))))))
minus_a_sixteenth = refl

-- a 65536th has sixteen digits, and the fraction ends there: 0.0000152587890625
a_65536th : digits 17 1 ≡ 0 ∷ 0 ∷ 0 ∷ 0 ∷ 1 ∷ 5 ∷ 2 ∷ 5 ∷ 8 ∷ 7 ∷ 8 ∷ 9 ∷ 0 ∷ 6 ∷ 2 ∷ 5 ∷ []
a_65536th = refl

three_quarters : spelled (digits 16 49152) ≡ 75
three_quarters = refl

whole : number (pos 65536000) ≡ decimal 1000 ++ []
whole = refl

line : segment (LineTo (point (pos 65536) (neg_ℤ (pos 65536)))) ≡ codes
    "L" ++ ((decimal 1 ++ []) ++ (codes " " ++ (codes "-" ++ (decimal 1 ++ []))))
line = refl
