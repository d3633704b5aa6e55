-- Known codes of glyphs (Technical Note 5176, section 12).
use Rattle.std.proofs.Common.{◌≡◌, refl, ℕ, [], ◌∷◌, ◌<◌, arith}
use Rattle.postscript_base.specs.Index.{number_at}
use Rattle.postscript_view.specs.Encoding.{IsInList, IsInCodeRanges, IsFirstSupplement, coded, supplement_code}

-- format 0: the codes of the glyphs 1 and 2
second_of_list : IsInList (65 ∷ 66 ∷ []) 66 2
unfolding number_at
second_of_list = record { behind = omega arith; there = omega arith; code_is = refl }

-- The range of the Note's example: the codes 51 to 55 are those of five glyphs.
first_of_five : IsInCodeRanges (51 ∷ 4 ∷ []) 51 1
unfolding number_at coded
first_of_five = record { range = 0; there = omega arith; from = omega arith; to = omega arith; glyph_is = refl }

last_of_five : IsInCodeRanges (51 ∷ 4 ∷ []) 55 5
unfolding number_at coded
last_of_five = record { range = 0; there = omega arith; from = omega arith; to = omega arith; glyph_is = refl }

-- and a second range goes on with the next glyph
behind_five : IsInCodeRanges (51 ∷ 4 ∷ 97 ∷ 0 ∷ []) 97 6
unfolding number_at coded
behind_five = record { range = 1; there = omega arith; from = omega arith; to = omega arith; glyph_is = refl }

-- a perfectly ordered encoding: the range 0 255
last_of_all : IsInCodeRanges (0 ∷ 255 ∷ []) 255 256
unfolding number_at coded
last_of_all = record { range = 0; there = omega arith; from = omega arith; to = omega arith; glyph_is = refl }

-- the second of two supplements names glyph identifier 35 for the code 66
second_supplement : IsFirstSupplement (65 ∷ 1 ∷ 135 ∷ 66 ∷ 0 ∷ 35 ∷ []) 66 35
unfolding number_at
second_supplement = record { supplement = 1; there = omega arith; has = refl; named = refl; none_before = none }
  where
    none : (s : ℕ) → s < 1 → supplement_code (65 ∷ 1 ∷ 135 ∷ 66 ∷ 0 ∷ 35 ∷ []) s ≡ 66 → ⊥
    none s less is = let first : s ≡ 0 = omega (arith, less) in let same = rw first at is in absurd (omega (arith, same))
