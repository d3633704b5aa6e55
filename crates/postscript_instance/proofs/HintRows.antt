-- Known hints and reals (Technical Note 5176, section 15 and Table 5; OpenType 1.9, "CFF2", "blend").
use Rattle.std.proofs.Common.{◌≡◌, refl, [], ◌∷◌, pos, true, false, None}
use Rattle.std.specs.Prelude.{negsuc}
use Rattle.postscript_instance.specs.Hints.{all_bits, bits_of, blend, blended, chosen, is_hint_operator}
use Rattle.postscript_instance.specs.Nearest.{nearest}
use Rattle.postscript_instance.specs.Numbers.{numbers_text}
use Rattle.postscript_instance.specs.Private.{rounded_edges}
use Rattle.postscript_instance.specs.Reals.{real_text}
use Rattle.postscript_instance.specs.declared.privates.Number.TheVariants.{Blended, Real, Whole}

-- StdVW 80, and 20 more where the scalar is 1: it is 90 where the scalar is one half.
stem_of_90 : blended (Whole (pos 80) 0 1) (Whole (pos 20) 1 2 ∷ []) (32768 ∷ []) ≡ Blended (pos 5898240)
stem_of_90 = refl

stem_of_90_text : numbers_text (pos 5898240 ∷ []) ≡ 0xe5 ∷ []
stem_of_90_text = refl

-- 7, and 80 blended: the last operand is the number of defaults.
blend_of_one : blend (Whole (pos 7) 0 1 ∷ Whole (pos 80) 1 2 ∷ Whole (pos 20) 2 3 ∷ Whole (pos 1) 3 4 ∷ []) (32768 ∷ [])
    ≡ Whole (pos 7) 0 1 ∷ Blended (pos 5898240) ∷ []
blend_of_one = refl

-- two defaults need two deltas
blend_of_two_cut : blend (Whole (pos 80) 0 1 ∷ Whole (pos 20) 1 2 ∷ Whole (pos 2) 2 3 ∷ []) (32768 ∷ []) ≡ []
blend_of_two_cut = refl

-- Edges at -10.5 and 10.5 are rounded up, to -10 and 11.
zones : rounded_edges (pos 0) (negsuc 688127 ∷ pos 1376256 ∷ []) ≡ negsuc 655359 ∷ pos 1376256 ∷ []
unfolding nearest
zones = refl

-- reals are not blended, and whole numbers are only if they have 16 bits
no_bits : all_bits (Whole (pos 1) 0 1 ∷ Real 1 3 ∷ []) ≡ None
no_bits = refl

too_long : bits_of (Whole (pos 32768) 0 5) ≡ None
too_long = refl

-- `vsindex` 1, and without an operand
second_data : chosen 0 (Whole (pos 1) 0 1 ∷ []) ≡ 1
second_data = refl

same_data : chosen 3 [] ≡ 3
same_data = refl

-- BlueValues, StemSnapH and LanguageGroup are hints. ForceBold, Subrs and `blend` are not.
blue_values : is_hint_operator (6 ∷ []) ≡ true
blue_values = refl

stem_snap : is_hint_operator (12 ∷ 12 ∷ []) ≡ true
stem_snap = refl

language_group : is_hint_operator (12 ∷ 17 ∷ []) ≡ true
language_group = refl

force_bold : is_hint_operator (12 ∷ 14 ∷ []) ≡ false
force_bold = refl

subrs : is_hint_operator (19 ∷ []) ≡ false
subrs = refl

blend_operator : is_hint_operator (23 ∷ []) ≡ false
blend_operator = refl

-- 0.039625 is as it is
short_real : real_text (0x1e ∷ 0xa0 ∷ 0x39 ∷ 0x62 ∷ 0x5f ∷ []) ≡ 0x1e ∷ 0xa0 ∷ 0x39 ∷ 0x62 ∷ 0x5f ∷ []
short_real = refl

-- 0.03712345678912345678 has 19 significant digits, of which the last one is left out.
long_fraction : real_text (0x1e ∷ 0xa0 ∷ 0x37 ∷ 0x12 ∷ 0x34 ∷ 0x56 ∷ 0x78 ∷ 0x91 ∷ 0x23 ∷ 0x45 ∷ 0x67 ∷ 0x8f ∷ [])
    ≡ 0x1e ∷ 0xa0 ∷ 0x37 ∷ 0x12 ∷ 0x34 ∷ 0x56 ∷ 0x78 ∷ 0x91 ∷ 0x23 ∷ 0x45 ∷ 0x67 ∷ 0xff ∷ []
long_fraction = refl

-- 1234567890123456789 becomes 1234567890123456780, since the digit is before the point.
long_whole : real_text (0x1e ∷ 0x12 ∷ 0x34 ∷ 0x56 ∷ 0x78 ∷ 0x90 ∷ 0x12 ∷ 0x34 ∷ 0x56 ∷ 0x78 ∷ 0x9f ∷ [])
    ≡ 0x1e ∷ 0x12 ∷ 0x34 ∷ 0x56 ∷ 0x78 ∷ 0x90 ∷ 0x12 ∷ 0x34 ∷ 0x56 ∷ 0x78 ∷ 0x0f ∷ []
long_whole = refl

-- 0.00012E-5: zeros before the first significant digit do not count, and the exponent is kept.
exponent_kept : real_text (0x1e ∷ 0xa0 ∷ 0x00 ∷ 0x12 ∷ 0xc5 ∷ 0xff ∷ []) ≡ 0x1e ∷ 0xa0 ∷ 0x00 ∷ 0x12 ∷ 0xc5 ∷ 0xff ∷ []
exponent_kept = refl
