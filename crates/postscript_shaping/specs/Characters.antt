-- Properties of characters by which shapers choose other characters (The Unicode Standard, 3.9, 4.4, 4.5, 4.7, 9.2).
use Rattle.std.specs.Prelude.{ℕ, Bool, true, false, ◌==◌, ◌&&◌, ◌||◌, nat_lt}
use Rattle.ucd_bidi.specs.BidiClass.{bidi_class}
use Rattle.ucd_bidi.specs.Binary.{is_bidi_mirrored}
use Rattle.ucd_bidi.specs.declared.BidiClass.{BidiClass}
use Rattle.ucd_bidi.specs.declared.BidiClass.TheVariants.{ArabicLetter, RightToLeft}
use Rattle.ucd_category.specs.GeneralCategory.{general_category}
use Rattle.ucd_category.specs.GeneralCategoryGroup.{in_group}
use Rattle.ucd_category.specs.declared.GeneralCategoryGroup.TheVariants.{Mark}

-- a code point that is no surrogate
abbrev pub is_scalar : (char : ℕ) → Bool
is_scalar char = nat_lt char 0xd800 || (nat_lt 0xdfff char && nat_lt char 0x110000)

abbrev pub is_mark : (char : ℕ) → Bool
is_mark char = is_scalar char && in_group Mark (general_category char)

-- A digit that modifies a syllable of an Indic script, such as superscript two (UAX 44, Indic_Syllabic_Category, Syllable_Modifier). Other syllable
-- modifiers are marks.
abbrev pub is_modifier : (char : ℕ) → Bool
is_modifier char = (nat_lt 0xb1 char && nat_lt char 0xb4) || (char == 0x2074 || (nat_lt 0x2081 char && nat_lt char 0x2085))

-- a character that is attached to a base
abbrev pub is_attached : (char : ℕ) → Bool
is_attached char = is_mark char || is_modifier char

abbrev pub goes_left : BidiClass → Bool
goes_left RightToLeft = true
goes_left ArabicLetter = true
goes_left _ = false

-- a letter of a script that is written from right to left
abbrev pub is_right_to_left : (char : ℕ) → Bool
is_right_to_left char = is_scalar char && goes_left (bidi_class char)

-- a character with a mirrored form in text from right to left
abbrev pub is_mirrored : (char : ℕ) → Bool
is_mirrored char = is_scalar char && is_bidi_mirrored char

-- a character of the blocks Arabic Presentation Forms-A and -B
abbrev pub is_arabic_form : (char : ℕ) → Bool
is_arabic_form char = (nat_lt 0xfb4f char && nat_lt char 0xfe00) || (nat_lt 0xfe6f char && nat_lt char 0xff00)
