-- The charset of a font (Technical Note 5176, section 13, "Charsets").
use Rattle.std.specs.Prelude.{◌≡◌, ◌⊎◌, ℕ, ◌+◌, ◌-◌, ◌*◌, ◌≤◌, List, length, take, drop, Some}
use Rattle.postscript_base.specs.Compact1.Dictionary.{Dictionary}
use Rattle.postscript_base.specs.declared.compact1.operator.Operator.TheVariants as operators
use Rattle.postscript_base.specs.Index.{number_at}
use Rattle.postscript_view.specs.Select.{offset_of}
use Rattle.postscript_view.specs.declared.char_set.CharSetView.{CharSetView}
use Rattle.postscript_view.specs.declared.char_set.Identifiers.{Identifiers}
use Rattle.postscript_view.specs.declared.char_set.Identifiers.TheVariants.{ISOAdobe, Expert, ExpertSubset, Listed, Ranges1, Ranges2}

-- At the offset there is the format byte of a charset. After it there are two bytes for each glyph except the first, or ranges. The view of
-- a charset with ranges has all bytes after the format byte.
abbrev pub CharSetStandsAt : Identifiers → List ℕ → (place glyphs : ℕ) → Type 0
CharSetStandsAt ISOAdobe bytes place glyphs = ⊥
CharSetStandsAt Expert bytes place glyphs = ⊥
CharSetStandsAt ExpertSubset bytes place glyphs = ⊥
CharSetStandsAt (Listed identifiers) bytes place glyphs =
    (number_at bytes place 1 ≡ 0) × (place + 1 + 2 * (glyphs - 1) ≤ length bytes)
    × (identifiers.now ≡ take (2 * (glyphs - 1)) (drop (place + 1) bytes))
CharSetStandsAt (Ranges1 ranges) bytes place glyphs = (number_at bytes place 1 ≡ 1) × (place + 1 ≤ length bytes)
    × (ranges.now ≡ drop (place + 1) bytes)
CharSetStandsAt (Ranges2 ranges) bytes place glyphs = (number_at bytes place 1 ≡ 2) × (place + 1 ≤ length bytes)
    × (ranges.now ≡ drop (place + 1) bytes)

-- The offsets 0, 1 and 2 are the predefined charsets. At any other offset there is a charset of the font's own.
abbrev pub IsCharSetAtOffset : Identifiers → List ℕ → (offset glyphs : ℕ) → Type 0
IsCharSetAtOffset identifiers bytes offset glyphs =
    ((offset ≡ 0) × (identifiers ≡ ISOAdobe)) ⊎ ((offset ≡ 1) × (identifiers ≡ Expert)) ⊎ ((offset ≡ 2) × (identifiers ≡ ExpertSubset))
    ⊎ ((3 ≤ offset) × CharSetStandsAt identifiers bytes offset glyphs)

-- the SIDs that a Top DICT names, for a number of glyphs
abbrev pub AreNamedIn : Identifiers → List ℕ → Dictionary → (glyphs : ℕ) → Type 0
AreNamedIn identifiers bytes map glyphs = (offset : ℕ) × (offset_of map operators.CharSet ≡ Some offset)
    × IsCharSetAtOffset identifiers bytes offset glyphs

-- the charset that a Top DICT names, for a font with this number of glyphs
pub record IsCharSetOf (set : CharSetView) (bytes : List ℕ) (map : Dictionary) (glyphs : ℕ) : Type 0 where
  pub identifiers : AreNamedIn set.identifiers bytes map glyphs
  pub counted : set.glyphs ≡ glyphs
