-- The charset in a font set, compared with its view (Technical Note 5176, section 13, "Charsets").
use Rattle.std.specs.Prelude.{◌≡◌, ℕ, ◌+◌, ◌/◌, ◌<◌, List, length, Some, slice_get}
use Rattle.postscript_compact1.specs.FontSet.Font.{Font}
use Rattle.postscript_compact1.specs.FontSet.Parts.{HasCharSet}
use Rattle.postscript_compact1.specs.declared.char_set.CharSet.{CharSet}
use Rattle.postscript_compact1.specs.declared.char_set.CharSet.TheVariants as sets
use Rattle.postscript_base.specs.Index.Lent.{items_of}
use Rattle.postscript_view.specs.CharSet.{identifier_at, first_of, more_of}
use Rattle.postscript_view.specs.declared.char_set.Identifiers.{Identifiers}
use Rattle.postscript_view.specs.declared.char_set.Identifiers.TheVariants.{ISOAdobe, Expert, ExpertSubset, Listed, Ranges1, Ranges2}
use Rattle.postscript_view.specs.declared.font.FontView.{FontView}

-- the SIDs of two bytes are those in a list, and there are no others
abbrev pub AreIdentifiers : List ℕ → List ℕ → Type 0
AreIdentifiers listed identifiers = (i : ℕ) → identifier_at identifiers i ≡ slice_get listed i

-- the ranges begin with those in a list: each has the same first SID, and the same number of glyphs after it
abbrev pub BeginWith : {A : Type 0} → (A → ℕ) → (A → ℕ) → (size : ℕ) → List A → List ℕ → Type 0
BeginWith {A} first left size listed ranges =
    (r : ℕ) (range : A) → slice_get listed r ≡ Some range → (r < length ranges / (2 + size)) × (first_of ranges size r ≡ first range)
    × (more_of ranges size r ≡ left range)

-- the same predefined charset, the same SIDs, or the same ranges
abbrev pub IsSame : CharSet → Identifiers → Type 0
IsSame sets.ISOAdobe ISOAdobe = Unit {0}
IsSame sets.Expert Expert = Unit {0}
IsSame sets.ExpertSubset ExpertSubset = Unit {0}
IsSame (sets.Format0 set) (Listed identifiers) = AreIdentifiers set.glyphs identifiers.now
IsSame (sets.Format1 set) (Ranges1 ranges) = BeginWith (λ range. range.first) (λ range. range.left) 1 set.ranges ranges.now
IsSame (sets.Format2 set) (Ranges2 ranges) = BeginWith (λ range. range.first) (λ range. range.left) 2 set.ranges ranges.now
IsSame _ _ = ⊥

-- the Top DICT of the view names the charset of the font with this number, for the same number of glyphs
abbrev pub HasSetOf : ℕ → Font → FontView → Type 0
HasSetOf number font view = (set : CharSet) × (slice_get font.char_sets number ≡ Some set)
    × HasCharSet view.bytes.now 0 (length (items_of view.char_strings)) view.dictionary set
