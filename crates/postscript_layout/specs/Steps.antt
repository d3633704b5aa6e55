-- How a set of glyphs grows.
use Rattle.std.specs.Prelude.{◌≡◌, ◌⊎◌, ℕ, ◌+◌, ◌-◌, ◌<◌, List, [], ◌∷◌, Bool, true, false, slice_index_or}
use Rattle.std.specs.List.{All, Contains}
use Rattle.postscript_layout.specs.Closure.{Rules, IsClosedBy}
use Rattle.postscript_layout.specs.Numbers.{word, words}
use Rattle.postscript_layout.specs.Substitutions.{Substitutes, SubstitutesGlyph}
use Rattle.postscript_layout.specs.declared.glyph_set.GlyphSet.{GlyphSet}

abbrev pub IsHeld : GlyphSet → (glyph : ℕ) → Type 0
IsHeld set glyph = slice_index_or set.marks.items glyph false ≡ true

-- if the set has not grown, it is unchanged
abbrev pub IsSame : (old new : GlyphSet) → Type 0
IsSame old new = new.grown ≡ false → (old.grown ≡ false) × (new.marks.items ≡ old.marks.items)

-- if no glyph is new, the set has not grown
abbrev pub Stays : (old new : GlyphSet) → Type 0
Stays old new = ((glyph : ℕ) → IsHeld new glyph → IsHeld old glyph) → old.grown ≡ false → new.grown ≡ false

-- some glyphs are added to the set
pub record HoldsMore (old : GlyphSet) (added : List ℕ) (new : GlyphSet) : Type 0 where
  pub grows : (glyph : ℕ) → IsHeld old glyph → IsHeld new glyph
  pub there : All (IsHeld new) added
  pub only : (glyph : ℕ) → IsHeld new glyph → IsHeld old glyph ⊎ Contains added glyph
  pub same : IsSame old new
  pub stays : Stays old new

-- all numbers with a property are added to the set, and no others
pub record Gathers (P : ℕ → Type 0) (old new : GlyphSet) : Type 0 where
  pub grows : (n : ℕ) → IsHeld old n → IsHeld new n
  pub there : (n : ℕ) → P n → IsHeld new n
  pub only : (n : ℕ) → IsHeld new n → IsHeld old n ⊎ P n

-- Each of these substitutions was applied to the glyphs of the set, and no other glyphs were added.
pub record Follows (rules : Rules) (old new : GlyphSet) : Type 0 where
  pub grows : (glyph : ℕ) → IsHeld old glyph → IsHeld new glyph
  pub done : (ins outs : List ℕ) → rules ins outs → All (IsHeld old) ins → All (IsHeld new) outs
  pub least : (other : List ℕ) → IsClosedBy rules (Contains other) → ((glyph : ℕ) → IsHeld old glyph → Contains other glyph) →
      (glyph : ℕ) → IsHeld new glyph → Contains other glyph
  pub same : IsSame old new
  pub stays : Stays old new

-- the substitutions of rules 0 to count - 1 together
abbrev pub Below : (ℕ → Rules) → (count : ℕ) → Rules
Below rules count ins outs = (k : ℕ) × (k < count) × rules k ins outs

-- one substitution
abbrev pub Makes : (ins outs : List ℕ) → Rules
Makes these those ins outs = (ins ≡ these) × (outs ≡ those)

-- the ligature at an offset, of a glyph and the components after it
abbrev pub joins : (gsub : List ℕ) → (glyph offset : ℕ) → Rules
joins gsub glyph offset = Makes (glyph ∷ words gsub (offset + 4) (word gsub (offset + 2) - 1)) (word gsub offset ∷ [])

-- the substitutions of a subtable for the glyphs of a range
abbrev pub in_range : (gsub : List ℕ) → (type subtable range : ℕ) → Rules
in_range gsub type subtable range =
    Below (λ n. SubstitutesGlyph gsub type subtable (word gsub (range + 4) + n) (word gsub range + n)) (word gsub (range + 2) + 1 - word gsub range)

-- The set has its old glyphs and is closed, and every closed list with its old glyphs has all of its glyphs.
pub record IsSettled (gsub lookups : List ℕ) (old new : GlyphSet) : Type 0 where
  pub grows : (glyph : ℕ) → IsHeld old glyph → IsHeld new glyph
  pub closed : IsClosedBy (Substitutes gsub lookups) (IsHeld new)
  pub least : (other : List ℕ) → IsClosedBy (Substitutes gsub lookups) (Contains other) → ((glyph : ℕ) → IsHeld old glyph → Contains other glyph) →
      (glyph : ℕ) → IsHeld new glyph → Contains other glyph

-- the list has the indices of the marks that are set, and no others
abbrev pub AreMarked : (marks : List Bool) → (glyphs : List ℕ) → Type 0
AreMarked marks glyphs = ((glyph : ℕ) → slice_index_or marks glyph false ≡ true → Contains glyphs glyph)
    × ((glyph : ℕ) → Contains glyphs glyph → slice_index_or marks glyph false ≡ true)
