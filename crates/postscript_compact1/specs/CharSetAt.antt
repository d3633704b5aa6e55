-- The layout of a charset: SIDs or ranges, one after the other (Technical Note 5176, "Charsets").
use Rattle.std.specs.Prelude.{◌≡◌, ℕ, ◌+◌, List, [], ◌∷◌, length, sum_by}
use Rattle.postscript_base.specs.Numbers.{number}
use Rattle.postscript_base.specs.Tape.Outcome.{Got, Reading}
use Rattle.postscript_compact1.specs.CharSets.{glyphs_of_1, glyphs_of_2, range_1, range_2}
use Rattle.postscript_compact1.specs.CharSets.Formats.{Listed, Covered}
use Rattle.postscript_compact1.specs.declared.char_set.CharSet.{CharSet}
use Rattle.postscript_compact1.specs.declared.char_set.CharSet.TheVariants.{ISOAdobe, Expert, ExpertSubset, Format0, Format1, Format2}
use Rattle.postscript_compact1.specs.declared.char_set.range.Range1.{Range1}
use Rattle.postscript_compact1.specs.declared.char_set.range.Range2.{Range2}

-- values one after the other, from the offset `place` to the offset `next`
abbrev pub StandAt : {A : Type 0} → Reading A → List ℕ → ℕ → List A → ℕ → Type 0
StandAt one bytes place [] next = next ≡ place
StandAt one bytes place (value ∷ values) next = (at : ℕ) × (one bytes place ≡ Got value at) × StandAt one bytes at values next

-- After the byte 0 there is an SID of two bytes for each glyph except the first.
pub record ListsGlyphs (bytes : List ℕ) (place glyphs : ℕ) (set : Listed) (next : ℕ) : Type 0 where
  pub format : set.format ≡ 0
  pub behind : ℕ
  pub byte : number 1 bytes place ≡ Got 0 behind
  pub identifiers : StandAt (number 2) bytes behind set.glyphs next
  pub each : 1 + length set.glyphs ≡ glyphs

-- After the format byte there are ranges that together cover each glyph except the first, and no more. `size` gives the number of glyphs in
-- a range, and `one` reads a range. A range covers at least one glyph, so fewer ranges do not cover them.
pub record CoversGlyphs {A : Type 0} (format : ℕ) (size : A → ℕ) (one : Reading A) (bytes : List ℕ) (place glyphs : ℕ) (set : Covered A)
    (next : ℕ) : Type 0 where
  pub same : set.format ≡ format
  pub behind : ℕ
  pub byte : number 1 bytes place ≡ Got format behind
  pub ranges : StandAt one bytes behind set.ranges next
  pub each : 1 + sum_by size set.ranges ≡ glyphs

-- ranges of three bytes and of four bytes
abbrev pub CoversGlyphs1 : List ℕ → ℕ → ℕ → Covered Range1 → ℕ → Type 0
CoversGlyphs1 bytes place glyphs set next = CoversGlyphs 1 glyphs_of_1 range_1 bytes place glyphs set next

abbrev pub CoversGlyphs2 : List ℕ → ℕ → ℕ → Covered Range2 → ℕ → Type 0
CoversGlyphs2 bytes place glyphs set next = CoversGlyphs 2 glyphs_of_2 range_2 bytes place glyphs set next

-- at the offset there is this charset for a number of glyphs; a predefined charset is not at any offset
abbrev pub IsCharSet : List ℕ → ℕ → ℕ → CharSet → ℕ → Type 0
IsCharSet bytes place glyphs ISOAdobe next = ⊥
IsCharSet bytes place glyphs Expert next = ⊥
IsCharSet bytes place glyphs ExpertSubset next = ⊥
IsCharSet bytes place glyphs (Format0 set) next = ListsGlyphs bytes place glyphs set next
IsCharSet bytes place glyphs (Format1 set) next = CoversGlyphs1 bytes place glyphs set next
IsCharSet bytes place glyphs (Format2 set) next = CoversGlyphs2 bytes place glyphs set next
