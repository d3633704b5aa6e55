-- FDSelect as it was opened.
use Rattle.std.specs.Prelude.{◌≡◌, ℕ, List, Some}
use Rattle.std.proofs.Props.{props}
use Rattle.postscript_base.specs.Compact1.Dictionary.{Dictionary}
use Rattle.postscript_base.specs.declared.compact1.operator.Operator.TheVariants as operators
use Rattle.postscript_view.specs.Select.{offset_of, IsSelected, Selects}
use Rattle.postscript_view.specs.declared.select.Select.{Select}
use Rattle.postscript_view.specs.declared.select.Select.TheVariants.{Listed, InRanges, Unknown}

-- it is opened at an offset of the bytes, for a number of glyphs; if it is `Unknown`, FDSelect there gives no glyph a Font DICT
abbrev pub SelectStandsAt : Select → List ℕ → (place glyphs : ℕ) → Type 0
SelectStandsAt (Listed list) bytes place glyphs = (list.bytes.now ≡ bytes) × (list.place ≡ place) × (list.glyphs ≡ glyphs)
SelectStandsAt (InRanges ranges) bytes place glyphs = (ranges.bytes.now ≡ bytes) × (ranges.place ≡ place) × (ranges.glyphs ≡ glyphs)
SelectStandsAt Unknown bytes place glyphs = (glyph fd : ℕ) → Selects bytes place glyphs glyph fd → ⊥

-- the same at the offset that a Top DICT names
abbrev pub IsSelectOf : Select → List ℕ → Dictionary → (glyphs : ℕ) → Type 0
IsSelectOf (Listed list) bytes map glyphs = (list.bytes.now ≡ bytes) × (offset_of map operators.FDSelect ≡ Some list.place)
    × (list.glyphs ≡ glyphs)
IsSelectOf (InRanges ranges) bytes map glyphs = (ranges.bytes.now ≡ bytes) × (offset_of map operators.FDSelect ≡ Some ranges.place)
    × (ranges.glyphs ≡ glyphs)
IsSelectOf Unknown bytes map glyphs = (glyph fd : ℕ) → IsSelected bytes map glyphs glyph fd → ⊥

-- any two proofs about the same FDSelect are equal
pub of_prop : (s : Select) (bytes : List ℕ) (map : Dictionary) (glyphs : ℕ) → IsProp (IsSelectOf s bytes map glyphs)
of_prop (Listed list) bytes map glyphs = Prim.hlevel props
of_prop (InRanges ranges) bytes map glyphs = Prim.hlevel props
of_prop Unknown bytes map glyphs = Prim.hlevel props

pub stands_prop : (s : Select) (bytes : List ℕ) (place glyphs : ℕ) → IsProp (SelectStandsAt s bytes place glyphs)
stands_prop (Listed list) bytes place glyphs = Prim.hlevel props
stands_prop (InRanges ranges) bytes place glyphs = Prim.hlevel props
stands_prop Unknown bytes place glyphs = Prim.hlevel props
