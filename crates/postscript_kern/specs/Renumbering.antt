-- New numbers of glyphs: the new number of a kept glyph is its index.
use Rattle.std.specs.Prelude.{◌≡◌, ℕ, ◌+◌, ◌*◌, ◌<◌, ◌==◌, List, Option, None, Some, length, slice_index, slice_index_or, if◌then◌else◌}
use Rattle.postscript_kern.specs.First.{first_some}

-- the new number of a glyph, if it is kept: its first index
abbrev pub new_number : (kept : List ℕ) → (glyph : ℕ) → Option ℕ
new_number kept glyph = first_some (λ k. if slice_index kept k == glyph then Some k else None) (length kept)

-- The left and the right glyph make a number of 32 bits, by which pairs are ordered (OpenType, "kern", "Format 0").
abbrev pub pair : (left right : ℕ) → ℕ
pair left right = left * 65536 + right

abbrev pub both : Option ℕ → Option ℕ → Option ℕ
both (Some x) (Some y) = Some (pair x y)
both _ _ = None

-- the number of a pair under the new numbers of its glyphs, if both are kept
abbrev pub new_pair : (kept : List ℕ) → (left right : ℕ) → Option ℕ
new_pair kept left right = both (new_number kept left) (new_number kept right)

-- entry g is the new number of glyph g
pub record AreNumbers (kept : List ℕ) (numbers : List (Option ℕ)) : Type 0 where
  pub many : length numbers ≡ 65536
  pub each : (glyph : ℕ) → glyph < 65536 → slice_index_or numbers glyph None ≡ new_number kept glyph
