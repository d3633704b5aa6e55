-- New numbers of glyphs: the new number of a kept glyph is its first index.
use Rattle.std.specs.Prelude.{ℕ, zero, suc, ◌==◌, List, Option, None, Some, length, slice_index, if◌then◌else◌}

-- the first value, or the second one if there is no first
abbrev pub or_else : {X : Type 0} → Option X → Option X → Option X
or_else None y = y
or_else (Some x) y = Some x

-- the first of the values 0 to count - 1 that is there
abbrev pub first_some : {X : Type 0} → (ℕ → Option X) → (count : ℕ) → Option X
first_some f zero = None
first_some f (suc n) = or_else (first_some f n) (f n)

-- The new number of a glyph, if it is kept. The list has the old glyph of each new glyph.
abbrev pub new_number : (glyphs : List ℕ) → (glyph : ℕ) → Option ℕ
new_number glyphs glyph = first_some (λ k. if slice_index glyphs k == glyph then Some k else None) (length glyphs)
