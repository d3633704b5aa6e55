-- New numbers of glyphs: the new number of a kept glyph is its index.
use Rattle.std.specs.Prelude.{◌≡◌, ℕ, ◌<◌, ◌==◌, List, [], ◌∷◌, Option, None, Some, length, filter_map, slice_index, slice_index_or, if◌then◌else◌}
use Rattle.postscript_layout_write.specs.First.{first_some}

-- the new number of a glyph, if it is kept
abbrev pub new_number : (kept : List ℕ) → (glyph : ℕ) → Option ℕ
new_number kept glyph = first_some (λ k. if slice_index kept k == glyph then Some k else None) (length kept)

abbrev pub joined : Option ℕ → Option (List ℕ) → Option (List ℕ)
joined None numbers = None
joined (Some number) None = None
joined (Some number) (Some numbers) = Some (number ∷ numbers)

-- the new numbers of glyphs, if all of them are kept
abbrev pub renumbered : (kept glyphs : List ℕ) → Option (List ℕ)
renumbered kept [] = Some []
renumbered kept (glyph ∷ glyphs) = joined (new_number kept glyph) (renumbered kept glyphs)

-- the rules whose glyphs are all kept, in order, under new numbers
abbrev pub kept_rules : (kept : List ℕ) → (rules : List (List ℕ)) → List (List ℕ)
kept_rules kept rules = filter_map (renumbered kept) rules

-- entry g is the new number of glyph g
pub record AreNumbers (kept : List ℕ) (numbers : List (Option ℕ)) : Type 0 where
  pub many : length numbers ≡ 65536
  pub each : (glyph : ℕ) → glyph < 65536 → slice_index_or numbers glyph None ≡ new_number kept glyph
