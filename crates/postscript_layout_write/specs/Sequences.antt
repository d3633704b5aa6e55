-- Contexts of substitutions, and their sets of glyphs (OpenType 1.9, "OpenType Layout Common Table Formats", "Sequence context formats" and "Chained
-- sequence context formats"; ISO/IEC 14496-22, 6.2). A context has a set of glyphs for each position, and actions: pairs of a position of the input and a
-- lookup that is applied there.
use Rattle.std.specs.Prelude.{ℕ, Bool, true, false, ◌&&◌, List, [], ◌∷◌, filter, is_some, length, slice_index, if◌then◌else◌}
use Rattle.std.specs.List.{range_with_len}
use Rattle.postscript_layout_write.specs.Ranges.{coverage_index}

-- sets of glyphs before a position, the nearest first, sets from the position on, and sets after these; the actions are pairs in one list
pub record Context : Type 0 where
  pub before : List (List ℕ)
  pub input : List (List ℕ)
  pub after : List (List ℕ)
  pub actions : List ℕ

-- the kept glyphs with a property, as new numbers
abbrev pub kept_by : (kept : List ℕ) → (has : ℕ → Bool) → List ℕ
kept_by kept has = filter (λ k. has (slice_index kept k)) (range_with_len 0 (length kept))

-- whether a coverage table has a glyph
abbrev pub covers : List ℕ → (coverage glyph : ℕ) → Bool
covers gsub coverage glyph = is_some (coverage_index gsub coverage glyph)

-- the kept glyphs that a coverage table has, as new numbers
abbrev pub covered_of : (gsub kept : List ℕ) → (coverage : ℕ) → List ℕ
covered_of gsub kept coverage = kept_by kept (covers gsub coverage)

abbrev pub is_some_glyph : List ℕ → Bool
is_some_glyph [] = false
is_some_glyph (glyph ∷ glyphs) = true

-- whether each set has a glyph
abbrev pub all_some : List (List ℕ) → Bool
all_some [] = true
all_some (set ∷ sets) = is_some_glyph set && all_some sets

-- whether a context can apply: each of its sets has a kept glyph
abbrev pub can_apply : Context → Bool
can_apply context = (all_some context.before && all_some context.input) && all_some context.after

abbrev pub if_applies : Context → List Context
if_applies context = if can_apply context then context ∷ [] else []
