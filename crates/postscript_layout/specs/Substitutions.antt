-- The substitutions of the GSUB table, whatever features and contexts select them (OpenType 1.9, "GSUB - Glyph Substitution Table";
-- ISO/IEC 14496-22, 6.3.4). Offsets are from the beginning of the table that contains them.
use Rattle.std.specs.Prelude.{◌≡◌, ◌⊎◌, ℕ, ◌+◌, ◌-◌, ◌*◌, ◌%◌, ◌<◌, ◌≤◌, ◌==◌, List, [], ◌∷◌, if◌then◌else◌}
use Rattle.std.specs.List.{Contains, range_with_len}
use Rattle.postscript_layout.specs.Numbers.{word, long, words}

-- A coverage table gives each of its glyphs an index: the index in a list (format 1), or in ranges, each with a first glyph, a last glyph
-- and the index of the first glyph (format 2).
pub data Covers (gsub : List ℕ) (coverage : ℕ) : (glyph i : ℕ) → Type 0 where
  by_list : (i : ℕ) → word gsub coverage ≡ 1 → i < word gsub (coverage + 2) → Covers gsub coverage (word gsub (coverage + 4 + i * 2)) i
  by_range : (r glyph : ℕ) → word gsub coverage ≡ 2 → r < word gsub (coverage + 2) →
      word gsub (coverage + 4 + r * 6) ≤ glyph → glyph ≤ word gsub (coverage + 4 + r * 6 + 2) →
      Covers gsub coverage glyph (word gsub (coverage + 4 + r * 6 + 4) + (glyph - word gsub (coverage + 4 + r * 6)))

-- the offset of part i, which an array of offsets lists; they are from the offset `from`
abbrev pub part_of : List ℕ → (from offsets i : ℕ) → ℕ
part_of gsub from offsets i = from + word gsub (offsets + i * 2)

-- the coverage table of a subtable
abbrev pub coverage_of : List ℕ → (subtable : ℕ) → ℕ
coverage_of gsub subtable = subtable + word gsub (subtable + 2)

-- the part of a subtable for coverage index i: a sequence (type 2), a set of alternates (3), a set of ligatures (4)
abbrev pub set_of : List ℕ → (subtable i : ℕ) → ℕ
set_of gsub subtable i = part_of gsub subtable (subtable + 6) i

-- the glyphs of a sequence or a set of alternates
abbrev pub glyphs_of : List ℕ → (set : ℕ) → List ℕ
glyphs_of gsub set = words gsub (set + 2) (word gsub set)

-- ligature k of a set, and its components after the first one, which the count includes
abbrev pub ligature_of : List ℕ → (set k : ℕ) → ℕ
ligature_of gsub set k = part_of gsub set (set + 2) k

abbrev pub components_of : List ℕ → (ligature : ℕ) → List ℕ
components_of gsub ligature = words gsub (ligature + 4) (word gsub (ligature + 2) - 1)

-- the number of substitutes of a reverse chaining subtable is after the coverage tables of the backtrack and the lookahead
abbrev pub reverse_offset : List ℕ → (subtable : ℕ) → ℕ
reverse_offset gsub subtable =
    let ahead = subtable + 6 + word gsub (subtable + 4) * 2 in
    ahead + 2 + word gsub ahead * 2

-- The substitutions of a subtable for a glyph with coverage index i, by the type of its lookup.
pub data SubstitutesGlyph (gsub : List ℕ) (type subtable i glyph : ℕ) : (ins outs : List ℕ) → Type 0 where
  -- type 1, single: a delta is added to the glyph number (format 1), or a list has the new glyphs (format 2)
  by_delta : type ≡ 1 → word gsub subtable ≡ 1 →
      SubstitutesGlyph gsub type subtable i glyph (glyph ∷ []) ((glyph + word gsub (subtable + 4)) % 65536 ∷ [])
  by_glyph : type ≡ 1 → word gsub subtable ≡ 2 → i < word gsub (subtable + 4) →
      SubstitutesGlyph gsub type subtable i glyph (glyph ∷ []) (word gsub (subtable + 6 + i * 2) ∷ [])
  -- type 2, multiple: all glyphs of a sequence; type 3, alternate: one glyph of a set
  by_several : (type ≡ 2) ⊎ (type ≡ 3) → word gsub subtable ≡ 1 → i < word gsub (subtable + 4) →
      SubstitutesGlyph gsub type subtable i glyph (glyph ∷ []) (glyphs_of gsub (set_of gsub subtable i))
  -- type 4, ligature: ligature k of the set, for the glyph and the other components
  by_ligature : (k : ℕ) → type ≡ 4 → word gsub subtable ≡ 1 → i < word gsub (subtable + 4) → k < word gsub (set_of gsub subtable i) →
      SubstitutesGlyph gsub type subtable i glyph (glyph ∷ components_of gsub (ligature_of gsub (set_of gsub subtable i) k))
      (word gsub (ligature_of gsub (set_of gsub subtable i) k) ∷ [])
  -- type 8, reverse chaining single
  in_reverse : type ≡ 8 → word gsub subtable ≡ 1 → i < word gsub (reverse_offset gsub subtable) →
      SubstitutesGlyph gsub type subtable i glyph (glyph ∷ []) (word gsub (reverse_offset gsub subtable + 2 + i * 2) ∷ [])

-- the substitutions of a subtable; types 5 and 6 only name other lookups
abbrev pub BySubtable : List ℕ → (type subtable : ℕ) → (ins outs : List ℕ) → Type 0
BySubtable gsub type subtable ins outs = (i glyph : ℕ) × Covers gsub (coverage_of gsub subtable) glyph i
    × SubstitutesGlyph gsub type subtable i glyph ins outs

-- a subtable of type 7, extension, has the type and the offset of another subtable
abbrev pub type_of : List ℕ → (type subtable : ℕ) → ℕ
type_of gsub type subtable = if type == 7 then word gsub (subtable + 2) else type

abbrev pub offset_of : List ℕ → (type subtable : ℕ) → ℕ
offset_of gsub type subtable = if type == 7 then subtable + long gsub (subtable + 4) else subtable

-- the substitutions of a lookup, which has a type and subtables
abbrev pub ByLookup : List ℕ → (lookup : ℕ) → (ins outs : List ℕ) → Type 0
ByLookup gsub lookup ins outs = (j : ℕ) × (j < word gsub (lookup + 4))
    × BySubtable gsub (type_of gsub (word gsub lookup) (part_of gsub lookup (lookup + 6) j))
    (offset_of gsub (word gsub lookup) (part_of gsub lookup (lookup + 6) j)) ins outs

-- the substitutions of the lookup with an index in the lookup list
abbrev pub ByIndex : List ℕ → (i : ℕ) → (ins outs : List ℕ) → Type 0
ByIndex gsub i ins outs = (i < word gsub (word gsub 8)) × ByLookup gsub (part_of gsub (word gsub 8) (word gsub 8 + 2) i) ins outs

-- the substitutions of the chosen lookups, which are given by their indices
abbrev pub Substitutes : List ℕ → (lookups : List ℕ) → (ins outs : List ℕ) → Type 0
Substitutes gsub lookups ins outs = (i : ℕ) × Contains lookups i × ByIndex gsub i ins outs

-- the indices of all lookups of a GSUB or GPOS table
abbrev pub every_lookup : List ℕ → List ℕ
every_lookup table = range_with_len 0 (word table (word table 8))
