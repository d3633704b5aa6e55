-- The cost of a round over the chosen lookups, in units of the limit. It does not depend on the glyphs of the set, so it is the most that a round pays.
use Rattle.std.specs.Prelude.{ℕ, zero, suc, ◌+◌, ◌-◌, ◌*◌, ◌==◌, ◌≡◌, ◌<◌, List, length, nat_lt, slice_index, if◌then◌else◌}
use Rattle.postscript_layout.specs.Features.{feature_at, feature_count}
use Rattle.postscript_layout.specs.Numbers.{word}
use Rattle.postscript_layout.specs.Substitutions.{coverage_of, ligature_of, offset_of, part_of, set_of, type_of}
use Rattle.postscript_layout.specs.declared.error.Error.{Error}
use Rattle.postscript_layout.specs.declared.error.Error.TheVariants.{TooLong}

-- the costs of parts 0 to count - 1 together
abbrev pub total : (cost : ℕ → ℕ) → (count : ℕ) → ℕ
total cost zero = 0
total cost (suc n) = total cost n + cost n

-- one unit for a ligature, and one for each component after the first
abbrev pub ligature_cost : List ℕ → (ligature : ℕ) → ℕ
ligature_cost gsub ligature = 1 + (word gsub (ligature + 2) - 1)

-- the substitutes of a sequence or a set of alternates, or the ligatures of a set, for coverage index i
abbrev pub substitutes_cost : List ℕ → (type subtable i : ℕ) → ℕ
substitutes_cost gsub type subtable i =
    let set = set_of gsub subtable i in
    if type == 4 then total (λ k. ligature_cost gsub (ligature_of gsub set k)) (word gsub set)
    else (if type == 2 then word gsub set else (if type == 3 then word gsub set else 0))

-- one unit for a covered glyph, and the cost of its substitutes
abbrev pub glyph_cost : List ℕ → (type subtable i : ℕ) → ℕ
glyph_cost gsub type subtable i = 1 + substitutes_cost gsub type subtable i

-- one unit for a range, and the cost of its glyphs
abbrev pub range_cost : List ℕ → (type subtable range : ℕ) → ℕ
range_cost gsub type subtable range = 1 + total (λ n. glyph_cost gsub type subtable (word gsub (range + 4) + n)) (word gsub (range + 2) + 1 - word gsub range)

abbrev pub coverage_cost : List ℕ → (type subtable coverage : ℕ) → ℕ
coverage_cost gsub type subtable coverage =
    if word gsub coverage == 1 then total (λ i. glyph_cost gsub type subtable i) (word gsub (coverage + 2))
    else (if word gsub coverage == 2 then total (λ r. range_cost gsub type subtable (coverage + 4 + r * 6)) (word gsub (coverage + 2)) else 0)

-- the cost of the covered glyphs; types 5 and 6 have no substitutions
abbrev pub subtable_cost : List ℕ → (type subtable : ℕ) → ℕ
subtable_cost gsub type subtable =
    if nat_lt type 5 then coverage_cost gsub type subtable (coverage_of gsub subtable)
    else (if type == 8 then coverage_cost gsub type subtable (coverage_of gsub subtable) else 0)

-- subtable j of a lookup, or the subtable of its extension
abbrev pub part_cost : List ℕ → (type subtable : ℕ) → ℕ
part_cost gsub type subtable = subtable_cost gsub (type_of gsub type subtable) (offset_of gsub type subtable)

-- one unit for each subtable, and their costs
abbrev pub lookup_cost : List ℕ → (lookup : ℕ) → ℕ
lookup_cost gsub lookup = total (λ j. 1 + part_cost gsub (word gsub lookup) (part_of gsub lookup (lookup + 6) j)) (word gsub (lookup + 4))

-- the lookup with an index in the lookup list
abbrev pub index_cost : List ℕ → (i : ℕ) → ℕ
index_cost gsub i = if nat_lt i (word gsub (word gsub 8)) then lookup_cost gsub (part_of gsub (word gsub 8) (word gsub 8 + 2) i) else 0

-- one unit for each chosen lookup, and their costs
abbrev pub lookups_cost : List ℕ → (lookups : List ℕ) → ℕ
lookups_cost gsub lookups = total (λ k. 1 + index_cost gsub (slice_index lookups k)) (length lookups)

-- one unit for the round, and the cost of the lookups
abbrev pub round_cost : List ℕ → (lookups : List ℕ) → ℕ
round_cost gsub lookups = 1 + lookups_cost gsub lookups

-- the most that the search for the lookups of features costs: one unit for each feature, and one for each of its lookup indices
abbrev pub features_cost : List ℕ → ℕ
features_cost table = total (λ i. 1 + word table (feature_at table i + 2)) (feature_count table)

-- nothing is left of a limit that was below a cost
pub record IsShort (cost limit left : ℕ) (e : Error) : Type 0 where
  pub too_long : e ≡ TooLong
  pub none : left ≡ 0
  pub short : limit < cost
