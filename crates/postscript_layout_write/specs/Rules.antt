-- The rules of a lookup of the GSUB table (OpenType 1.9, "GSUB - Glyph Substitution Table", "Lookup type 1 subtable: single substitution" to
-- "Lookup type 4 subtable: ligature substitution", "Lookup type 7 subtable: substitution subtable extension"; ISO/IEC 14496-22, 6.3.4). A lookup has
-- a list of rules for each first glyph, and a rule is a list of glyphs: the result of a single substitution (type 1), the sequence of a multiple
-- substitution (type 2), the alternates (type 3), or a ligature and then its components after the first glyph (type 4).
use Rattle.std.specs.Prelude.{ℕ, Bool, ◌+◌, ◌*◌, ◌%◌, ◌==◌, ◌&&◌, List, [], ◌∷◌, Option, None, Some, map, nat_lt, if◌then◌else◌}
use Rattle.std.specs.List.{range_with_len}
use Rattle.postscript_layout.specs.Numbers.{word, long}
use Rattle.postscript_layout.specs.Substitutions.{components_of, coverage_of, glyphs_of, ligature_of, set_of}
use Rattle.postscript_layout_write.specs.First.{all_below, first_some}
use Rattle.postscript_layout_write.specs.Pairs.{lookup_at}
use Rattle.postscript_layout_write.specs.Ranges.{coverage_index}

-- The result of a single substitution for a glyph with coverage index i: a delta is added to the glyph number (format 1), or a list has the results
-- (format 2).
abbrev pub single_of : List ℕ → (subtable i glyph : ℕ) → Option ℕ
single_of gsub subtable i glyph =
    if word gsub subtable == 1 then Some ((glyph + word gsub (subtable + 4)) % 65536)
    else (if word gsub subtable == 2 then (if nat_lt i (word gsub (subtable + 4)) then Some (word gsub (subtable + 6 + i * 2)) else None) else None)

-- the offset of the sequence, the set of alternates or the set of ligatures for coverage index i
abbrev pub set_at : List ℕ → (subtable i : ℕ) → Option ℕ
set_at gsub subtable i = if (word gsub subtable == 1) && nat_lt i (word gsub (subtable + 4)) then Some (set_of gsub subtable i) else None

abbrev pub rules_of_single : Option ℕ → Option (List (List ℕ))
rules_of_single None = None
rules_of_single (Some result) = Some ((result ∷ []) ∷ [])

-- a sequence or a set of alternates is one rule
abbrev pub rules_of_several : List ℕ → Option ℕ → Option (List (List ℕ))
rules_of_several gsub None = None
rules_of_several gsub (Some set) = Some (glyphs_of gsub set ∷ [])

-- the ligature at an offset, and its components after the first
abbrev pub ligature_rule : List ℕ → (ligature : ℕ) → List ℕ
ligature_rule gsub ligature = word gsub ligature ∷ components_of gsub ligature

-- the ligatures of a set, in order of preference
abbrev pub ligature_rules : List ℕ → (set count : ℕ) → List (List ℕ)
ligature_rules gsub set count = map (λ k. ligature_rule gsub (ligature_of gsub set k)) (range_with_len 0 count)

abbrev pub rules_of_ligatures : List ℕ → Option ℕ → Option (List (List ℕ))
rules_of_ligatures gsub None = None
rules_of_ligatures gsub (Some set) = Some (ligature_rules gsub set (word gsub set))

-- the rules of a subtable for a glyph with coverage index i, if it has an entry for that
abbrev pub rules_by : List ℕ → (type subtable i glyph : ℕ) → Option (List (List ℕ))
rules_by gsub type subtable i glyph =
    if type == 1 then rules_of_single (single_of gsub subtable i glyph)
    else (if type == 4 then rules_of_ligatures gsub (set_at gsub subtable i) else rules_of_several gsub (set_at gsub subtable i))

abbrev pub rules_covered : List ℕ → (type subtable : ℕ) → (index : Option ℕ) → (glyph : ℕ) → Option (List (List ℕ))
rules_covered gsub type subtable None glyph = None
rules_covered gsub type subtable (Some i) glyph = rules_by gsub type subtable i glyph

-- the offset of subtable j of a lookup, if it has a type; an extension is the subtable that it names
abbrev pub part_at : List ℕ → (lookup type j : ℕ) → Option ℕ
part_at gsub lookup type j =
    let part = lookup + word gsub (lookup + 6 + j * 2) in
    if word gsub lookup == type then Some part
    else (if (word gsub lookup == 7) && (word gsub (part + 2) == type) then Some (part + long gsub (part + 4)) else None)

-- the rules of a subtable for a glyph, if it has an entry for the glyph
abbrev pub rules_in : List ℕ → (type : ℕ) → (subtable : Option ℕ) → (glyph : ℕ) → Option (List (List ℕ))
rules_in gsub type None glyph = None
rules_in gsub type (Some subtable) glyph = rules_covered gsub type subtable (coverage_index gsub (coverage_of gsub subtable) glyph) glyph

abbrev pub or_none : Option (List (List ℕ)) → List (List ℕ)
or_none None = []
or_none (Some rules) = rules

-- the rules of the first subtable that has an entry for a glyph
abbrev pub first_rules : List ℕ → (lookup type glyph : ℕ) → List (List ℕ)
first_rules gsub lookup type glyph = or_none (first_some (λ j. rules_in gsub type (part_at gsub lookup type j) glyph) (word gsub (lookup + 4)))

-- the rules of the first subtables, one after the other
abbrev pub all_rules : List ℕ → (lookup type glyph count : ℕ) → List (List ℕ)
all_rules gsub lookup type glyph count = all_below (λ j. or_none (rules_in gsub type (part_at gsub lookup type j) glyph)) count

-- The rules of a lookup of a type for a first glyph. Ligatures of a later subtable are tried if none of an earlier one fits. In the other types, the
-- first subtable that has an entry for the glyph is applied.
abbrev pub rules_of_type : List ℕ → (lookup type glyph : ℕ) → List (List ℕ)
rules_of_type gsub lookup type glyph =
    if type == 4 then all_rules gsub lookup type glyph (word gsub (lookup + 4)) else first_rules gsub lookup type glyph

-- the type of a lookup; an extension has the type of its first subtable
abbrev pub type_at : List ℕ → (lookup : ℕ) → ℕ
type_at gsub lookup = if word gsub lookup == 7 then word gsub (lookup + word gsub (lookup + 6) + 2) else word gsub lookup

-- the type of lookup i
abbrev pub type_of : List ℕ → (i : ℕ) → ℕ
type_of gsub i = type_at gsub (lookup_at gsub i)

-- the types with rules: single, multiple, alternate and ligature substitutions
abbrev pub is_kept : (type : ℕ) → Bool
is_kept type = nat_lt 0 type && nat_lt type 5

-- the rules of lookup i for a first glyph
abbrev pub rules_of : List ℕ → (i glyph : ℕ) → List (List ℕ)
rules_of gsub i glyph = if is_kept (type_of gsub i) then rules_of_type gsub (lookup_at gsub i) (type_of gsub i) glyph else []
