-- Rules as they are written. Only contracts of private functions and proofs name this.
use Rattle.std.specs.Prelude.{◌≡◌, ◌⊎◌, ℕ, ◌+◌, ◌*◌, ◌<◌, ◌≤◌, ◌==◌, List, [], ◌∷◌, ◌++◌, Vec, length, map, slice_index, if◌then◌else◌}
use Rattle.std.specs.List.{All, Contains}
use Rattle.std.specs.declared.alloc.Global.{Global}
use Rattle.postscript_layout_write.specs.Flags.{uses_set}
use Rattle.postscript_layout_write.specs.Holds.{Holds}
use Rattle.postscript_layout_write.specs.Scopes.{mark_set_text}
use Rattle.postscript_layout_write.specs.Sets.{AreOffsets}
use Rattle.postscript_layout_write.specs.Text.{array_text, coverage_text, offsets_text, uint16}

-- the rules of a list of rules
abbrev pub lists : List (Vec ℕ Global) → List (List ℕ)
lists rules = map (λ rule. rule.items) rules

-- a sequence or a set of alternates
unfoldable pub several_text : List ℕ → List ℕ
several_text rule = uint16 (length rule) ++ array_text rule

-- a ligature, and its components after the first, which the count includes
unfoldable pub ligature_text : List ℕ → List ℕ
ligature_text [] = []
ligature_text (glyph ∷ glyphs) = uint16 glyph ++ (uint16 (length glyphs + 1) ++ array_text glyphs)

unfoldable pub ligatures_text : List (List ℕ) → List ℕ
ligatures_text [] = []
ligatures_text (rule ∷ rules) = ligature_text rule ++ ligatures_text rules

-- the offsets of ligatures that begin at an offset
unfoldable pub places_text : (start : ℕ) → List (List ℕ) → List ℕ
places_text start [] = []
places_text start (rule ∷ rules) = uint16 start ++ places_text (start + 2 + length rule * 2) rules

-- a set of ligatures
unfoldable pub ligature_set_text : List (List ℕ) → List ℕ
ligature_set_text rules = uint16 (length rules) ++ (places_text (2 + length rules * 2) rules ++ ligatures_text rules)

-- offsets of ligatures fit into two bytes
abbrev pub PlacesFit : (start : ℕ) → List (List ℕ) → Type 0
PlacesFit start [] = Unit {0}
PlacesFit start (rule ∷ rules) = (start < 65536) × PlacesFit (start + 2 + length rule * 2) rules

-- a ligature and its components
abbrev pub IsLigature : List ℕ → Type 0
IsLigature rule = (0 < length rule) × All (λ glyph. glyph < 65536) rule

-- a rule whose length fits into two bytes
abbrev pub IsShort : List ℕ → Type 0
IsShort rule = length rule < 65536

-- Rules of a type: a single substitution has one result, and only a ligature substitution has several rules.
pub data AreOfType (type : ℕ) (rules : List (List ℕ)) : Type 0 where
  are_single : (result : ℕ) → type ≡ 1 → rules ≡ (result ∷ []) ∷ [] → AreOfType type rules
  are_several : (rule : List ℕ) → (type ≡ 1 → ⊥) → (type ≡ 4 → ⊥) → rules ≡ rule ∷ [] → All (λ glyph. glyph < 65536) rule →
      AreOfType type rules
  are_ligatures : type ≡ 4 → All IsLigature rules → AreOfType type rules

-- the rules of a first glyph are there: its result, or the offset of its sequence, alternates or ligatures
pub data HasRules (type : ℕ) (rules : List (List ℕ)) (bytes : List ℕ) (number : ℕ) : Type 0 where
  has_single : type ≡ 1 → rules ≡ (number ∷ []) ∷ [] → HasRules type rules bytes number
  has_several : (rule : List ℕ) → (type ≡ 1 → ⊥) → (type ≡ 4 → ⊥) → rules ≡ rule ∷ [] → length rule < 65536 → All (λ glyph. glyph < 65536) rule →
      Holds (several_text rule) bytes number → HasRules type rules bytes number
  has_ligatures : type ≡ 4 → All IsLigature rules → All IsShort rules → PlacesFit (2 + length rules * 2) rules → length rules < 32767 →
      Holds (ligature_set_text rules) bytes number → HasRules type rules bytes number

-- a list begins with another one
pub record Begins (old new : List ℕ) : Type 0 where
  pub more : List ℕ
  pub is : new ≡ old ++ more

-- the rules for first glyphs below a number
pub record AreRuleSets (type : ℕ) (f : ℕ → List (List ℕ)) (count : ℕ) (firsts numbers bytes : List ℕ) : Type 0 where
  pub same : length numbers ≡ length firsts
  pub fit : (k : ℕ) → k < length firsts → slice_index firsts k < 65536
  pub each : (k : ℕ) → k < length firsts → HasRules type (f (slice_index firsts k)) bytes (slice_index numbers k)
  pub all : (x : ℕ) → x < count → (f x ≡ []) ⊎ Contains firsts x

-- the rules of a first glyph are added, if there are some
pub data AddsRules (type first : ℕ) (rules : List (List ℕ)) (firsts numbers bytes newfirsts newnumbers newbytes : List ℕ) : Type 0 where
  no_rules : rules ≡ [] → newfirsts ≡ firsts → newnumbers ≡ numbers → newbytes ≡ bytes →
      AddsRules type first rules firsts numbers bytes newfirsts newnumbers newbytes
  some_rules : (number : ℕ) (more : List ℕ) → first < 65536 → newfirsts ≡ firsts ++ first ∷ [] → newnumbers ≡ numbers ++ number ∷ [] →
      newbytes ≡ bytes ++ more → HasRules type rules newbytes number →
      AddsRules type first rules firsts numbers bytes newfirsts newnumbers newbytes

-- a subtable: the results of single substitutions (format 2 of type 1), or offsets of what follows the coverage table (format 1 of types 2 to 4)
abbrev pub format_of : (type : ℕ) → ℕ
format_of type = if type == 1 then 2 else 1

abbrev pub base_of : (type count : ℕ) → ℕ
base_of type count = if type == 1 then 0 else 10 + count * 4

unfoldable pub rules_text : (type : ℕ) → (firsts numbers sets : List ℕ) → List ℕ
rules_text type firsts numbers sets =
    (uint16 (format_of type) ++ (uint16 (6 + length firsts * 2) ++ uint16 (length firsts)))
    ++ (offsets_text (base_of type (length firsts)) numbers ++ (coverage_text firsts ++ sets))

-- the type, the flag and the number of subtables of a lookup
unfoldable pub rule_head_text : (type flag count : ℕ) → List ℕ
rule_head_text type flag count = uint16 type ++ (uint16 flag ++ uint16 count)

-- a lookup with no subtables, and with its set of marks, if its flag uses one
unfoldable pub bare_text : (type flag set : ℕ) → List ℕ
bare_text type flag set = rule_head_text type flag 0 ++ mark_set_text flag set

-- the beginning of a lookup with one subtable, which follows the set of marks
abbrev pub subtable_offset : (flag : ℕ) → ℕ
subtable_offset flag = if uses_set flag then 10 else 8

unfoldable pub rule_front_text : (type flag set : ℕ) → List ℕ
rule_front_text type flag set = rule_head_text type flag 1 ++ (uint16 (subtable_offset flag) ++ mark_set_text flag set)

-- a subtable at an offset has all rules
pub record HasRuleSubtable (type : ℕ) (f : ℕ → List (List ℕ)) (bytes : List ℕ) (offset : ℕ) : Type 0 where
  pub firsts : List ℕ
  pub numbers : List ℕ
  pub sets : List ℕ
  pub count : ℕ
  pub are : AreRuleSets type f count firsts numbers sets
  pub bounded : (x : ℕ) → count ≤ x → f x ≡ []
  pub fit : AreOffsets (base_of type (length firsts)) numbers
  pub few : length firsts ≤ 16380
  pub there : Holds (rules_text type firsts numbers sets) bytes offset

-- numbers of two bytes
pub record AreSmall (type flag set : ℕ) : Type 0 where
  pub type_small : type < 65536
  pub flag_small : flag < 65536
  pub set_small : set < 65536

-- a lookup at an offset has a type, a flag, a set of marks, if it uses one, and all rules
pub data HasRuleLookup (type flag set : ℕ) (f : ℕ → List (List ℕ)) (bytes : List ℕ) (offset : ℕ) : Type 0 where
  has_none : ((x : ℕ) → f x ≡ []) → AreSmall type flag set → Holds (bare_text type flag set) bytes offset → HasRuleLookup type flag set f bytes offset
  has_one : AreSmall type flag set → Holds (rule_front_text type flag set) bytes offset → HasRuleSubtable type f bytes (offset + subtable_offset flag) →
      HasRuleLookup type flag set f bytes offset

-- a lookup is appended
pub data PutsRules (type flag set : ℕ) (firsts numbers sets old new : List ℕ) : Type 0 where
  puts_none : firsts ≡ [] → AreSmall type flag set → new ≡ old ++ bare_text type flag set → PutsRules type flag set firsts numbers sets old new
  puts_one : AreSmall type flag set → AreOffsets (base_of type (length firsts)) numbers → length firsts ≤ 16380 →
      new ≡ old ++ (rule_front_text type flag set ++ rules_text type firsts numbers sets) →
      PutsRules type flag set firsts numbers sets old new
