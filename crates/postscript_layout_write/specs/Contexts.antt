-- The contexts of lookups. Contexts by glyphs and by classes are in ContextRules.antt. Here are contexts by sets of glyphs (OpenType 1.9, "GSUB - Glyph
-- Substitution Table", "Lookup type 5 subtable" and "Lookup type 6 subtable", format 3: coverage-based glyph contexts; ISO/IEC 14496-22, 6.3.4).
use Rattle.std.specs.Prelude.{ℕ, zero, suc, Bool, true, false, ◌+◌, ◌*◌, ◌==◌, ◌&&◌, ◌||◌, List, [], Option, None, Some, map, nat_lt, if◌then◌else◌}
use Rattle.std.specs.List.{range_with_len}
use Rattle.postscript_layout.specs.Numbers.{word, words}
use Rattle.postscript_layout_write.specs.ContextRules.{by_rules}
use Rattle.postscript_layout_write.specs.First.{all_below}
use Rattle.postscript_layout_write.specs.Pairs.{lookup_at}
use Rattle.postscript_layout_write.specs.Rules.{part_at, type_at, type_of}
use Rattle.postscript_layout_write.specs.Sequences.{Context, covered_of, if_applies}
use Rattle.postscript_layout_write.specs.declared.contexts.Parts.{Parts}

-- the sets of glyphs of `count` coverage tables, whose offsets are an array
abbrev pub sets_at : (gsub kept : List ℕ) → (subtable array count : ℕ) → List (List ℕ)
sets_at gsub kept subtable array count = map (λ p. covered_of gsub kept (subtable + word gsub (array + p * 2))) (range_with_len 0 count)

-- In a chained context, three arrays of offsets are one after the other, each after its length, and the actions follow.
abbrev pub input_at : List ℕ → (subtable : ℕ) → ℕ
input_at gsub subtable = subtable + 4 + word gsub (subtable + 2) * 2

abbrev pub after_at : List ℕ → (subtable : ℕ) → ℕ
after_at gsub subtable = input_at gsub subtable + 2 + word gsub (input_at gsub subtable) * 2

abbrev pub actions_at : List ℕ → (subtable : ℕ) → ℕ
actions_at gsub subtable = after_at gsub subtable + 2 + word gsub (after_at gsub subtable) * 2

abbrev pub chained_parts : List ℕ → (subtable : ℕ) → Parts
chained_parts gsub subtable = record {
  before_at = subtable + 4;
  before = word gsub (subtable + 2);
  input_at = input_at gsub subtable + 2;
  input = word gsub (input_at gsub subtable);
  after_at = after_at gsub subtable + 2;
  after = word gsub (after_at gsub subtable);
  actions_at = actions_at gsub subtable + 2;
  actions = word gsub (actions_at gsub subtable);
}

-- A context that is not chained has the lengths of the input and of the actions, one array of offsets, and the actions.
abbrev pub plain_parts : List ℕ → (subtable : ℕ) → Parts
plain_parts gsub subtable = record {
  before_at = 0;
  before = 0;
  input_at = subtable + 6;
  input = word gsub (subtable + 2);
  after_at = 0;
  after = 0;
  actions_at = subtable + 6 + word gsub (subtable + 2) * 2;
  actions = word gsub (subtable + 4);
}

-- the parts of a subtable of type 5, or of type 6
abbrev pub parts_of : List ℕ → (type subtable : ℕ) → Parts
parts_of gsub type subtable = if type == 5 then plain_parts gsub subtable else chained_parts gsub subtable

abbrev pub context_by : (gsub kept : List ℕ) → (subtable : ℕ) → Parts → Context
context_by gsub kept subtable parts = record {
  before = sets_at gsub kept subtable parts.before_at parts.before;
  input = sets_at gsub kept subtable parts.input_at parts.input;
  after = sets_at gsub kept subtable parts.after_at parts.after;
  actions = words gsub parts.actions_at (parts.actions * 2);
}

-- the context of a subtable
abbrev pub context_of : (gsub kept : List ℕ) → (type subtable : ℕ) → Context
context_of gsub kept type subtable = context_by gsub kept subtable (parts_of gsub type subtable)

-- the contexts of a subtable that can apply, in the order in which they are tried
abbrev pub contexts_in : (gsub kept : List ℕ) → (type : ℕ) → (subtable : Option ℕ) → List Context
contexts_in gsub kept type None = []
contexts_in gsub kept type (Some subtable) =
    if word gsub subtable == 3 then if_applies (context_of gsub kept type subtable) else by_rules gsub kept type subtable

-- the contexts of the first `count` subtables of a lookup
abbrev pub contexts_below : (gsub kept : List ℕ) → (lookup type count : ℕ) → List Context
contexts_below gsub kept lookup type count = all_below (λ j. contexts_in gsub kept type (part_at gsub lookup type j)) count

abbrev pub contexts_at : (gsub kept : List ℕ) → (lookup type : ℕ) → List Context
contexts_at gsub kept lookup type = contexts_below gsub kept lookup type (word gsub (lookup + 4))

-- whether a subtable has a format: by glyphs (1), by classes (2), or by sets of glyphs (3)
abbrev pub has_format : List ℕ → Option ℕ → Bool
has_format gsub None = false
has_format gsub (Some subtable) = nat_lt 0 (word gsub subtable) && nat_lt (word gsub subtable) 4

abbrev pub all_have_formats : List ℕ → (lookup type count : ℕ) → Bool
all_have_formats gsub lookup type zero = true
all_have_formats gsub lookup type (suc n) = all_have_formats gsub lookup type n && has_format gsub (part_at gsub lookup type n)

-- whether a lookup has contexts, all of them of these formats
abbrev pub is_contextual : List ℕ → (lookup : ℕ) → Bool
is_contextual gsub lookup =
    ((type_at gsub lookup == 5) || (type_at gsub lookup == 6)) && all_have_formats gsub lookup (type_at gsub lookup) (word gsub (lookup + 4))

-- the contexts of lookup i, if it has contexts
abbrev pub contexts_of : (gsub kept : List ℕ) → (i : ℕ) → List Context
contexts_of gsub kept i =
    if is_contextual gsub (lookup_at gsub i) then contexts_at gsub kept (lookup_at gsub i) (type_of gsub i) else []
