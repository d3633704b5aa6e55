-- Contexts of positions (OpenType 1.9, "GPOS - Glyph Positioning Table", "Lookup type 7 subtable: contextual positioning" and "Lookup type 8 subtable:
-- chained contexts positioning"; ISO/IEC 14496-22, 6.3.3). They have the same tables as contexts of substitutions, and their actions apply lookups of
-- positions.
use Rattle.std.specs.Prelude.{ℕ, Bool, ◌+◌, ◌==◌, ◌&&◌, ◌||◌, List, [], None, Some, is_none, if◌then◌else◌}
use Rattle.postscript_layout.specs.Numbers.{word}
use Rattle.postscript_layout_write.specs.Contexts.{contexts_in, has_format}
use Rattle.postscript_layout_write.specs.First.{all_below, first_some}
use Rattle.postscript_layout_write.specs.Marks.{type_at, typed_at}
use Rattle.postscript_layout_write.specs.Pairs.{lookup_at}
use Rattle.postscript_layout_write.specs.Sequences.{Context}

-- the type of substitutions with the same tables as a type of positions
abbrev pub same_type : (type : ℕ) → ℕ
same_type type = if type == 7 then 5 else 6

-- the contexts of the first `count` subtables of a lookup of a type that can apply, in the order in which they are tried
abbrev pub contexts_below : (gpos kept : List ℕ) → (lookup type count : ℕ) → List Context
contexts_below gpos kept lookup type count = all_below (λ j. contexts_in gpos kept (same_type type) (typed_at gpos lookup type j)) count

abbrev pub contexts_by : (gpos kept : List ℕ) → (lookup type : ℕ) → List Context
contexts_by gpos kept lookup type = contexts_below gpos kept lookup type (word gpos (lookup + 4))

-- whether all subtables of a lookup of a type have a format: by glyphs (1), by classes (2), or by sets of glyphs (3)
abbrev pub all_have_formats : List ℕ → (lookup type : ℕ) → Bool
all_have_formats gpos lookup type =
    is_none (first_some (λ j. if has_format gpos (typed_at gpos lookup type j) then None else Some j) (word gpos (lookup + 4)))

-- the types of contexts
abbrev pub is_context : (type : ℕ) → Bool
is_context type = (type == 7) || (type == 8)

-- whether a lookup has contexts, all of them of these formats
abbrev pub is_contextual : List ℕ → (lookup : ℕ) → Bool
is_contextual gpos lookup = is_context (type_at gpos lookup) && all_have_formats gpos lookup (type_at gpos lookup)

-- the contexts of the lookup at an offset, if it has contexts
abbrev pub contexts_at : (gpos kept : List ℕ) → (lookup : ℕ) → List Context
contexts_at gpos kept lookup = if is_contextual gpos lookup then contexts_by gpos kept lookup (type_at gpos lookup) else []

-- the contexts of lookup i
abbrev pub contexts_of : (gpos kept : List ℕ) → (i : ℕ) → List Context
contexts_of gpos kept i = contexts_at gpos kept (lookup_at gpos i)
