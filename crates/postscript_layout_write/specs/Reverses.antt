-- Reverse chaining substitutions (OpenType 1.9, "GSUB - Glyph Substitution Table", "Lookup type 8 subtable: reverse chaining contextual single substitution";
-- ISO/IEC 14496-22, 6.3.4). A subtable has a context with one position of input, and a substitute for each glyph of that position.
use Rattle.std.specs.Prelude.{ℕ, ◌+◌, ◌*◌, ◌==◌, List, [], ◌∷◌, Option, None, Some, is_some, length, nat_lt, slice_index, if◌then◌else◌}
use Rattle.postscript_layout.specs.Numbers.{word}
use Rattle.postscript_layout.specs.Substitutions.{coverage_of, reverse_offset}
use Rattle.postscript_layout_write.specs.Contexts.{sets_at}
use Rattle.postscript_layout_write.specs.First.{all_below}
use Rattle.postscript_layout_write.specs.Pairs.{lookup_at}
use Rattle.postscript_layout_write.specs.Ranges.{coverage_index}
use Rattle.postscript_layout_write.specs.Renumbering.{new_number}
use Rattle.postscript_layout_write.specs.Rules.{part_at, type_of}
use Rattle.postscript_layout_write.specs.Sequences.{Context, if_applies}

-- the number of lookahead tables is after the coverage tables of the backtrack, and the number of substitutes after those of the lookahead
abbrev pub ahead_at : List ℕ → (subtable : ℕ) → ℕ
ahead_at gsub subtable = subtable + 6 + word gsub (subtable + 4) * 2

-- the substitute of the glyph with a coverage index
abbrev pub substitute_at : List ℕ → (subtable : ℕ) → (index : Option ℕ) → Option ℕ
substitute_at gsub subtable None = None
substitute_at gsub subtable (Some i) =
    if nat_lt i (word gsub (reverse_offset gsub subtable)) then Some (word gsub (reverse_offset gsub subtable + 2 + i * 2)) else None

-- the substitute of a glyph
abbrev pub substitute_of : List ℕ → (subtable glyph : ℕ) → Option ℕ
substitute_of gsub subtable glyph = substitute_at gsub subtable (coverage_index gsub (coverage_of gsub subtable) glyph)

-- the new number of a glyph, if there is one and it is kept
abbrev pub number_of : (kept : List ℕ) → Option ℕ → Option ℕ
number_of kept None = None
number_of kept (Some glyph) = new_number kept glyph

-- the substitute of the kept glyph with a new number, if it is kept too, under its new number
abbrev pub new_substitute : (gsub kept : List ℕ) → (subtable number : ℕ) → Option ℕ
new_substitute gsub kept subtable number = number_of kept (substitute_of gsub subtable (slice_index kept number))

abbrev pub if_some : Option ℕ → List ℕ
if_some None = []
if_some (Some number) = number ∷ []

-- the kept glyphs with kept substitutes, in order, and their substitutes
abbrev pub substituted : (gsub kept : List ℕ) → (subtable : ℕ) → List ℕ
substituted gsub kept subtable = all_below (λ k. if is_some (new_substitute gsub kept subtable k) then k ∷ [] else []) (length kept)

abbrev pub substitutes : (gsub kept : List ℕ) → (subtable : ℕ) → List ℕ
substitutes gsub kept subtable = all_below (λ k. if_some (new_substitute gsub kept subtable k)) (length kept)

-- the context of a subtable; instead of actions it has the substitute of each glyph of its input, in the same order
abbrev pub reverse_of : (gsub kept : List ℕ) → (subtable : ℕ) → Context
reverse_of gsub kept subtable = record {
  before = sets_at gsub kept subtable (subtable + 6) (word gsub (subtable + 4));
  input = substituted gsub kept subtable ∷ [];
  after = sets_at gsub kept subtable (ahead_at gsub subtable + 2) (word gsub (ahead_at gsub subtable));
  actions = substitutes gsub kept subtable;
}

-- the context of a subtable of format 1, if it can apply
abbrev pub reverses_in : (gsub kept : List ℕ) → (subtable : Option ℕ) → List Context
reverses_in gsub kept None = []
reverses_in gsub kept (Some subtable) = if word gsub subtable == 1 then if_applies (reverse_of gsub kept subtable) else []

-- the contexts of the subtables of a lookup that can apply, in the order in which they are tried
abbrev pub reverses_at : (gsub kept : List ℕ) → (lookup : ℕ) → List Context
reverses_at gsub kept lookup = all_below (λ j. reverses_in gsub kept (part_at gsub lookup 8 j)) (word gsub (lookup + 4))

-- the reverse chaining subtables of lookup i
abbrev pub reverses_of : (gsub kept : List ℕ) → (i : ℕ) → List Context
reverses_of gsub kept i = if type_of gsub i == 8 then reverses_at gsub kept (lookup_at gsub i) else []
