-- Coverage tables and contexts as they are written. Only contracts of private functions and proofs name this.
use Rattle.std.specs.Prelude.{◌≡◌, ℕ, ◌+◌, ◌*◌, ◌^◌, ◌==◌, ◌&&◌, ◌<◌, ◌≤◌, Bool, true, false, List, [], ◌++◌, None, Some, is_some, length, nat_le, slice_index, slice_index_or, if◌then◌else◌}
use Rattle.std.specs.List.{All}
use Rattle.postscript_layout.specs.Numbers.{word}
use Rattle.postscript_layout_write.specs.First.{first_some}
use Rattle.postscript_layout_write.specs.Holds.{Holds}
use Rattle.postscript_layout_write.specs.Ranges.{in_range}
use Rattle.postscript_layout_write.specs.RuleSets.{Begins}
use Rattle.postscript_layout_write.specs.Scopes.{mark_set_text}
use Rattle.postscript_layout_write.specs.Sequences.{Context, all_some, covers}
use Rattle.postscript_layout_write.specs.Sets.{AreOffsets}
use Rattle.postscript_layout_write.specs.declared.contexts.Contexts.{Contexts}
use Rattle.postscript_layout_write.specs.declared.contexts.Made.{Made}
use Rattle.postscript_layout_write.specs.declared.contexts.Part.{Part}
use Rattle.postscript_layout_write.specs.declared.contexts.Parts.{Parts}
use Rattle.postscript_layout_write.specs.Text.{array_text, coverage_text, offsets_text, uint16}

-- the marks of all glyphs with a property are set, and no others
pub record AreMarked (has : ℕ → Bool) (marks : List Bool) : Type 0 where
  pub many : length marks ≡ 65536
  pub each : (glyph : ℕ) → glyph < 65536 → slice_index_or marks glyph false ≡ has glyph

-- the marks of the glyphs of a coverage table
abbrev pub AreCovered : (gsub : List ℕ) → (coverage : ℕ) → (marks : List Bool) → Type 0
AreCovered gsub coverage marks = AreMarked (covers gsub coverage) marks

-- the marks of the first `count` glyphs of a list
abbrev pub AreListed : (gsub : List ℕ) → (coverage count : ℕ) → (marks : List Bool) → Type 0
AreListed gsub coverage count marks =
    AreMarked (λ glyph. is_some (first_some (λ i. if word gsub (coverage + 4 + i * 2) == glyph then Some i else None) count)) marks

-- the marks of the glyphs of the first `count` ranges
abbrev pub AreRanged : (gsub : List ℕ) → (coverage count : ℕ) → (marks : List Bool) → Type 0
AreRanged gsub coverage count marks =
    AreMarked (λ glyph. is_some (first_some (λ r. if in_range gsub (coverage + 4 + r * 6) glyph then Some (coverage + 4 + r * 6) else None) count)) marks

-- whether a glyph is in a range
abbrev pub is_between : (first last glyph : ℕ) → Bool
is_between first last glyph = nat_le first glyph && nat_le glyph last

-- a coverage table with a set of glyphs is at an offset
pub record HasCoverage (set bytes : List ℕ) (offset : ℕ) : Type 0 where
  pub few : length set ≤ 16380
  pub small : All (λ glyph. glyph < 65536) set
  pub there : Holds (coverage_text set) bytes offset

-- the coverage tables of sets are there
pub record HaveCoverages (sets : List (List ℕ)) (offsets bytes : List ℕ) : Type 0 where
  pub same : length offsets ≡ length sets
  pub each : (k : ℕ) → k < length sets → HasCoverage (slice_index_or sets k []) bytes (slice_index offsets k)

-- offsets that are counted from a base, after their number
unfoldable pub counted_text : (base : ℕ) → List ℕ → List ℕ
counted_text base offsets = uint16 (length offsets) ++ offsets_text base offsets

-- a chained context of format 3, with its coverage tables
unfoldable pub context_text : (base : ℕ) → (before input after : List ℕ) → (count : ℕ) → (actions tables : List ℕ) → List ℕ
context_text base before input after count actions tables =
    uint16 3 ++ (counted_text base before ++ (counted_text base input ++ (counted_text base after ++ (uint16 count ++ (array_text actions ++ tables)))))

-- the coverage tables of sets, and whether each set has a glyph
pub record IsPart (sets : List (List ℕ)) (part : Part) (tables : List ℕ) : Type 0 where
  pub have : HaveCoverages sets part.offsets.items tables
  pub some : part.all_some ≡ all_some sets

-- sets are added to a part, and their coverage tables to the tables
pub record AddsSets (added : List (List ℕ)) (old : Part) (tables : List ℕ) (new : Part) (newtables : List ℕ) : Type 0 where
  pub have : (sets : List (List ℕ)) → IsPart sets old tables → IsPart (sets ++ added) new newtables
  pub more : Begins tables newtables

-- the coverage tables and the actions of a context
pub record IsMade (context : Context) (made : Made) : Type 0 where
  pub before : IsPart context.before made.before made.tables.bytes.items
  pub input : IsPart context.input made.input made.tables.bytes.items
  pub after : IsPart context.after made.after made.tables.bytes.items
  pub actions : made.actions.items ≡ context.actions
  pub small : All (λ number. number < 65536) context.actions

-- the parts of a context are not far behind its beginning
pub record IsNear (parts : Parts) : Type 0 where
  pub before_at : parts.before_at < 2 ^ 35
  pub before : parts.before < 65536
  pub input_at : parts.input_at < 2 ^ 35
  pub input : parts.input < 65536
  pub after_at : parts.after_at < 2 ^ 35
  pub after : parts.after < 65536
  pub actions_at : parts.actions_at < 2 ^ 35
  pub actions : parts.actions < 65536

-- the offset of the first coverage table of a context
abbrev pub base_of : (before input after actions : List ℕ) → ℕ
base_of before input after actions = 10 + (length before + length input + length after + length actions) * 2

-- offsets and numbers that fit into two bytes
pub record Fits (before input after actions : List ℕ) (count : ℕ) : Type 0 where
  pub near : base_of before input after actions < 65536
  pub fit_before : AreOffsets (base_of before input after actions) before
  pub fit_input : AreOffsets (base_of before input after actions) input
  pub fit_after : AreOffsets (base_of before input after actions) after
  pub many : length actions ≡ count * 2

-- a context is appended
pub record PutsContext (made : Made) (count : ℕ) (old new : List ℕ) : Type 0 where
  pub fits : Fits made.before.offsets.items made.input.offsets.items made.after.offsets.items made.actions.items count
  pub text : new ≡ old ++ context_text (base_of made.before.offsets.items made.input.offsets.items made.after.offsets.items made.actions.items)
      made.before.offsets.items made.input.offsets.items made.after.offsets.items count made.actions.items made.tables.bytes.items

-- a chained context is at an offset
pub record HasContext (context : Context) (bytes : List ℕ) (offset : ℕ) : Type 0 where
  pub before : List ℕ
  pub input : List ℕ
  pub after : List ℕ
  pub count : ℕ
  pub tables : List ℕ
  pub has_before : HaveCoverages context.before before tables
  pub has_input : HaveCoverages context.input input tables
  pub has_after : HaveCoverages context.after after tables
  pub fits : Fits before input after context.actions count
  pub small : All (λ number. number < 65536) context.actions
  pub there : Holds (context_text (base_of before input after context.actions) before input after count context.actions tables) bytes offset

-- the empty context
abbrev pub no_context : Context
no_context = record { before = []; input = []; after = []; actions = [] }

-- a reverse chaining subtable, with its coverage tables; the coverage table of its glyphs is the only one of the input
unfoldable pub reverse_text : (base : ℕ) → (before input after : List ℕ) → (substitutes tables : List ℕ) → List ℕ
reverse_text base before input after substitutes tables =
    uint16 1 ++ (offsets_text base input ++ (counted_text base before ++ (counted_text base after ++ (uint16 (length substitutes) ++ (array_text substitutes ++ tables)))))

-- the offset of the first coverage table of a reverse chaining subtable
abbrev pub reverse_base : (before after substitutes : List ℕ) → ℕ
reverse_base before after substitutes = 10 + (length before + length after + length substitutes) * 2

-- offsets that fit into two bytes
pub record FitsReverse (before input after substitutes : List ℕ) : Type 0 where
  pub near : reverse_base before after substitutes < 65536
  pub one : length input ≡ 1
  pub fit_before : AreOffsets (reverse_base before after substitutes) before
  pub fit_input : AreOffsets (reverse_base before after substitutes) input
  pub fit_after : AreOffsets (reverse_base before after substitutes) after

-- a reverse chaining subtable is appended
pub record PutsReverse (made : Made) (old new : List ℕ) : Type 0 where
  pub fits : FitsReverse made.before.offsets.items made.input.offsets.items made.after.offsets.items made.actions.items
  pub text : new ≡ old ++ reverse_text (reverse_base made.before.offsets.items made.after.offsets.items made.actions.items)
      made.before.offsets.items made.input.offsets.items made.after.offsets.items made.actions.items made.tables.bytes.items

-- a reverse chaining subtable is at an offset
pub record HasReverse (context : Context) (bytes : List ℕ) (offset : ℕ) : Type 0 where
  pub before : List ℕ
  pub input : List ℕ
  pub after : List ℕ
  pub tables : List ℕ
  pub has_before : HaveCoverages context.before before tables
  pub has_input : HaveCoverages context.input input tables
  pub has_after : HaveCoverages context.after after tables
  pub fits : FitsReverse before input after context.actions
  pub small : All (λ number. number < 65536) context.actions
  pub there : Holds (reverse_text (reverse_base before after context.actions) before input after context.actions tables) bytes offset

-- a context is at an offset, as a chained one or as a reverse chaining one
abbrev pub HasEither : (reverse : Bool) → Context → (bytes : List ℕ) → (offset : ℕ) → Type 0
HasEither false context bytes offset = HasContext context bytes offset
HasEither true context bytes offset = HasReverse context bytes offset

-- contexts are there
pub record HaveContexts (reverse : Bool) (contexts : List Context) (offsets bytes : List ℕ) : Type 0 where
  pub same : length offsets ≡ length contexts
  pub each : (k : ℕ) → k < length contexts → HasEither reverse (slice_index_or contexts k no_context) bytes (slice_index offsets k)

-- a lookup of chained contexts: of substitutions (type 6) or of positions (type 8), or of reverse chaining substitutions (type 8)
unfoldable pub chained_text : (type flag : ℕ) → (offsets subtables : List ℕ) → List ℕ
chained_text type flag offsets subtables =
    (uint16 type ++ (uint16 flag ++ uint16 (length offsets))) ++ (offsets_text (6 + length offsets * 2) offsets ++ subtables)

-- contexts are added
pub record AddsContexts (reverse : Bool) (added : List Context) (old new : Contexts) : Type 0 where
  pub have : (contexts : List Context) → HaveContexts reverse contexts old.offsets.items old.bytes.items →
      HaveContexts reverse (contexts ++ added) new.offsets.items new.bytes.items
  pub more : Begins old.bytes.items new.bytes.items

-- a lookup of chained contexts is appended
pub record PutsChained (type flag : ℕ) (offsets subtables old new : List ℕ) : Type 0 where
  pub few : length offsets ≤ 32764
  pub fit : AreOffsets (6 + length offsets * 2) offsets
  pub small : flag < 65536
  pub text : new ≡ old ++ chained_text type flag offsets subtables

-- a lookup of chained contexts is at an offset, with its set of marks before the subtables, if its flag uses one
pub record HasChained (reverse : Bool) (type flag set : ℕ) (contexts : List Context) (bytes : List ℕ) (offset : ℕ) : Type 0 where
  pub offsets : List ℕ
  pub subtables : List ℕ
  pub have : HaveContexts reverse contexts offsets subtables
  pub few : length offsets ≤ 32764
  pub fit : AreOffsets (6 + length offsets * 2) offsets
  pub small : flag < 65536
  pub set_small : set < 65536
  pub begins : Holds (mark_set_text flag set) subtables 0
  pub type_small : type < 65536
  pub there : Holds (chained_text type flag offsets subtables) bytes offset

-- such a lookup is appended
pub record AddsChained (reverse : Bool) (type flag set : ℕ) (contexts : List Context) (old new : List ℕ) : Type 0 where
  pub more : List ℕ
  pub bytes : new ≡ old ++ more
  pub has : HasChained reverse type flag set contexts new (length old)
