-- The positions of the kept glyphs: kerning, adjustments of single glyphs, connections, and the attachment of marks.
use Rattle.std.specs.Prelude.{◌≡◌, ℕ, Bool, true, ◌+◌, ◌<◌, ◌==◌, ◌&&◌, ◌||◌, List, [], Option, None, is_none, length, nat_lt, slice_index, if◌then◌else◌}
use Rattle.std.specs.List.{range_with_len}
use Rattle.postscript_layout.specs.Numbers.{word}
use Rattle.postscript_layout_write.specs.Sequences.{Context}
use Rattle.postscript_layout_write.specs.Cursive.{Connection, connection}
use Rattle.postscript_layout_write.specs.Cursive.{by_lookup as connection_by_lookup}
use Rattle.postscript_layout_write.specs.First.{first_some}
use Rattle.postscript_layout_write.specs.Kerning.{KeepsKerning}
use Rattle.postscript_layout_write.specs.Ligatures.{ToComponent}
use Rattle.postscript_layout_write.specs.Ligatures.{attachment as to_component, by_lookup as ligature_by_lookup}
use Rattle.postscript_layout_write.specs.Marks.{Attachment, attaches, attachment, by_lookup, type_at}
use Rattle.postscript_layout_write.specs.Pairs.{lookup_at, lookups_of, pairs_at}
use Rattle.postscript_layout_write.specs.PositionContexts.{contexts_at, contexts_of, is_contextual}
use Rattle.postscript_layout_write.specs.Singles.{adjustment as single, by_lookup as single_by_lookup}
use Rattle.postscript_layout_write.specs.declared.values.Values.{Values}

-- the types of which all subtables are kept: single adjustments, cursive attachment, and marks that are attached to bases, ligatures and other marks
abbrev pub is_kept_type : (type : ℕ) → Bool
is_kept_type type = (attaches type || (type == 5)) || ((type == 1) || (type == 3))

-- whether no subtable of a lookup has pairs; only an extension can have subtables of several types, which the specification forbids
abbrev pub has_no_pairs : List ℕ → (lookup : ℕ) → Bool
has_no_pairs gpos lookup = is_none (first_some (λ j. pairs_at gpos lookup j) (word gpos (lookup + 4)))

-- A lookup keeps its type, and what it says of kept glyphs, if that is such a type, if its flag has no bit above bit 3, which selects classes or sets
-- of marks, and if it has no pairs.
abbrev pub keeps_type : List ℕ → (lookup : ℕ) → Bool
keeps_type gpos lookup = (is_kept_type (type_at gpos lookup) && nat_lt (word gpos (lookup + 2)) 16) && has_no_pairs gpos lookup

-- A lookup keeps its contexts if all of its subtables have contexts, if its flag has no bit above bit 3, and if it has no pairs.
abbrev pub keeps_contexts : List ℕ → (lookup : ℕ) → Bool
keeps_contexts gpos lookup = (is_contextual gpos lookup && nat_lt (word gpos (lookup + 2)) 16) && has_no_pairs gpos lookup

-- the contexts of a lookup whose sets of glyphs all have kept glyphs, with these glyphs only, under new numbers
abbrev pub kept_contexts : (gpos kept : List ℕ) → (lookup : ℕ) → List Context
kept_contexts gpos kept lookup = if keeps_contexts gpos lookup then contexts_at gpos kept lookup else []

-- the adjustment that a lookup of the old table gives to a new number; other numbers than those of kept glyphs are not adjusted
abbrev pub kept_single : (gpos kept : List ℕ) → (lookup x : ℕ) → Option Values
kept_single gpos kept lookup x = if keeps_type gpos lookup && nat_lt x (length kept) then single_by_lookup gpos lookup (slice_index kept x) else None

-- the connection of two new numbers
abbrev pub kept_connection : (gpos kept : List ℕ) → (lookup x y : ℕ) → Option Connection
kept_connection gpos kept lookup x y =
    if keeps_type gpos lookup && (nat_lt x (length kept) && nat_lt y (length kept))
    then connection_by_lookup gpos lookup (slice_index kept x) (slice_index kept y) else None

-- the attachment of two new numbers
abbrev pub kept_attachment : (gpos kept : List ℕ) → (lookup x y : ℕ) → Option Attachment
kept_attachment gpos kept lookup x y =
    if keeps_type gpos lookup && (nat_lt x (length kept) && nat_lt y (length kept))
    then by_lookup gpos lookup (slice_index kept x) (slice_index kept y) else None

-- the same for a component of a ligature
abbrev pub kept_to_component : (gpos kept : List ℕ) → (lookup x y component : ℕ) → Option ToComponent
kept_to_component gpos kept lookup x y component =
    if keeps_type gpos lookup && (nat_lt x (length kept) && nat_lt y (length kept))
    then ligature_by_lookup gpos lookup (slice_index kept x) (slice_index kept y) component else None

-- The new table keeps kerning. A lookup that keeps its type adjusts each single glyph by the same values, connects each glyph to each next glyph, and
-- attaches each mark to each base and to each component of a ligature, at the same anchors. Others do none of these. A lookup has the contexts of the old
-- one whose sets all have kept glyphs, with the same actions and in the same order.
pub record KeepsPositions (old kept new : List ℕ) : Type 0 where
  pub kerning : KeepsKerning old kept new
  pub types : (i : ℕ) → i < lookups_of old → keeps_type old (lookup_at old i) ≡ true → type_at new (lookup_at new i) ≡ type_at old (lookup_at old i)
  pub singles : (i x : ℕ) → i < lookups_of old → single new i x ≡ kept_single old kept (lookup_at old i) x
  pub connections : (i x y : ℕ) → i < lookups_of old → connection new i x y ≡ kept_connection old kept (lookup_at old i) x y
  pub marks : (i x y : ℕ) → i < lookups_of old → attachment new i x y ≡ kept_attachment old kept (lookup_at old i) x y
  pub ligatures : (i x y component : ℕ) → i < lookups_of old →
      to_component new i x y component ≡ kept_to_component old kept (lookup_at old i) x y component
  pub contexts : (i : ℕ) → i < lookups_of old → contexts_of new (range_with_len 0 (length kept)) i ≡ kept_contexts old kept (lookup_at old i)
