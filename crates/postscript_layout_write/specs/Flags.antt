-- The positions of the kept glyphs, also in lookups that use classes or sets of marks (OpenType 1.9, "OpenType Layout Common Table Formats", "Lookup
-- table"; ISO/IEC 14496-22, 6.2): the high byte of a flag is a class of marks, and bit 4 says that a set of marks follows the offsets of subtables.
use Rattle.std.specs.Prelude.{◌≡◌, ℕ, Bool, true, ◌+◌, ◌*◌, ◌/◌, ◌%◌, ◌<◌, ◌==◌, ◌&&◌, List, [], Option, None, length, nat_lt, slice_index, if◌then◌else◌}
use Rattle.std.specs.List.{range_with_len}
use Rattle.postscript_layout.specs.Numbers.{word}
use Rattle.postscript_layout_write.specs.Sequences.{Context}
use Rattle.postscript_layout_write.specs.Cursive.{Connection, connection}
use Rattle.postscript_layout_write.specs.Cursive.{by_lookup as connection_by_lookup}
use Rattle.postscript_layout_write.specs.Kerning.{KeepsLists}
use Rattle.postscript_layout_write.specs.Ligatures.{ToComponent}
use Rattle.postscript_layout_write.specs.Ligatures.{attachment as to_component, by_lookup as ligature_by_lookup}
use Rattle.postscript_layout_write.specs.Marks.{Attachment, attachment, type_at}
use Rattle.postscript_layout_write.specs.Marks.{by_lookup as attachment_by_lookup}
use Rattle.postscript_layout_write.specs.Pairs.{adjustment, by_lookup, flag_of, lookup_at, lookups_of}
use Rattle.postscript_layout_write.specs.Positions.{has_no_pairs, is_kept_type}
use Rattle.postscript_layout_write.specs.PositionContexts.{contexts_at, contexts_of, is_contextual}
use Rattle.postscript_layout_write.specs.Singles.{adjustment as single, by_lookup as single_by_lookup}
use Rattle.postscript_layout_write.specs.Values.{nothing}
use Rattle.postscript_layout_write.specs.declared.values.Adjustment.{Adjustment}
use Rattle.postscript_layout_write.specs.declared.values.Values.{Values}

-- whether a lookup with a flag uses a set of marks, and the index of that set
abbrev pub uses_set : (flag : ℕ) → Bool
uses_set flag = flag / 16 % 2 == 1

abbrev pub set_of : List ℕ → (lookup : ℕ) → ℕ
set_of gpos lookup = word gpos (lookup + 6 + word gpos (lookup + 4) * 2)

-- whether a lookup has a type of which all subtables are kept, and no pairs
abbrev pub has_kept_type : List ℕ → (lookup : ℕ) → Bool
has_kept_type gpos lookup = is_kept_type (type_at gpos lookup) && has_no_pairs gpos lookup

-- whether a lookup has contexts only, and no pairs
abbrev pub has_contexts : List ℕ → (lookup : ℕ) → Bool
has_contexts gpos lookup = is_contextual gpos lookup && has_no_pairs gpos lookup

-- what a lookup of the old table says of new numbers
abbrev pub old_pair : (gpos kept : List ℕ) → (lookup x y : ℕ) → Adjustment
old_pair gpos kept lookup x y =
    if nat_lt x (length kept) && nat_lt y (length kept) then by_lookup gpos lookup (slice_index kept x) (slice_index kept y) else nothing

abbrev pub old_single : (gpos kept : List ℕ) → (lookup x : ℕ) → Option Values
old_single gpos kept lookup x = if has_kept_type gpos lookup && nat_lt x (length kept) then single_by_lookup gpos lookup (slice_index kept x) else None

abbrev pub old_connection : (gpos kept : List ℕ) → (lookup x y : ℕ) → Option Connection
old_connection gpos kept lookup x y =
    if has_kept_type gpos lookup && (nat_lt x (length kept) && nat_lt y (length kept))
    then connection_by_lookup gpos lookup (slice_index kept x) (slice_index kept y) else None

abbrev pub old_attachment : (gpos kept : List ℕ) → (lookup x y : ℕ) → Option Attachment
old_attachment gpos kept lookup x y =
    if has_kept_type gpos lookup && (nat_lt x (length kept) && nat_lt y (length kept))
    then attachment_by_lookup gpos lookup (slice_index kept x) (slice_index kept y) else None

abbrev pub old_to_component : (gpos kept : List ℕ) → (lookup x y component : ℕ) → Option ToComponent
old_to_component gpos kept lookup x y component =
    if has_kept_type gpos lookup && (nat_lt x (length kept) && nat_lt y (length kept))
    then ligature_by_lookup gpos lookup (slice_index kept x) (slice_index kept y) component else None

abbrev pub old_contexts : (gpos kept : List ℕ) → (lookup : ℕ) → List Context
old_contexts gpos kept lookup = if has_contexts gpos lookup then contexts_at gpos kept lookup else []

-- The new table keeps scripts and features. It has as many lookups, each with its flag and its set of marks, and each adjusts pairs and single glyphs,
-- connects glyphs and attaches marks as the old one, and has the contexts of the old one. A lookup whose subtables are all kept has the same type.
pub record KeepsFlaggedPositions (old kept new : List ℕ) : Type 0 where
  pub lists : KeepsLists old new
  pub lookups : lookups_of new ≡ lookups_of old
  pub flags : (i : ℕ) → i < lookups_of old → flag_of new i ≡ flag_of old i
  pub sets : (i : ℕ) → i < lookups_of old → uses_set (flag_of old i) ≡ true → set_of new (lookup_at new i) ≡ set_of old (lookup_at old i)
  pub pairs : (i x y : ℕ) → i < lookups_of old → adjustment new i x y ≡ old_pair old kept (lookup_at old i) x y
  pub types : (i : ℕ) → i < lookups_of old → has_kept_type old (lookup_at old i) ≡ true → type_at new (lookup_at new i) ≡ type_at old (lookup_at old i)
  pub singles : (i x : ℕ) → i < lookups_of old → single new i x ≡ old_single old kept (lookup_at old i) x
  pub connections : (i x y : ℕ) → i < lookups_of old → connection new i x y ≡ old_connection old kept (lookup_at old i) x y
  pub marks : (i x y : ℕ) → i < lookups_of old → attachment new i x y ≡ old_attachment old kept (lookup_at old i) x y
  pub ligatures : (i x y component : ℕ) → i < lookups_of old →
      to_component new i x y component ≡ old_to_component old kept (lookup_at old i) x y component
  pub contexts : (i : ℕ) → i < lookups_of old → contexts_of new (range_with_len 0 (length kept)) i ≡ old_contexts old kept (lookup_at old i)
