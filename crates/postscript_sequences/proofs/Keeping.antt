-- A subtable that is written has the sequences of the old one.
use Rattle.std.proofs.Common.{◌≡◌, ℕ, ◌+◌, ◌*◌, ◌<◌, ◌≤◌, List, [], ◌++◌, length, get_or, flat_map, arith, refl, sym, subst, ◌∙◌, inl, inr}
use Rattle.std.specs.Prelude.{Some}
use Rattle.std.specs.List.{Contains}
use Rattle.postscript_sequences.specs.Keeping.{AreKept, IsRenumbered}
use Rattle.postscript_sequences.specs.Keeps.{IsMappedTo, Keeps}
use Rattle.postscript_sequences.specs.Numbers.{new_number}
use Rattle.postscript_sequences.specs.Parts.{AreParts, Counts, IsPart}
use Rattle.postscript_sequences.specs.Rows.{Holds, IsAt, IsRowOf, IsWritten, absent_at, there_at}
use Rattle.postscript_sequences.specs.Sequences.{AreAscending, HasDefault, HasGlyph, IsDefault, IsMapped, IsRecord}
use Rattle.postscript_sequences.specs.Tables.{default_at, format_of, length_of, number, other_at, records_of, selector_at}
use Rattle.postscript_sequences.specs.Text.{defaults_text, head_text, mapped_text, row_text, uint16, uint24, uint32}
use Rattle.postscript_sequences.specs.declared.parts.Part.{Part}
use Rattle.postscript_sequences.specs.declared.writing.Row.{Row}
use Rattle.postscript_sequences.proofs.Firsts.{number_small}
use Rattle.postscript_sequences.proofs.Glyphs.{counts_record, default_there, glyph_there, none_there, part_there, record_counts, there_default, there_glyph, there_part}
use Rattle.postscript_sequences.proofs.Kept.{defaults_rise, kept_rises, kept_some, kept_there, mapped_rise, part_row, parts_rise, renumbered_rises, renumbered_there, row_part, rows_rise, there_kept, there_renumbered}
use Rattle.postscript_sequences.proofs.Reading.{AreSmall, MappedSmall, holds_first, holds_item, holds_room, holds_second, length16, length24, length32, length_head, length_items, length_row, mapping_there, number16, number24, number32, range_there, there_mapping, there_range}
use Rattle.postscript_sequences.proofs.Rising.{Rises, rises_from}

-- the record of a part that is kept
pub record IsOf (table chars glyphs : List ℕ) (own : Part) : Type 0 where
  pub one : Part
  pub i : ℕ
  pub listed : i < records_of table
  pub counts : Counts table i
  pub is : IsPart table i chars one
  pub renumbered : IsRenumbered glyphs one own

-- the lists of a part have characters and glyphs that can be written, in ascending order
pub record IsWell (own : Part) : Type 0 where
  pub selector : own.selector < 16777216
  pub defaults : AreSmall own.defaults.items
  pub defaults_rise : Rises (λ x. x) own.defaults.items
  pub mapped : MappedSmall own.mapped.items
  pub mapped_rise : Rises (λ each. each.0) own.mapped.items

pub own_of : (table chars glyphs : List ℕ) (old new : List Part) → AreParts table chars (records_of table) old → AreKept glyphs old new →
    (own : Part) → Contains new own → IsOf table chars glyphs own
own_of table chars glyphs old new are chosen own there =
    let a = kept_there glyphs old new chosen own there in
    let b = part_there table chars (records_of table) old are a.0 a.1 in
    record { one = a.0; i = b.0; listed = b.1; counts = b.2; is = b.3; renumbered = a.2 }

-- the sequences of a part are those of its record
pub default_of : (table chars glyphs : List ℕ) (own : Part) → (of : IsOf table chars glyphs own) → (char : ℕ) →
    Contains own.defaults.items char → Contains chars char × HasDefault table of.i char
default_of table chars glyphs own of char there =
    default_there table of.i chars of.one.defaults.items of.one.mapped.items of.is.said char
    (subst (λ xs. Contains xs char) of.renumbered.defaults there)

pub glyph_of : (table chars glyphs : List ℕ) (own : Part) → (of : IsOf table chars glyphs own) → (char number : ℕ) →
    Contains own.mapped.items (char, number) →
    (glyph : ℕ) × Contains chars char × HasGlyph table of.i char glyph × (new_number glyphs glyph ≡ Some number)
glyph_of table chars glyphs own of char number there =
    let a = renumbered_there glyphs of.one.mapped.items own.mapped.items of.renumbered.mapped (char, number) there in
    let b = glyph_there table of.i chars of.one.defaults.items of.one.mapped.items of.is.said (char, a.0) a.1 in
    (a.0, b.0, b.1, a.2)

pub well_of : (table chars glyphs : List ℕ) (own : Part) → AreAscending chars → length glyphs ≤ 65536 → IsOf table chars glyphs own → IsWell own
well_of table chars glyphs own ascending few of =
    let rise = rises_from chars ascending in
    let one = of.one in
    let is = of.is in
    let renumbered = of.renumbered in
    record {
      selector = let a = is.small in let b = renumbered.selector in omega (arith, a, b);
      defaults = record { each = λ char there. (default_of table chars glyphs own of char there).1.1.small };
      defaults_rise = subst (λ xs. Rises (λ x. x) xs) (sym renumbered.defaults)
          (defaults_rise table of.i chars one.defaults.items one.mapped.items is.said rise);
      mapped = record {
        char = λ each there. (glyph_of table chars glyphs own of each.0 each.1 there).2.mapping.small;
        glyph = λ each there.
            let w = glyph_of table chars glyphs own of each.0 each.1 there in
            let small = number_small glyphs w.0 each.1 w.3 in
            omega (arith, small, few);
      };
      mapped_rise = renumbered_rises glyphs one.mapped.items own.mapped.items renumbered.mapped
          (mapped_rise table of.i chars one.defaults.items one.mapped.items is.said rise);
    }

-- the records of the bytes
head_holds : (parts : List Part) (bytes : List ℕ) → (w : IsWritten parts bytes) → Holds (head_text (length bytes) (length w.rows)) bytes 0
head_holds parts bytes w = record { front = []; behind = flat_map row_text w.rows ++ w.tables; is = w.is; place = refl }

pub format_is : (parts : List Part) (bytes : List ℕ) → IsWritten parts bytes → format_of bytes ≡ 14
format_is parts bytes w =
    number16 14 (omega arith) (holds_first (uint16 14) (uint32 (length bytes) ++ uint32 (length w.rows)) (head_holds parts bytes w))

pub size_is : (parts : List Part) (bytes : List ℕ) → IsWritten parts bytes → length_of bytes ≡ length bytes
size_is parts bytes w =
    number32 (length bytes) w.short (holds_first (uint32 (length bytes)) (uint32 (length w.rows))
    (holds_second (uint16 14) (uint32 (length bytes) ++ uint32 (length w.rows)) 2 (length16 14) (head_holds parts bytes w)))

count_is : (parts : List Part) (bytes : List ℕ) → (w : IsWritten parts bytes) → number bytes 6 4 ≡ length w.rows
count_is parts bytes w =
    number32 (length w.rows) w.few (holds_second (uint32 (length bytes)) (uint32 (length w.rows)) 4 (length32 (length bytes))
    (holds_second (uint16 14) (uint32 (length bytes) ++ uint32 (length w.rows)) 2 (length16 14) (head_holds parts bytes w)))

rows_hold : (parts : List Part) (bytes : List ℕ) → (w : IsWritten parts bytes) → Holds (flat_map row_text w.rows) bytes 10
rows_hold parts bytes w = record {
  front = head_text (length bytes) (length w.rows);
  behind = w.tables;
  is = w.is;
  place = length_head (length bytes) (length w.rows);
}

pub records_are : (parts : List Part) (bytes : List ℕ) → (w : IsWritten parts bytes) → records_of bytes ≡ length w.rows
unfolding records_of
records_are parts bytes w =
    let count = count_is parts bytes w in
    let room = holds_room (flat_map row_text w.rows) (rows_hold parts bytes w) in
    let size = length_items row_text 11 length_row w.rows in
    omega (arith, count, room, size)

row_holds : (parts : List Part) (bytes : List ℕ) → (w : IsWritten parts bytes) → (k : ℕ) (d : Row) → k < length w.rows →
    Holds (row_text (get_or w.rows k d)) bytes (10 + k * 11)
row_holds parts bytes w k d less = holds_item row_text 11 length_row w.rows 10 k d less (rows_hold parts bytes w)

-- a record of no part
no_row : Row
no_row = record { selector = 0; defaults = 0; mapped = 0 }

-- record k of the bytes is that of a part
pub record IsOwn (parts : List Part) (bytes : List ℕ) (k : ℕ) (own : Part) : Type 0 where
  pub listed : k < records_of bytes
  pub there : Contains parts own
  pub selector : selector_at bytes k ≡ own.selector
  pub defaults : IsAt own.defaults.items (defaults_text own.defaults.items) bytes (default_at bytes k)
  pub mapped : IsAt own.mapped.items (mapped_text own.mapped.items) bytes (other_at bytes k)

at_small : {X : Type 0} (items : List X) (text bytes : List ℕ) (offset : ℕ) → IsAt items text bytes offset → offset < 4294967296
at_small items text bytes offset (absent_at none zero) = omega (arith, zero)
at_small items text bytes offset (there_at few some small holds) = small

own_row : (parts : List Part) (bytes : List ℕ) → (w : IsWritten parts bytes) → (k : ℕ) → k < length w.rows → (own : Part) → Contains parts own →
    IsWell own → IsRowOf bytes own (get_or w.rows k no_row) → IsOwn parts bytes k own
own_row parts bytes w k less own there well is =
    let r : Row = get_or w.rows k no_row in
    let text : Holds (row_text r) bytes (10 + k * 11) = row_holds parts bytes w k no_row less in
    let rest : Holds (uint32 r.defaults ++ uint32 r.mapped) bytes (10 + k * 11 + 3) =
    holds_second (uint24 r.selector) (uint32 r.defaults ++ uint32 r.mapped) 3 (length24 r.selector) text in
    let small : r.selector < 16777216 = let a = is.selector in let b = well.selector in omega (arith, a, b) in
    let selector : selector_at bytes k ≡ r.selector = number24 r.selector small
    (holds_first (uint24 r.selector) (uint32 r.defaults ++ uint32 r.mapped) text) in
    let defaults : default_at bytes k ≡ r.defaults = number32 r.defaults (at_small _ _ bytes r.defaults is.defaults)
    (holds_first (uint32 r.defaults) (uint32 r.mapped) rest) in
    let next : 10 + k * 11 + 3 + 4 ≡ 10 + k * 11 + 7 = omega arith in
    let mapped : other_at bytes k ≡ r.mapped = number32 r.mapped (at_small _ _ bytes r.mapped is.mapped)
    (subst (λ n. Holds (uint32 r.mapped) bytes n) next
    (holds_second (uint32 r.defaults) (uint32 r.mapped) 4 (length32 r.defaults) rest)) in
    record {
      listed = let e = records_are parts bytes w in omega (arith, e, less);
      there = there;
      selector = selector ∙ is.selector;
      defaults = subst (λ n. IsAt own.defaults.items (defaults_text own.defaults.items) bytes n) (sym defaults) is.defaults;
      mapped = subst (λ n. IsAt own.mapped.items (mapped_text own.mapped.items) bytes n) (sym mapped) is.mapped;
    }

-- the part of a record, and the record of a part
record_own : (parts : List Part) (bytes : List ℕ) → (w : IsWritten parts bytes) → ((own : Part) → Contains parts own → IsWell own) → (k : ℕ) →
    k < records_of bytes → (own : Part) × IsOwn parts bytes k own
record_own parts bytes w well k less =
    let count = records_are parts bytes w in
    let within : k < length w.rows = omega (arith, count, less) in
    let a = row_part bytes parts w.rows w.are k within in
    (a.0, own_row parts bytes w k within a.0 a.1 (well a.0 a.1) (a.2 no_row))

own_record : (parts : List Part) (bytes : List ℕ) → (w : IsWritten parts bytes) → ((own : Part) → Contains parts own → IsWell own) → (own : Part) →
    Contains parts own → (k : ℕ) × IsOwn parts bytes k own
own_record parts bytes w well own there =
    let a = part_row bytes parts w.rows w.are own there in
    (a.0, own_row parts bytes w a.0 a.1 own there (well own there) (a.2 no_row))

-- the selectors of the bytes are in ascending order
selectors_rise : (parts : List Part) (bytes : List ℕ) → (w : IsWritten parts bytes) → ((own : Part) → Contains parts own → IsWell own) →
    Rises (λ one. one.selector) parts → (i j : ℕ) → i < j → j < records_of bytes → selector_at bytes i < selector_at bytes j
selectors_rise parts bytes w well rise i j less within =
    let count = records_are parts bytes w in
    let late : j < length w.rows = omega (arith, count, within) in
    let early : i < length w.rows = omega (arith, late, less) in
    let a = row_part bytes parts w.rows w.are i early in
    let b = row_part bytes parts w.rows w.are j late in
    let c = (own_row parts bytes w i early a.0 a.1 (well a.0 a.1) (a.2 no_row)).selector in
    let d = (own_row parts bytes w j late b.0 b.1 (well b.0 b.1) (b.2 no_row)).selector in
    let e = (a.2 no_row).selector in
    let f = (b.2 no_row).selector in
    let low = (rows_rise bytes parts w.rows w.are rise).apart i j no_row less late in
    omega (arith, c, d, e, f, low)

-- all that the proof of both directions needs
record Given (table chars glyphs : List ℕ) (old new : List Part) (bytes : List ℕ) : Type 0 where
  pub are : AreParts table chars (records_of table) old
  pub kept : AreKept glyphs old new
  pub written : IsWritten new bytes
  pub well : (own : Part) → Contains new own → IsWell own
  pub rise : (i j : ℕ) → i < j → j < records_of bytes → selector_at bytes i < selector_at bytes j

given : (table chars glyphs : List ℕ) (old new : List Part) (bytes : List ℕ) → AreAscending chars → length glyphs ≤ 65536 →
    AreParts table chars (records_of table) old → AreKept glyphs old new → IsWritten new bytes → Given table chars glyphs old new bytes
given table chars glyphs old new bytes ascending few are chosen written =
    let well : (own : Part) → Contains new own → IsWell own =
    λ own there. well_of table chars glyphs own ascending few (own_of table chars glyphs old new are chosen own there) in
    record {
      are = are;
      kept = chosen;
      written = written;
      well = well;
      rise = selectors_rise new bytes written well (kept_rises glyphs old new chosen (parts_rise table chars (records_of table) old are));
    }

-- a record of the bytes is that of its selector
is_record : (bytes : List ℕ) (k selector : ℕ) → ((i j : ℕ) → i < j → j < records_of bytes → selector_at bytes i < selector_at bytes j) →
    k < records_of bytes → selector_at bytes k ≡ selector → IsRecord bytes selector k
is_record bytes k selector rise less is = record {
  listed = less;
  is = is;
  before = λ j below. let low = rise j k below less in omega (arith, low, is);
}

-- the record of the old table
old_record : (table chars glyphs : List ℕ) (own : Part) → (of : IsOf table chars glyphs own) → (selector : ℕ) → own.selector ≡ selector →
    IsRecord table selector of.i
old_record table chars glyphs own of selector is =
    counts_record table selector of.i of.listed of.counts (sym of.is.selector ∙ sym of.renumbered.selector ∙ is)

-- without entries a table is absent
at_none : {X : Type 0} (items : List X) (text bytes : List ℕ) (offset : ℕ) → IsAt items text bytes offset → offset ≡ 0 → items ≡ []
at_none items text bytes offset (absent_at none _) start = none
at_none items text bytes offset (there_at few some small holds) start = absurd (omega (arith, some, start))

-- each record has a table
record_filled : (table chars glyphs : List ℕ) (old new : List Part) (bytes : List ℕ) → Given table chars glyphs old new bytes → (i : ℕ) →
    i < records_of bytes → default_at bytes i ≡ 0 → other_at bytes i ≡ 0 → ⊥
record_filled table chars glyphs old new bytes g i less a b =
    let r = record_own new bytes g.written g.well i less in
    kept_some glyphs old new g.kept r.0 r.1.there (record {
      defaults = at_none _ _ bytes (default_at bytes i) r.1.defaults a;
      mapped = at_none _ _ bytes (other_at bytes i) r.1.mapped b;
    })

-- what the new table says, the old one says
default_back : (table chars glyphs : List ℕ) (old new : List Part) (bytes : List ℕ) → Given table chars glyphs old new bytes →
    (char selector : ℕ) → IsDefault bytes char selector → Contains chars char × IsDefault table char selector
default_back table chars glyphs old new bytes g char selector h =
    let a = record_own new bytes g.written g.well h.0 h.1.listed in
    let own : Part = a.0 in
    let well = g.well own a.1.there in
    let has = range_there bytes own.defaults.items (default_at bytes h.0) well.defaults a.1.defaults char h.2.0 h.2.1 in
    let of = own_of table chars glyphs old new g.are g.kept own a.1.there in
    let said = default_of table chars glyphs own of char has in
    (said.0, (of.i, old_record table chars glyphs own of selector (sym a.1.selector ∙ h.1.is), said.1))

mapped_back : (table chars glyphs : List ℕ) (old new : List Part) (bytes : List ℕ) → Given table chars glyphs old new bytes →
    (char selector number : ℕ) → IsMapped bytes char selector number → IsMappedTo table chars glyphs char selector number
mapped_back table chars glyphs old new bytes g char selector number h =
    let a = record_own new bytes g.written g.well h.0 h.1.listed in
    let own : Part = a.0 in
    let well = g.well own a.1.there in
    let has = mapping_there bytes own.mapped.items (other_at bytes h.0) well.mapped a.1.mapped char h.2.k number h.2.mapping h.2.is in
    let of = own_of table chars glyphs old new g.are g.kept own a.1.there in
    let said = glyph_of table chars glyphs own of char number has in
    (said.1, (said.0, (of.i, old_record table chars glyphs own of selector (sym a.1.selector ∙ h.1.is), said.2), said.3))

-- the record of the new table: that of a kept part
new_record : (table chars glyphs : List ℕ) (old new : List Part) (bytes : List ℕ) → (g : Given table chars glyphs old new bytes) →
    (one own : Part) → Contains new own → IsRenumbered glyphs one own → (i selector : ℕ) → IsPart table i chars one → IsRecord table selector i →
    (k : ℕ) × IsRecord bytes selector k × IsOwn new bytes k own
new_record table chars glyphs old new bytes g one own there renumbered i selector part is =
    let a = own_record new bytes g.written g.well own there in
    (a.0, is_record bytes a.0 selector g.rise a.1.listed (a.1.selector ∙ renumbered.selector ∙ part.selector ∙ is.is), a.1)

default_on : (table chars glyphs : List ℕ) (old new : List Part) (bytes : List ℕ) → Given table chars glyphs old new bytes →
    (char selector : ℕ) → Contains chars char → IsDefault table char selector → IsDefault bytes char selector
default_on table chars glyphs old new bytes g char selector in_chars h =
    let p = there_part table chars (records_of table) old g.are h.0 h.1.listed (record_counts table selector h.0 h.1) in
    let had = there_default table h.0 chars p.0.defaults.items p.0.mapped.items p.2.said char in_chars h.2 in
    let q = there_kept glyphs old new g.kept p.0 p.1 in
    let has : Contains q.0.defaults.items char = subst (λ xs. Contains xs char) (sym q.1.defaults) had in
    elim q.2 [
      | inl there ↦
          let r = new_record table chars glyphs old new bytes g p.0 q.0 there q.1 h.0 selector p.2 h.1 in
          let well = g.well q.0 there in
          (r.0, r.1, there_range bytes q.0.defaults.items (default_at bytes r.0) well.defaults well.defaults_rise r.2.defaults char has)
      | inr none ↦ absurd (none_there char (subst (λ xs. Contains xs char) none.defaults has))
    ]

mapped_on : (table chars glyphs : List ℕ) (old new : List Part) (bytes : List ℕ) → Given table chars glyphs old new bytes →
    (char selector number : ℕ) → IsMappedTo table chars glyphs char selector number → IsMapped bytes char selector number
mapped_on table chars glyphs old new bytes g char selector number h =
    let glyph : ℕ = h.1.0 in
    let i : ℕ = h.1.1.0 in
    let is : IsRecord table selector i = h.1.1.1 in
    let own_glyph : HasGlyph table i char glyph = h.1.1.2 in
    let p = there_part table chars (records_of table) old g.are i is.listed (record_counts table selector i is) in
    let had = there_glyph table i chars p.0.defaults.items p.0.mapped.items p.2.said char glyph h.0 own_glyph in
    let q = there_kept glyphs old new g.kept p.0 p.1 in
    let has = there_renumbered glyphs p.0.mapped.items q.0.mapped.items q.1.mapped char glyph number had h.1.2 in
    elim q.2 [
      | inl there ↦
          let r = new_record table chars glyphs old new bytes g p.0 q.0 there q.1 i selector p.2 is in
          let well = g.well q.0 there in
          let m = there_mapping bytes q.0.mapped.items (other_at bytes r.0) well.mapped well.mapped_rise r.2.mapped char number has in (
            r.0,
            r.1,
            record {
              not_default = λ d.
                  let again = range_there bytes q.0.defaults.items (default_at bytes r.0) well.defaults r.2.defaults char d.0 d.1 in
                  own_glyph.not_default (default_there table i chars p.0.defaults.items p.0.mapped.items p.2.said char
                  (subst (λ xs. Contains xs char) q.1.defaults again)).1;
              k = m.0;
              mapping = m.1;
              is = m.2;
            },
          )
      | inr none ↦ absurd (none_there (char, number) (subst (λ xs. Contains xs (char, number)) none.mapped has))
    ]

pub keeps : (table chars glyphs : List ℕ) (old new : List Part) (bytes : List ℕ) → AreAscending chars → length glyphs ≤ 65536 →
    AreParts table chars (records_of table) old → AreKept glyphs old new → IsWritten new bytes → Keeps table chars glyphs bytes
keeps table chars glyphs old new bytes ascending few are chosen written =
    let g = given table chars glyphs old new bytes ascending few are chosen written in
    record {
      format = format_is new bytes written;
      size = size_is new bytes written;
      order = g.rise;
      filled = λ i less a b. record_filled table chars glyphs old new bytes g i less a b;
      defaults = λ char selector. (
        λ h. default_back table chars glyphs old new bytes g char selector h,
        λ h. default_on table chars glyphs old new bytes g char selector h.0 h.1,
      );
      mapped = λ char selector number. (
        λ h. mapped_back table chars glyphs old new bytes g char selector number h,
        λ h. mapped_on table chars glyphs old new bytes g char selector number h,
      );
    }
