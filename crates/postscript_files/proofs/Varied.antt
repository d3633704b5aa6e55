-- The variation sequences of `cmap` tables.
use Rattle.std.proofs.Common.{◌≡◌, sym, ap, subst, ◌∙◌, inl, inr, ℕ, zero, suc, ◌+◌, ◌*◌, ◌<◌, ◌≤◌, List, [], length, get_or, drop, arith}
use Rattle.std.specs.Prelude.{◌↔◌, IfOk, Result, Ok, Err, Vec, if◌then◌else◌}
use Rattle.std.specs.List.{Contains}
use Rattle.std.proofs.lemmas.Bool.{cases_lt, le-ltb, lt-ltb}
use Rattle.std.proofs.lemmas.List.{get_or-map, length-map}
use Rattle.std.proofs.lemmas.Option.{slice_get-get_or}
use Rattle.postscript_base.specs.Index.{number_at}
use Rattle.postscript_sequences.specs.Keeps.{Keeps}
use Rattle.postscript_sequences.specs.Sequences.{AreAscending, IsDefault, IsGlyphOf, IsMapped, IsSubtable, offset_at}
use Rattle.postscript_sequences.specs.Tables.{number, records_of}
use Rattle.postscript_sequences.specs.Units.{units_of}
use Rattle.postscript_sfnt.specs.Choice.{encoding_at, place_at, platform_at}
use Rattle.postscript_sfnt.specs.Choice.{records_of as encodings_of}
use Rattle.postscript_sfnt_write.specs.Mappings.{AreTold, AreToldIn4, CharsRise, HasFormat4, IsReadable}
use Rattle.postscript_sfnt_write.specs.Records.{AllAscend, HasFourRecords, HasRecords, HasTwoRecords}
use Rattle.postscript_sfnt_write.specs.Sequences.{AreClosed, IsWith}
use Rattle.postscript_sfnt_write.specs.declared.mapping.Mapping.{Mapping}
use Rattle.postscript_files.specs.Sequences.{HasDefault, HasKept, HasMapped, HasNoSequences, IsAdded, IsFirstIndex, IsKept, IsMapLike, IsSequenceGlyph, IsSequencesOf, IsTooLong, KeepsSequences, char_of, chars_of, most_units}
use Rattle.std.specs.declared.alloc.Global.{Global}
use Rattle.postscript_files.specs.Choices.{AreKeptPairs}
use Rattle.postscript_files.specs.Subsets.{AreSequenceGlyphs}
use Rattle.postscript_files.specs.declared.choice.Choice.{Choice}
use Rattle.postscript_files.specs.declared.error.Error.{Error}
use Rattle.postscript_files.specs.declared.face.Face.{Face}

abbrev none : Mapping
none = record { char = 0; glyph = 0 }

-- the characters of mappings ascend
pub chars_ascend : (pairs : List Mapping) → CharsRise pairs → AreAscending (chars_of pairs)
chars_ascend pairs rise i j less within =
    let many = length-map pairs char_of in
    let inside : j < length pairs = omega (arith, within, many) in
    let before : i < length pairs = omega (arith, less, inside) in
    let a = get_or-map char_of pairs i none 0 before in
    let b = get_or-map char_of pairs j none 0 inside in
    let up = rise i j (get_or pairs i none) (get_or pairs j none) less (slice_get-get_or pairs i none before)
    (slice_get-get_or pairs j none inside) in
    omega (arith, a, b, up)

-- numbers within a table
there : (table : List ℕ) (offset size : ℕ) → offset + size ≤ length table → number table offset size ≡ number_at table offset size
unfolding number
there table offset size room =
    ap (λ b. if b then 0 else number_at table offset size) (le-ltb (length table) (offset + size) room)

past : (table : List ℕ) (offset size : ℕ) → length table < offset + size → number table offset size ≡ 0
unfolding number
past table offset size short =
    ap (λ b. if b then 0 else number_at table offset size) (lt-ltb (length table) (offset + size) short)

-- one subtable has the sequences
same_index : (cmap : List ℕ) (i j : ℕ) → IsSubtable cmap i → IsSubtable cmap j → ((k : ℕ) → k < i → IsSubtable cmap k → ⊥) →
    ((k : ℕ) → k < j → IsSubtable cmap k → ⊥) → i ≡ j
same_index cmap i j a b first other = elim (cases_lt i j) [
  | inl less ↦ absurd (other i less a)
  | inr more ↦ elim (cases_lt j i) [
    | inl less ↦ absurd (first j less b)
    | inr least ↦ omega (arith, more, least)
  ]
]

one_table : (cmap a b : List ℕ) → IsSequencesOf cmap a → IsSequencesOf cmap b → a ≡ b
one_table cmap a b x y =
    x.bytes ∙ ap (λ n. drop (offset_at cmap n) cmap) (same_index cmap x.i y.i x.here y.here x.first y.first) ∙ sym y.bytes

-- the added subtable has them
record IsHeld (cmap : List ℕ) (i : ℕ) : Type 0 where
  listed : i < encodings_of cmap
  platform : platform_at cmap i ≡ 0
  encoding : encoding_at cmap i ≡ 5

-- the record of a subtable of sequences
held : (cmap : List ℕ) (i : ℕ) → IsSubtable cmap i → IsHeld cmap i
held cmap i it =
    let within = it.0 in
    let platform = it.1.platform in
    let encoding = it.1.encoding in
    let room : 4 + i * 8 + 8 ≤ length cmap = omega (arith, within) in
    let count = there cmap 2 2 (omega (arith, room)) in
    let a = there cmap (4 + i * 8) 2 (omega (arith, room)) in
    let b = there cmap (4 + i * 8 + 2) 2 (omega (arith, room)) in
    record {
      listed = omega (arith, within, count);
      platform = omega (arith, platform, a);
      encoding = omega (arith, encoding, b);
    }

with_offset : (plain subtable cmap : List ℕ) (w : IsWith plain subtable cmap) → offset_at cmap w.at ≡ place_at cmap w.at
with_offset plain subtable cmap w =
    let size = w.size in
    let records = w.was.records in
    let listed = w.listed in
    there cmap (4 + w.at * 8 + 4) 4 (omega (arith, size, records, listed))

format_of_added : (plain subtable cmap : List ℕ) (w : IsWith plain subtable cmap) → 2 ≤ length subtable →
    number_at cmap (place_at cmap w.at) 2 ≡ number_at subtable 0 2
unfolding number_at
format_of_added plain subtable cmap w long = ap (λ (xs : List ℕ). number_at xs 0 2) w.bytes

pub with_sequences_of : (plain subtable cmap : List ℕ) → IsWith plain subtable cmap → number_at subtable 0 2 ≡ 14 → 2 ≤ length subtable →
    IsSequencesOf cmap subtable
with_sequences_of plain subtable cmap w format long =
    let size = w.size in
    let records = w.was.records in
    let listed = w.listed in
    let counted = w.counted in
    let offset = w.offset in
    let is = with_offset plain subtable cmap w in
    let count = there cmap 2 2 (omega (arith, size)) in
    let a = there cmap (4 + w.at * 8) 2 (omega (arith, size, records, listed)) in
    let b = there cmap (4 + w.at * 8 + 2) 2 (omega (arith, size, records, listed)) in
    let f = there cmap (place_at cmap w.at) 2 (omega (arith, size, offset, long)) in
    let platform = w.platform in
    let encoding = w.encoding in
    record {
      i = w.at;
      here = (
        omega (arith, size, records, listed, counted, count),
        record {
          platform = omega (arith, a, platform);
          encoding = omega (arith, b, encoding);
          format = ap (λ n. number cmap n 2) is ∙ f ∙ format_of_added plain subtable cmap w long ∙ format;
        },
      );
      first = λ k less it.
          let h = held cmap k it in
          let is_five = h.encoding in
          let same = (w.before k less).encoding in
          let low = (w.lower k less).1 in
          absurd (omega (arith, is_five, same, low));
      bytes = sym w.bytes ∙ ap (λ n. drop n cmap) (sym is);
    }

-- a written table has none
two_none : (cmap : List ℕ) (i : ℕ) → HasTwoRecords cmap → i < encodings_of cmap → encoding_at cmap i ≡ 5 → ⊥
two_none cmap zero it less five = let is = it.unicode.1 in absurd (omega (arith, is, five))
two_none cmap (suc zero) it less five = let is = it.windows.1 in absurd (omega (arith, is, five))
two_none cmap (suc (suc i)) it less five = let many = it.counted in absurd (omega (arith, less, many))

four_none : (cmap : List ℕ) (i : ℕ) → HasFourRecords cmap → i < encodings_of cmap → encoding_at cmap i ≡ 5 → ⊥
four_none cmap zero it less five = let is = it.unicode.1 in absurd (omega (arith, is, five))
four_none cmap (suc zero) it less five = let is = it.unicode_full.1 in absurd (omega (arith, is, five))
four_none cmap (suc (suc zero)) it less five = let is = it.windows.1 in absurd (omega (arith, is, five))
four_none cmap (suc (suc (suc zero))) it less five = let is = it.windows_full.1 in absurd (omega (arith, is, five))
four_none cmap (suc (suc (suc (suc i)))) it less five = let many = it.counted in absurd (omega (arith, less, many))

pub written_none : (cmap : List ℕ) → HasRecords cmap → HasNoSequences cmap
written_none cmap records i it =
    let h = held cmap i it in
    elim records.are [
      | inl two ↦ two_none cmap i two h.listed h.encoding
      | inr four ↦ four_none cmap i four h.listed h.encoding
    ]

-- neither table has sequences of these characters
keeps_none : (old chars origins new : List ℕ) → HasNoSequences old → HasNoSequences new → HasKept old chars (IsFirstIndex origins) new
keeps_none old chars origins new a b = record {
  defaults = λ char selector. (λ h. absurd (b h.1.i h.1.here), λ h. absurd (a h.1.1.i h.1.1.here));
  mapped = λ char selector number. (λ h. absurd (b h.1.i h.1.here), λ h. absurd (a h.1.1.1.i h.1.1.1.here));
}

default_on : (cmap table : List ℕ) (char selector : ℕ) → IsSequencesOf cmap table → HasDefault cmap char selector →
    IsDefault table char selector
default_on cmap table char selector is h = subst (λ xs. IsDefault xs char selector) (one_table cmap h.0 table h.1 is) h.2

mapped_on : (cmap table : List ℕ) (char selector glyph : ℕ) → IsSequencesOf cmap table → HasMapped cmap char selector glyph →
    IsMapped table char selector glyph
mapped_on cmap table char selector glyph is h = subst (λ xs. IsMapped xs char selector glyph) (one_table cmap h.0 table h.1 is) h.2

keeps_table : (old chars origins new table subtable : List ℕ) → IsSequencesOf old table → IsSequencesOf new subtable →
    Keeps table chars origins subtable → HasKept old chars (IsFirstIndex origins) new
keeps_table old chars origins new table subtable was is keeps = record {
  defaults = λ char selector. (
    λ h. (let k = (keeps.defaults char selector).0 (default_on new subtable char selector is h) in (k.0, (table, was, k.1))),
    λ h. (subtable, is, (keeps.defaults char selector).1 (h.0, default_on old table char selector was h.1)),
  );
  mapped = λ char selector number. (
    λ h. (let k = (keeps.mapped char selector number).0 (mapped_on new subtable char selector number is h) in
        (k.0, (k.1.0, (table, was, k.1.1), k.1.2))),
    λ h. (
      subtable,
      is,
      (keeps.mapped char selector number).1 (h.0, (h.1.0, mapped_on old table char selector h.1.0 was h.1.1, h.1.2)),
    ),
  );
}

-- a subtable without records has no sequences
no_records : (subtable : List ℕ) → length subtable < 21 → records_of subtable ≡ 0
unfolding records_of
no_records subtable short = omega (arith, short)

keeps_empty : (old chars origins new table subtable : List ℕ) → IsSequencesOf old table → HasNoSequences new → records_of subtable ≡ 0 →
    Keeps table chars origins subtable → HasKept old chars (IsFirstIndex origins) new
keeps_empty old chars origins new table subtable was lacks empty keeps = record {
  defaults = λ char selector. (
    λ h. absurd (lacks h.1.i h.1.here),
    λ h.
        let d = (keeps.defaults char selector).1 (h.0, default_on old table char selector was h.1) in
        let less = d.1.listed in
        absurd (omega (arith, less, empty)),
  );
  mapped = λ char selector number. (
    λ h. absurd (lacks h.1.i h.1.here),
    λ h.
        let d = (keeps.mapped char selector number).1 (h.0, (h.1.0, mapped_on old table char selector h.1.0 was h.1.1, h.1.2)) in
        let less = d.1.listed in
        absurd (omega (arith, less, empty)),
  );
}

-- the format of a kept subtable
pub kept_format : (table chars origins subtable : List ℕ) → Keeps table chars origins subtable →
    (number_at subtable 0 2 ≡ 14) × (2 ≤ length subtable)
kept_format table chars origins subtable keeps =
    let format = keeps.format in
    elim (cases_lt (length subtable) 2) [
      | inl short ↦ (let none = past subtable 0 2 (omega (arith, short)) in absurd (omega (arith, none, format)))
      | inr long ↦ (let is = there subtable 0 2 (omega (arith, long)) in (omega (arith, is, format), long))
    ]

-- the limit is enough
pub not_long : (cmap chars table : List ℕ) → IsSequencesOf cmap table → units_of table (length chars) ≤ most_units → IsTooLong cmap chars → ⊥
not_long cmap chars table is within long =
    let same = ap (λ xs. units_of xs (length chars)) (one_table cmap long.0 table long.1 is) in
    let more = long.2 in
    absurd (omega (arith, within, same, more))

pub none_long : (cmap chars : List ℕ) → HasNoSequences cmap → IsTooLong cmap chars → ⊥
none_long cmap chars lacks long = lacks long.1.i long.1.here

-- the table with the kept subtable
plain_only : (plain subtable cmap : List ℕ) → HasRecords plain → subtable ≡ [] → IsAdded plain subtable cmap → HasNoSequences cmap
plain_only plain subtable cmap records empty either = elim either [
  | inl same ↦ subst HasNoSequences (sym same.1) (written_none plain records)
  | inr w ↦ (let none_is = ap length empty in let some = w.0 in absurd (omega (arith, none_is, some)))
]

added_kept : (old chars origins plain subtable cmap table : List ℕ) → HasRecords plain → IsSequencesOf old table →
    Keeps table chars origins subtable → IsAdded plain subtable cmap → HasKept old chars (IsFirstIndex origins) cmap
added_kept old chars origins plain subtable cmap table records was keeps either = elim either [
  | inl same ↦ subst (HasKept old chars (IsFirstIndex origins)) (sym same.1)
      (keeps_empty old chars origins plain table subtable was (written_none plain records) (no_records subtable same.0) keeps)
  | inr w ↦
      let format = kept_format table chars origins subtable keeps in
      keeps_table old chars origins cmap table subtable was (with_sequences_of plain subtable cmap w.1 format.0 format.1) keeps
]

pub keeps_sequences : (old chars origins plain subtable cmap : List ℕ) → HasRecords plain → IsKept old chars origins subtable →
    IsAdded plain subtable cmap → KeepsSequences old chars (IsFirstIndex origins) cmap
keeps_sequences old chars origins plain subtable cmap records kept either = elim kept [
  | inl without ↦
      let none_now = plain_only plain subtable cmap records without.1 either in
      elim without.0 [
        | inl none_before ↦ record {
          kept = λ short. keeps_none old chars origins cmap none_before none_now;
          dropped = λ long. none_now;
        }
        | inr long ↦ record { kept = λ short. absurd (short long); dropped = λ also. none_now }
      ]
  | inr some ↦ record {
    kept = λ short. added_kept old chars origins plain subtable cmap some.1.0 records some.1.1 some.1.2 either;
    dropped = λ long. absurd (some.0 long);
  }
]

-- the same numbers in other words
pub with-numbers : (old chars : List ℕ) (IsOne IsOther : ℕ → ℕ → Type 0) (new : List ℕ) →
    ((glyph number : ℕ) → IsOne glyph number ↔ IsOther glyph number) → KeepsSequences old chars IsOne new → KeepsSequences old chars IsOther new
with-numbers old chars IsOne IsOther new same keeps = record {
  kept = λ short. record {
    defaults = (keeps.kept short).defaults;
    mapped = λ char selector number. (
      λ h. (let k = ((keeps.kept short).mapped char selector number).0 h in (k.0, (k.1.0, k.1.1, (same k.1.0 number).0 k.1.2))),
      λ h. ((keeps.kept short).mapped char selector number).1 (h.0, (h.1.0, h.1.1, (same h.1.0 number).1 h.1.2)),
    );
  };
  dropped = keeps.dropped;
}

-- the format of a subtable that is kept
pub format_kept : (old chars origins subtable : List ℕ) → IsKept old chars origins subtable → 21 ≤ length subtable →
    number_at subtable 0 2 ≡ 14
format_kept old chars origins subtable kept long = elim kept [
  | inl without ↦ (let none_is = ap length without.1 in absurd (omega (arith, none_is, long)))
  | inr some ↦ (kept_format some.1.0 chars origins subtable some.1.2).0
]

-- the glyphs of a table
pub glyphs_in_table : (cmap table chars : List ℕ) (glyph : ℕ) → IsSequencesOf cmap table → (IsTooLong cmap chars → ⊥) →
    IsGlyphOf table chars glyph ↔ IsSequenceGlyph cmap chars glyph
glyphs_in_table cmap table chars glyph is short = (
  λ h. (short, (h.0, h.1, h.2, (table, is, h.3))),
  λ h. (h.1.0, h.1.1, h.1.2, mapped_on cmap table h.1.0 h.1.1 glyph is h.1.3),
)

pub no_glyph : (cmap chars : List ℕ) (glyph : ℕ) → HasNoSequences cmap → IsSequenceGlyph cmap chars glyph → ⊥
no_glyph cmap chars glyph lacks h = lacks h.1.3.1.i h.1.3.1.here

-- characters that were collected
pub ascending_of : (chars : List ℕ) (pairs : List Mapping) → chars ≡ chars_of pairs → CharsRise pairs → AreAscending chars
ascending_of chars pairs same rise = subst AreAscending (sym same) (chars_ascend pairs rise)

pub glyphs_so : (cmap chars given long table found : List ℕ) → given ≡ chars → long ≡ chars → IsSequencesOf cmap table →
    (IsTooLong cmap long → ⊥) → ((glyph : ℕ) → Contains found glyph ↔ IsGlyphOf table given glyph) →
    (glyph : ℕ) → Contains found glyph ↔ IsSequenceGlyph cmap chars glyph
glyphs_so cmap chars given long table found same also is short exact glyph =
    let brief = subst (λ xs. IsTooLong cmap xs → ⊥) also short in
    let all = subst (λ xs. (g : ℕ) → Contains found g ↔ IsGlyphOf table xs g) same exact in
    let both = glyphs_in_table cmap table chars glyph is brief in (
      λ h. both.0 ((all glyph).0 h),
      λ h. (all glyph).1 (both.1 h),
    )

pub kept_so : (old chars origins given long glyphs table new : List ℕ) → given ≡ chars → long ≡ chars → glyphs ≡ origins →
    IsSequencesOf old table → (IsTooLong old long → ⊥) → Keeps table given glyphs new → IsKept old chars origins new
kept_so old chars origins given long glyphs table new same also numbers is short keeps = inr (
  subst (λ xs. IsTooLong old xs → ⊥) also short,
  (table, is, subst (λ xs. Keeps table chars xs new) numbers (subst (λ xs. Keeps table xs glyphs new) same keeps)),
)

-- a written table with an added subtable
pub like_with : (plain given subtable cmap : List ℕ) → given ≡ plain → AreClosed plain → number_at subtable 0 2 ≡ 14 →
    IsWith given subtable cmap → (IsReadable given → IsReadable cmap) →
    ((ms : List Mapping) → AreClosed given → AreTold given ms → AreTold cmap ms) → (HasFormat4 given → HasFormat4 cmap) →
    ((ms : List Mapping) → AreClosed given → number_at subtable 0 2 ≡ 14 → AreToldIn4 given ms → AreToldIn4 cmap ms) →
    (AreClosed given → number_at subtable 0 2 ≡ 14 → AllAscend given → AllAscend cmap) → IsMapLike plain cmap
like_with plain given subtable cmap same closed format w read told format4 told_in_4 ascend =
    let well : AreClosed given = subst AreClosed (sym same) closed in
    subst (λ xs. IsMapLike xs cmap) same (record {
      added = inr (subtable, format, w);
      read = read;
      told = λ ms is. told ms well is;
      told_in_4 = λ ms is. told_in_4 ms well format is;
      format4 = format4;
      ascend = λ is. ascend well format is;
    })

-- the glyphs of the sequences of kept characters
pub listed-if : (r : Result (Vec ℕ Global) Error) (choice : Choice) (face : Face) (pairs given : List Mapping) → given ≡ pairs →
    AreKeptPairs choice face.map pairs →
    IfOk r (λ glyphs. (glyph : ℕ) → Contains glyphs.items glyph ↔ IsSequenceGlyph face.cmap.now (chars_of given) glyph) →
    IfOk r (λ glyphs. AreSequenceGlyphs choice face glyphs.items)
listed-if (Ok glyphs) choice face pairs given same kept exact = (
  pairs,
  kept,
  subst (λ (ps : List Mapping). (glyph : ℕ) → Contains glyphs.items glyph ↔ IsSequenceGlyph face.cmap.now (chars_of ps) glyph) same exact,
)
listed-if (Err e) choice face pairs given same kept exact = tt
