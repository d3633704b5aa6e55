-- What is written has the numbers of font dictionaries, and its encoding stays.
use Rattle.std.proofs.Common.{◌≡◌, ◌≢◌, refl, sym, ap, subst, ◌∙◌, inl, inr, ℕ, ◌<◌, ◌≤◌, ◌⊎◌, ◌++◌, List, [], length, get_or, Option, Some, None, Bool, true, false, Vec, arith}
use Rattle.std.specs.Option.{option_or}
use Rattle.std.specs.Prelude.{All, IsSome}
use Rattle.std.specs.declared.alloc.Global.{Global}
use Rattle.std.proofs.lemmas.Bool.{cases_lt}
use Rattle.std.proofs.lemmas.List.{length-map}
use Rattle.postscript_base.specs.Compact1.Decimal.{Decimal}
use Rattle.postscript_base.specs.Compact1.Defaults.{look}
use Rattle.postscript_base.specs.Compact1.Dictionary.{Dictionary}
use Rattle.postscript_base.specs.declared.compact1.operator.Operator.TheVariants.{Encoding, FDSelect}
use Rattle.postscript_view.specs.Cids.{IsCidKeyed}
use Rattle.postscript_view.specs.Contents.{PrivateDict, View}
use Rattle.postscript_view.specs.declared.encoding.Codes.{Codes}
use Rattle.postscript_view.specs.declared.encoding.Codes.TheVariants.{Predefined, Listed, Ranges}
use Rattle.postscript_compact1.specs.declared.encoding.Encoding.{Encoding as Kind}
use Rattle.postscript_compact1.specs.declared.encoding.Encoding.TheVariants.{Standard, Expert}
use Rattle.postscript_view.specs.Encodings.{AreCodesAt, IsEncodingOf, IsEncodingAtOffset, EncodingStandsAt}
use Rattle.postscript_view.specs.Layout.{AreParts, IsLaidOut}
use Rattle.postscript_view.specs.Layout.AreParts.{OfFont, OfFontDictionaries}
use Rattle.postscript_view.specs.Select.{IsSelected, offset_of}
use Rattle.postscript_view.specs.Value.{part_shown, view_shown}
use Rattle.postscript_view.specs.declared.encoding.EncodingView.{EncodingView}
use Rattle.postscript_view.specs.declared.font.FontView.{FontView}
use Rattle.postscript_write.specs.Pieces.{piece_if, place_of, standard_place, text_of}
use Rattle.postscript_write.specs.Dictionaries.{IsHeld}
use Rattle.postscript_write.specs.Given.{AreGiven}
use Rattle.postscript_write.specs.GivenNumbers.{AreTheirNumbers, GivesNumbers, GivesWayTo, StaysEncoded}
use Rattle.postscript_write.specs.Glyphs.{ShowsPart}
use Rattle.postscript_write.specs.LaidOut.{IsLaidOutOf, SelectsExactly}
use Rattle.postscript_write.specs.Naming.{SameCodes, codes_for}
use Rattle.postscript_write.specs.ReadBack.{HasOtherCodes, HasSameCodes, IsAsWritten}
use Rattle.postscript_write.specs.Room.{IsRead}
use Rattle.postscript_write.specs.Texts.{TextStands}
use Rattle.postscript_write.specs.Written.{IsPutTogether}
use Rattle.postscript_write.specs.declared.layout.Glyphs.{Glyphs}
use Rattle.postscript_write.proofs.Endings.{one_some}
use Rattle.postscript_write.proofs.LaidOut.{keyed_is, laid_out}
use Rattle.postscript_write.proofs.NamedEnds.{offset_is, own_look, place_held, same_offset}
use Rattle.postscript_write.proofs.NoByteBeside.{dictionary_is, encoding_look, none_beside_view}
use Rattle.postscript_write.proofs.OneEncoding.{one_encoding, standing_kept}
use Rattle.postscript_write.proofs.PlacesNamed.{named_by}
use Rattle.postscript_write.proofs.Put.{each_held, named, place, select_named, some_tables, stand, tables_stand}
use Rattle.postscript_write.proofs.TablesStand.{TablesStand}
use Rattle.postscript_write.proofs.ReadAgain.{one_view}

-- FDSelect gives a glyph its number where the dictionary names it
selected : (new : Dictionary) (out : List ℕ) (select : Option (Vec ℕ Global)) (numbers : List ℕ) (place i : ℕ)
    (other : Option (List Decimal)) →
    look new FDSelect ≡ option_or (named_by (place_of (piece_if FDSelect select) place) FDSelect) other → All IsHeld (place_of (piece_if FDSelect select) place) →
    TextStands (text_of select) out place → GivesNumbers numbers select → i < length numbers → IsSome select → IsSelected out new
    (length numbers) i (get_or numbers i 0)
selected new out None numbers place i other is held stands gives less some = absurd (cc)
selected new out (Some text) numbers place i other is held stands gives less some =
    (place, offset_is new FDSelect place (place_held FDSelect place held) is, gives out place i stands less)

one_part : (out : List ℕ) (map : Dictionary) (parts : List PrivateDict) → AreParts out map parts → (length parts ≡ 1) ⊎ IsCidKeyed map
one_part out map parts (OfFont part none is one) = inl (ap length one)
one_part out map parts (OfFontDictionaries items keyed names are) = inr keyed

-- an encoding of the font's own stands where the font says
own_stands : (encoding : EncodingView) (bytes : List ℕ) (place : ℕ) → 2 ≤ place → IsEncodingAtOffset encoding bytes place →
    EncodingStandsAt encoding bytes place
own_stands encoding bytes place past (inl (is, codes, none)) = absurd (omega (arith, past, is))
own_stands encoding bytes place past (inr (inl (is, codes, none))) = absurd (omega (arith, past, is))
own_stands encoding bytes place past (inr (inr (most, stands))) = stands

-- a predefined one is named in any bytes
predefined_kept : (encoding : EncodingView) (bytes out : List ℕ) (place : ℕ) → place < 2 → IsEncodingAtOffset encoding bytes place →
    IsEncodingAtOffset encoding out place
predefined_kept encoding bytes out place low (inl x) = inl x
predefined_kept encoding bytes out place low (inr (inl x)) = inr (inl x)
predefined_kept encoding bytes out place low (inr (inr (most, stands))) = absurd (omega (arith, low, most))

encoding_kept : (old new : Dictionary) (bytes out : List ℕ) (text : Option (Vec ℕ Global)) (standard : Bool) (start : ℕ)
    (encoding : EncodingView) →
    look new Encoding ≡ option_or (named_by (standard_place standard ++ place_of (piece_if Encoding text) start) Encoding)
    (look old Encoding) → All IsHeld (place_of (piece_if Encoding text) start) →
    2 ≤ start → TextStands (text_of text) out start → StaysEncoded bytes old text standard → IsEncodingOf encoding bytes old → IsEncodingOf
    encoding out new
encoding_kept old new bytes out (Some text) true start encoding is held past stands stays was = absurd stays
encoding_kept old new bytes out None true start encoding is held past stands stays was = absurd stays
encoding_kept old new bytes out (Some text) false start encoding is held past stands stays was =
    let named = subst (λ n. IsEncodingAtOffset encoding bytes n) (one_some was.1 stays.named) was.2 in
    let kept = standing_kept text.items bytes out stays.place start stays.stands stands encoding stays.ends
    (own_stands encoding bytes stays.place stays.past named) in
    (start, offset_is new Encoding start (place_held Encoding start held) is, inr (inr (past, kept)))
encoding_kept old new bytes out None false start encoding is held past stands stays was =
    let same = one_some was.1 stays.1 in
    let low : was.0 < 2 = subst (λ n. n < 2) (sym same) stays.2 in
    (was.0, same_offset old new Encoding is ∙ was.1, predefined_kept encoding bytes out was.0 low was.2)

-- an encoding that is not predefined gives way to the standard one
gives_way : (codes : Codes) (bytes : List ℕ) (place next : ℕ) → AreCodesAt codes bytes place next → codes_for codes ≡ Predefined Standard
gives_way (Predefined encoding) bytes place next is = absurd is
gives_way (Listed codes) bytes place next is = refl
gives_way (Ranges ranges) bytes place next is = refl

-- the one that takes the place of another one
record IsOther (encoding : EncodingView) (out : List ℕ) (map : Dictionary) : Type 0 where
  other : EncodingView
  kind : Kind
  is : IsEncodingOf other out map
  named : other.codes ≡ Predefined kind
  codes : codes_for encoding.codes ≡ Predefined kind

predefined_stays : (encoding : EncodingView) (bytes out : List ℕ) (place : ℕ) (map : Dictionary) → place < 2 →
    offset_of map Encoding ≡ Some place → IsEncodingAtOffset encoding bytes place → IsOther encoding out map
predefined_stays encoding bytes out place map low named (inl (is, codes, none)) =
    record { other = encoding; kind = Standard; is = (place, named, inl (is, codes, none)); named = codes; codes = ap codes_for codes }
predefined_stays encoding bytes out place map low named (inr (inl (is, codes, none))) =
    record { other = encoding; kind = Expert; is = (place, named, inr (inl (is, codes, none))); named = codes; codes = ap codes_for codes }
predefined_stays encoding bytes out place map low named (inr (inr (most, stands))) = absurd (omega (arith, low, most))

encoding_other : (old new : Dictionary) (bytes out : List ℕ) (text : Option (Vec ℕ Global)) (standard : Bool) (start : ℕ)
    (encoding : EncodingView) →
    look new Encoding ≡ option_or (named_by (standard_place standard ++ place_of (piece_if Encoding text) start) Encoding) (look old Encoding) →
    GivesWayTo old text standard → IsEncodingOf encoding bytes old → IsOther encoding out new
encoding_other old new bytes out (Some text) standard start encoding is gives was = absurd gives
encoding_other old new bytes out None true start encoding is gives was =
    let named = subst (λ n. IsEncodingAtOffset encoding bytes n) (one_some was.1 gives.1) was.2 in
    let stands = own_stands encoding bytes gives.0 gives.2 named in
    record {
      other = record { codes = Predefined Standard; supplements = record { ref_ptr = encoding.supplements.ref_ptr; now = [] } };
      kind = Standard;
      is = (0, offset_is new Encoding 0 (omega arith) is, inl (refl, refl, refl));
      named = refl;
      codes = gives_way encoding.codes bytes gives.0 stands.0 stands.2;
    }
encoding_other old new bytes out None false start encoding is gives was =
    let same = one_some was.1 gives.1 in
    predefined_stays encoding bytes out was.0 new (subst (λ n. n < 2) (sym same) gives.2) (same_offset old new Encoding is ∙ was.1) was.2

same_kind : (kind : Kind) (codes : Codes) → SameCodes (Predefined kind) codes → codes ≡ Predefined kind
same_kind kind (Predefined encoding) same = ap (λ e. Predefined e) same
same_kind kind (Listed codes) same = absurd same
same_kind kind (Ranges ranges) same = absurd same

module _ {font : FontView} {glyphs : Glyphs} {codes : List (List ℕ)} {out : List ℕ} (w : IsPutTogether font glyphs codes out)
    (t : TablesStand font glyphs (named w) out) where
  -- FDSelect gives each glyph its number
  pub selected_there : (view : View) → IsLaidOut out 0 view → view.char_strings ≡ codes → (numbers : List ℕ) → length numbers ≡ length codes →
      GivesNumbers numbers glyphs.select → (i : ℕ) → i < length numbers → IsSome glyphs.select →
      IsSelected out view.tables.dictionary (length view.char_strings) i (get_or numbers i 0)
  selected_there view laid are numbers many gives i less some =
      let is = own_look (named w) t.named t.new FDSelect t.placed (select_named w) in
      let found = selected t.new out glyphs.select numbers (place w FDSelect) i (look t.named FDSelect) is (each_held w).1.0 (stand w).1.0
      gives less some in
      subst (λ m. IsSelected out m (length view.char_strings) i (get_or numbers i 0)) (dictionary_is w t view laid)
      (subst (λ k. IsSelected out t.new k i (get_or numbers i 0)) (many ∙ ap length (sym are)) found)

  -- only in a CID-keyed font
  pub select_there : (view : View) → IsLaidOut out 0 view → SelectsExactly font glyphs → IsCidKeyed view.tables.dictionary → IsSome glyphs.select
  select_there view laid exactly keyed = (keyed_is w t exactly).1 (subst IsCidKeyed (sym (dictionary_is w t view laid)) keyed)

  -- each glyph has the part of its number
  pub numbers_there : (view : View) → IsLaidOut out 0 view → view.char_strings ≡ codes → SelectsExactly font glyphs → (numbers : List ℕ) →
      length numbers ≡ length codes →
      ((i : ℕ) → i < length numbers → get_or numbers i 0 < length view.parts) → GivesNumbers numbers glyphs.select → (i : ℕ) → i < length
      numbers → ShowsPart out view i (get_or numbers i 0)
  numbers_there view laid are exactly numbers many below gives i less =
      record { there = below i less; selected = by (cases_lt (length view.parts) 2) }
    where
      n : ℕ
      n = get_or numbers i 0

      by : (length view.parts < 2) ⊎ (2 ≤ length view.parts) →
          ((length view.parts ≡ 1) × (n ≡ 0)) ⊎ ((length view.parts ≢ 1) × IsSelected out view.tables.dictionary
          (length view.char_strings) i n)
      by (inl few) = let first = below i less in inl (omega (arith, few, first), omega (arith, few, first))
      by (inr several) = elim (one_part out view.tables.dictionary view.parts laid.parts) [
        | inl one ↦ absurd (omega (arith, several, one))
        | inr keyed ↦ inr (
          λ one. absurd (omega (arith, several, one)),
          selected_there view laid are numbers many gives i less (select_there view laid exactly keyed),
        )
      ]

  -- an encoding that stays is read as it was
  pub codes_there : (view : View) → IsLaidOut out 0 view → (encoding : EncodingView) →
      IsEncodingOf encoding font.bytes.now font.dictionary →
      StaysEncoded font.bytes.now font.dictionary glyphs.encoding glyphs.standard → HasSameCodes encoding out view.tables.dictionary
  codes_there view laid encoding was stays =
      let start = some_tables w in
      let kept = encoding_kept font.dictionary t.new font.bytes.now out glyphs.encoding glyphs.standard w.put.start encoding
      (encoding_look w t) (each_held w).0 (omega (arith, start)) (stand w).0 stays was in
      let is = subst (λ m. IsEncodingOf encoding out m) (dictionary_is w t view laid) kept in
      record { encoding = encoding; is = is; same = λ other there. one_encoding out view.tables.dictionary encoding other is there }

  -- and one that gives way is read as the one that takes its place
  pub other_codes_there : (view : View) → IsLaidOut out 0 view → (encoding : EncodingView) →
      IsEncodingOf encoding font.bytes.now font.dictionary →
      GivesWayTo font.dictionary glyphs.encoding glyphs.standard → HasOtherCodes encoding out view.tables.dictionary
  other_codes_there view laid encoding was gives =
      let o = encoding_other font.dictionary t.new font.bytes.now out glyphs.encoding glyphs.standard w.put.start encoding (encoding_look w t)
      gives was in
      let is = subst (λ m. IsEncodingOf o.other out m) (dictionary_is w t view laid) o.is in
      record {
        encoding = o.other;
        is = is;
        same = λ found there.
            let same = one_encoding out view.tables.dictionary o.other found is there in
            same_kind o.kind found.codes (subst (λ d. SameCodes d found.codes) o.named same.codes) ∙ sym o.codes;
      }

-- what is written is as it was to be written
pub as_written : (font : FontView) (glyphs : Glyphs) (codes : List (List ℕ)) (out : List ℕ) (w : IsPutTogether font glyphs codes out)
    (read : IsRead font) (exactly : SelectsExactly font glyphs) → AreGiven font glyphs (length codes) →
    (numbers : List ℕ) → AreTheirNumbers font glyphs
    (length codes) numbers → (view : View) → IsLaidOut out 0 view → IsAsWritten numbers codes (view_shown font) out view
as_written font glyphs codes out w read exactly given numbers their view laid =
    subst (IsAsWritten numbers codes (view_shown font) out)
    (sym (one_view out own.view view own.laid laid)) (record {
      header = t.header;
      repeats = own.repeats;
      char_strings = own.char_strings;
      parts = numbers_there w t own.view own.laid own.char_strings exactly numbers their.counted
          (λ i less. let few = their.below i less in omega (arith, few, own.repeats.parts.many, length-map font.parts.items part_shown))
          their.gives;
      selected = λ keyed i less. selected_there w t own.view own.laid own.char_strings numbers their.counted their.gives i less
          (select_there w t own.view own.laid exactly keyed);
      whole = none_beside_view w t own.view own.laid own.char_strings read exactly given;
    })
  where
    own : IsLaidOutOf font glyphs codes out
    own = laid_out font glyphs codes out w read exactly

    t : TablesStand font glyphs (named w) out
    t = tables_stand w read.laid.tables
