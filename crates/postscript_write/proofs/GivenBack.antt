-- What is written of glyphs besides their codes is what was to be written.
use Rattle.std.proofs.Common.{◌≡◌, sym, ap, subst, ◌∙◌, ℕ, ◌+◌, ◌<◌, ◌^◌, List, [], append-nil, length, get_or, Option, Some, None, Bool, true, false, Vec, arith}
use Rattle.std.specs.Option.{is_some}
use Rattle.std.specs.declared.alloc.Global.{Global}
use Rattle.std.proofs.lemmas.List.{length-map}
use Rattle.postscript_base.specs.Compact1.Dictionary.{Dictionary}
use Rattle.postscript_base.specs.Index.Lent.{items_of}
use Rattle.postscript_view.specs.Contents.{View}
use Rattle.postscript_view.specs.Value.{part_shown, view_shown}
use Rattle.postscript_view.specs.declared.char_set.CharSetView.{CharSetView}
use Rattle.postscript_view.specs.declared.font.FontView.{FontView}
use Rattle.postscript_write.specs.Given.{AreGiven, GivesCharSet, GivesEncoding, GivesSelect}
use Rattle.postscript_write.specs.GivenNumbers.{AreTheirNumbers, GivesNumbers, GivesWayTo, StaysEncoded}
use Rattle.postscript_write.specs.Glyphs.{AreNumbersOf, ShowsPartFor, Sources}
use Rattle.postscript_write.specs.Identified.{AreSourcesFor, Identifiers}
use Rattle.postscript_write.specs.ReadBack.{HasCodes, HasOtherCodes, HasSameCodes}
use Rattle.postscript_view.specs.declared.encoding.EncodingView.{EncodingView}
use Rattle.postscript_write.specs.Numbered.{AreGlyphsFor, IsCharSetFor, IsEncodingFor, IsSelectFor, IsSetFor, items_if}
use Rattle.postscript_write.specs.Own.{IsOwnCharSet, IsOwnEncoding}
use Rattle.postscript_write.specs.Renumbered.{new_identifier, new_identifiers}
use Rattle.postscript_write.specs.Selected.{AreLow}
use Rattle.postscript_write.specs.Texts.{TextStands}
use Rattle.postscript_write.specs.Whole.{CharSetEnds, EncodingEnds, SelectEnds}
use Rattle.postscript_write.specs.declared.layout.Glyphs.{Glyphs}
use Rattle.postscript_write.specs.declared.strings.Strings.{Strings}
use Rattle.postscript_write.proofs.TextsCut.{char_set_cut, cut_length, cut_stands, encoding_cut}

-- a text stands in itself
alone : (text : List ℕ) → TextStands text text 0
alone text = record { within = omega arith; behind = []; there = sym (append-nil text) }

-- the encoding of the font's own
stays_encoded : (bytes : List ℕ) (map : Dictionary) (encoding : Option (Vec ℕ Global)) (standard : Bool) →
    IsOwnEncoding bytes map (items_if encoding) → standard ≡ false → StaysEncoded bytes map encoding standard
stays_encoded bytes map None true own unnamed = absurd (cc)
stays_encoded bytes map None false own unnamed = own
stays_encoded bytes map (Some text) true own unnamed = absurd (cc)
stays_encoded bytes map (Some text) false (place, next, e, high, ends, cut) unnamed =
    let long : next ≡ place + length text.items = sym (cut_length bytes place next cut.order cut.within)
    ∙ ap (λ xs. place + length xs) (sym cut.is) in
    record {
      place = place;
      named = e;
      past = high;
      stands = subst (λ xs. TextStands xs bytes place) (sym cut.is) (cut_stands bytes place next cut.order cut.within);
      ends = subst (λ n. EncodingEnds bytes place n) long ends;
    }

gives_stay : (bytes : List ℕ) (map : Dictionary) (encoding : Option (Vec ℕ Global)) (standard : Bool) →
    StaysEncoded bytes map encoding standard → GivesEncoding map encoding standard
gives_stay bytes map None true stays = absurd stays
gives_stay bytes map None false stays = stays
gives_stay bytes map (Some text) true stays = absurd stays
gives_stay bytes map (Some text) false stays = encoding_cut text.items bytes stays.place stays.stands stays.ends

-- or the one that takes its place
gives_way : (bytes : List ℕ) (map : Dictionary) (encoding : Option (Vec ℕ Global)) (standard : Bool) (own : Option (List ℕ)) →
    encoding ≡ None → IsOwnEncoding bytes map own → standard ≡ is_some own → GivesWayTo map encoding standard
gives_way bytes map (Some text) standard own none owns named = absurd (cc)
gives_way bytes map None true None none owns named = absurd (cc)
gives_way bytes map None true (Some own) none (place, next, e, high, ends, cut) named = (place, e, high)
gives_way bytes map None false None none owns named = owns
gives_way bytes map None false (Some own) none owns named = absurd (cc)

gives_other : (map : Dictionary) (encoding : Option (Vec ℕ Global)) (standard : Bool) → GivesWayTo map encoding standard →
    GivesEncoding map encoding standard
gives_other map (Some text) standard way = absurd way
gives_other map None true way = tt
gives_other map None false way = way

-- the char set
gives_set : (bytes : List ℕ) (map : Dictionary) (glyphs : ℕ) (char_set : Option (Vec ℕ Global)) →
    IsOwnCharSet bytes map glyphs (items_if char_set) → GivesCharSet map glyphs char_set
gives_set bytes map glyphs None own = own
gives_set bytes map glyphs (Some text) (place, next, e, high, ends, cut) =
    let front : TextStands text.items bytes place = subst (λ xs. TextStands xs bytes place) (sym cut.is)
    (cut_stands bytes place next cut.order cut.within) in
    let long : next ≡ place + length text.items = sym (cut_length bytes place next cut.order cut.within)
    ∙ ap (λ xs. place + length xs) (sym cut.is) in
    char_set_cut text.items bytes place glyphs front (subst (λ n. CharSetEnds bytes glyphs place n) long ends)

gives_list : (strings : Strings) (identifiers : List ℕ) (map : Dictionary) (glyphs : ℕ) (char_set : Option (Vec ℕ Global)) →
    IsSetFor strings identifiers (items_if char_set) → glyphs ≡ 1 + length identifiers → GivesCharSet map glyphs char_set
gives_list strings identifiers map glyphs None is many = absurd (let e = is.1 in cc)
gives_list strings identifiers map glyphs (Some text) is many =
    let same : is.0 ≡ text.items = (let e = is.1 in cc) in
    let count = length-map identifiers (new_identifier strings) in
    subst (λ n. CharSetEnds text.items n 0 (length text.items)) (omega (arith, many, count))
    (subst (λ xs. CharSetEnds xs (1 + length (new_identifiers strings identifiers)) 0 (length xs)) same is.2.ends)

gives_select : (numbers : List ℕ) (select : Option (Vec ℕ Global)) → AreLow numbers → length numbers < 2 ^ 16 →
    IsSelectFor numbers select → GivesSelect (length numbers) select
gives_select numbers None low few own = tt
gives_select numbers (Some text) low few own =
    let long : 0 + length text.items ≡ length text.items = omega arith in
    subst (λ n. SelectEnds text.items (length numbers) 0 n) long ((own.selects low few).ends text.items 0 (alone text.items))

gives_numbers : (numbers : List ℕ) (select : Option (Vec ℕ Global)) → AreLow numbers → length numbers < 2 ^ 16 →
    IsSelectFor numbers select → GivesNumbers numbers select
gives_numbers numbers None low few own = tt
gives_numbers numbers (Some text) low few own = (own.selects low few).gives

-- the number of a part, of so many
below : (bytes : List ℕ) (font : View) (source : Option ℕ) (number : ℕ) → ShowsPartFor bytes font source number → 0 < length font.parts →
    number < length font.parts
below bytes font None number is some = omega (arith, is, some)
below bytes font (Some glyph) number has some = has.there

module _ (font : FontView) (glyphs : Glyphs) (numbers : List ℕ) (kept : Bool) (set : CharSetView) (sources : Sources) where
  -- what the first glyph is made of has a part
  some_parts : (identifiers : Option (Vec ℕ Global)) → AreSourcesFor kept set (length (items_of font.char_strings)) sources identifiers →
      AreNumbersOf font.bytes.now (view_shown font) sources numbers → 0 < length sources →
      0 < length (view_shown font).parts
  some_parts identifiers of are some = by (first kept identifiers of)
    where
      first : (kept : Bool) (identifiers : Option (Vec ℕ Global)) →
          AreSourcesFor kept set (length (items_of font.char_strings)) sources identifiers →
          (glyph : ℕ) × (get_or sources 0 None ≡ Some glyph)
      first true None keep = (0, keep.first some)
      first true (Some identifiers) never = absurd never
      first false None never = absurd never
      first false (Some identifiers) of = let one = of.first in (one.0, one.1)

      by : (glyph : ℕ) × (get_or sources 0 None ≡ Some glyph) → 0 < length (view_shown font).parts
      by one =
          let has = subst (λ s. ShowsPartFor font.bytes.now (view_shown font) s (get_or numbers 0 0)) one.1 (are.each 0 some) in
          let there = has.there in
          omega (arith, there)

  pub their_numbers : (identifiers : Option (Vec ℕ Global)) (many : ℕ) →
      AreSourcesFor kept set (length (items_of font.char_strings)) sources identifiers →
      AreNumbersOf font.bytes.now (view_shown font) sources numbers → many ≡ length sources → AreLow numbers → length numbers < 2 ^ 16 →
      IsSelectFor numbers glyphs.select → AreTheirNumbers font glyphs many numbers
  their_numbers identifiers many of are same low few select = record {
    counted = are.many ∙ sym same;
    below = λ i less.
        let as_many = are.many in
        let within : i < length sources = omega (arith, less, as_many) in
        let own = below font.bytes.now (view_shown font) (get_or sources i None) (get_or numbers i 0) (are.each i within)
        (some_parts identifiers of are (omega (arith, within))) in
        omega (arith, own, length-map font.parts.items part_shown);
    gives = gives_numbers numbers glyphs.select low few select;
  }

  pub given : (identifiers : Option (Vec ℕ Global)) → AreSourcesFor kept set (length (items_of font.char_strings)) sources identifiers →
      length numbers ≡ length sources → AreLow numbers → length numbers < 2 ^ 16 → AreGlyphsFor font numbers identifiers glyphs →
      AreGiven font glyphs (length numbers)
  given identifiers of same low few are = record {
    encoding = encoded identifiers are.encoding;
    select = gives_select numbers glyphs.select low few are.select;
    char_set = named kept identifiers of are.char_set;
  }
    where
      encoded : (identifiers : Option (Vec ℕ Global)) → IsEncodingFor font identifiers glyphs →
          GivesEncoding font.dictionary glyphs.encoding glyphs.standard
      encoded None own =
          gives_stay font.bytes.now font.dictionary glyphs.encoding glyphs.standard
          (stays_encoded font.bytes.now font.dictionary glyphs.encoding glyphs.standard own.0 own.1)
      encoded (Some identifiers) own =
          gives_other font.dictionary glyphs.encoding glyphs.standard
          (gives_way font.bytes.now font.dictionary glyphs.encoding glyphs.standard own.1.0 own.0 own.1.1 own.1.2)

      named : (kept : Bool) (identifiers : Option (Vec ℕ Global)) →
          AreSourcesFor kept set (length (items_of font.char_strings)) sources identifiers → IsCharSetFor font identifiers glyphs →
          GivesCharSet font.dictionary (length numbers) glyphs.char_set
      named true None keep own =
          subst (λ n. GivesCharSet font.dictionary n glyphs.char_set) (sym (same ∙ keep.many))
          (gives_set font.bytes.now font.dictionary (length (items_of font.char_strings)) glyphs.char_set own)
      named true (Some identifiers) never own = absurd never
      named false None never own = absurd never
      named false (Some identifiers) of own =
          gives_list glyphs.strings identifiers.items font.dictionary (length numbers) glyphs.char_set own (same ∙ of.many)

-- where glyphs keep their numbers the encoding stays, and else it gives way
stays_for : (font : FontView) (glyphs : Glyphs) → IsEncodingFor font None glyphs →
    StaysEncoded font.bytes.now font.dictionary glyphs.encoding glyphs.standard
stays_for font glyphs own = stays_encoded font.bytes.now font.dictionary glyphs.encoding glyphs.standard own.0 own.1

way_for : (font : FontView) (glyphs : Glyphs) (identifiers : Vec ℕ Global) → IsEncodingFor font (Some identifiers) glyphs →
    GivesWayTo font.dictionary glyphs.encoding glyphs.standard
way_for font glyphs identifiers own = gives_way font.bytes.now font.dictionary glyphs.encoding glyphs.standard own.1.0 own.0 own.1.1 own.1.2

pub codes_back : (font : FontView) (glyphs : Glyphs) (kept : Bool) (set : CharSetView) (many : ℕ) (sources : Sources)
    (identifiers : Identifiers) (encoding : EncodingView) (flat : List ℕ) (map : Dictionary) →
    AreSourcesFor kept set many sources identifiers → IsEncodingFor font identifiers
    glyphs → (StaysEncoded font.bytes.now font.dictionary glyphs.encoding glyphs.standard → HasSameCodes encoding flat map) →
    (GivesWayTo font.dictionary glyphs.encoding glyphs.standard → HasOtherCodes encoding flat map) → HasCodes kept encoding flat map
codes_back font glyphs true set many sources None encoding flat map of own same other = same (stays_for font glyphs own)
codes_back font glyphs true set many sources (Some identifiers) encoding flat map of own same other = absurd of
codes_back font glyphs false set many sources None encoding flat map of own same other = absurd of
codes_back font glyphs false set many sources (Some identifiers) encoding flat map of own same other =
    other (way_for font glyphs identifiers own)
