-- A font that whole fonts are read with: what is written is one, where its items have a byte each, and encoding and char set are such.
use Rattle.std.proofs.Common.{◌≡◌, refl, sym, ap, subst, ◌∙◌, inl, inr, ℕ, pos, ◌+◌, ◌-◌, ◌<◌, false, nat_lt, ◌≤◌, List, [], ◌∷◌, length, map, Option, Some, None, arith}
use Rattle.std.specs.Option.{option_or}
use Rattle.std.specs.Prelude.{All, slice_get}
use Rattle.std.proofs.lemmas.Bool.Decides.{nat_tests}
use Rattle.std.proofs.lemmas.List.Elements.{All-cons, All-nil}
use Rattle.std.proofs.lemmas.Option.{none-some, same_Some}
use Rattle.postscript_base.specs.Compact1.Decimal.{Decimal}
use Rattle.postscript_base.specs.Compact1.Defaults.{first_of, first_two_of, look}
use Rattle.postscript_base.specs.Compact1.Dictionary.{Dictionary, dictionary_of}
use Rattle.postscript_base.specs.Compact1.DictionaryLaw.{IsDictionary}
use Rattle.postscript_base.specs.Compact1.Header.{header}
use Rattle.postscript_base.specs.Index.{IsIndex as InPlace, IsOpened, count_at, number_at, size_at}
use Rattle.postscript_base.specs.Numbers.{big_endian, number, slice}
use Rattle.postscript_base.specs.Tape.Outcome.{Got}
use Rattle.postscript_base.specs.declared.compact1.header.Header.{Header}
use Rattle.postscript_base.specs.declared.compact1.operator.Operator.TheVariants.{CharStrings}
use Rattle.postscript_base.proofs.DictionaryIs.{get_last}
use Rattle.postscript_base.proofs.ItemsAt.{length_items}
use Rattle.postscript_compact1.specs.FontSet.Font.{Font, Part, Tables, columns, font_of}
use Rattle.postscript_compact1.specs.FontSet.Layout.{IsFontBy}
use Rattle.postscript_compact1.specs.FontSet.Parts.{HasCharSet, HasEncoding, HasFirst, HasLocals, IsLacking, IsPlace, WithBoth, WithoutPrivate, WithoutSubrs}
use Rattle.postscript_compact1.specs.Index.{Index, empty}
use Rattle.postscript_compact1.specs.IndexAt.{IsIndex}
use Rattle.postscript_compact1.specs.ItemsLaw.{AreDictionaries}
use Rattle.postscript_compact1.specs.Texts.{text}
use Rattle.postscript_compact1.specs.declared.char_set.CharSet.{CharSet}
use Rattle.postscript_compact1.specs.declared.encoding.Encoding.{Encoding}
use Rattle.postscript_view.specs.Contents.{PrivateDict, View}
use Rattle.postscript_view.specs.Layout.{IsLaidOut}
use Rattle.postscript_view.specs.Layout as view
use Rattle.postscript_view.specs.Layout.AreParts.{OfFont, OfFontDictionaries}
use Rattle.postscript_write.specs.Fonts.{HasHeader, NamesNoPrivateIfKeyed, Repeats}
use Rattle.postscript_write.specs.Parts.{SameParts}
use Rattle.postscript_write.specs.Readings.{HasLenientFont}
use Rattle.postscript_write.specs.Whole.{HasNoByteBeside, TablesEnd}
use Rattle.postscript_write.proofs.Arranged.{one_first}
use Rattle.postscript_write.proofs.Heads.{same_open}
use Rattle.postscript_write.proofs.LaidOut.{header_there}
use Rattle.postscript_write.proofs.LenientSets.{offset_first}
use Rattle.postscript_write.proofs.OperationsStand.{writes_operations}
use Rattle.postscript_write.proofs.PrivatesStand.{one_dictionary}
use Rattle.postscript_write.proofs.StrictIndex.{strict_index}
use Rattle.postscript_write.proofs.TablesStand.{is_opened}

abbrev pub HaveBytes : List (List ℕ) → Type 0
HaveBytes items = All (λ item. 0 < length item) items

-- an INDEX that whole fonts are read with, of items that have a byte each; it ends where the one does that is opened there
record Strict (bytes : List ℕ) (place : ℕ) (items : List (List ℕ)) (next behind : ℕ) : Type 0 where
  index : Index
  items_are : index.items ≡ items
  is : IsIndex bytes place index next
  end : next ≡ behind

strict_as : (bytes : List ℕ) (place at next behind : ℕ) (items given : List (List ℕ)) → place ≡ at → InPlace bytes place items next →
    IsOpened bytes at given behind → HaveBytes given → Strict bytes place given next behind
strict_as bytes place at next behind items given on stands opened some =
    let same = same_open bytes place items given next behind (is_opened bytes place items next stands)
    (subst (λ p. IsOpened bytes p given behind) (sym on) opened) in
    let strict = strict_index bytes place given next (subst (λ (xs : List (List ℕ)). InPlace bytes place xs next) same.0 stands) some in
    record { index = strict.0; items_are = strict.1; is = strict.2; end = same.1 }

-- bytes that a dictionary names char strings in are some
map_some : (item : List ℕ) (m : Dictionary) (n : ℕ) → IsDictionary item 0 m → HasFirst m CharStrings (pos n) → 0 < length item
map_some (b ∷ item) m n is has = omega arith
map_some [] m n is has =
    let none : m ≡ dictionary_of [] = one_dictionary [] m (dictionary_of []) is (writes_operations.all [] [] refl) in
    let nothing : first_of (look (dictionary_of []) CharStrings) ≡ None = ap (λ x. first_of (option_or x None)) (get_last [] CharStrings) in
    let never : None ≡ Some has.0 = sym nothing ∙ sym (ap (λ m. first_of (look m CharStrings)) none) ∙ has.1 in
    absurd (cc)

-- the only one of one item
only : (items : List (List ℕ)) (item : List ℕ) → length items ≡ 1 → slice_get items 0 ≡ Some item → items ≡ item ∷ []
only [] item one there = absurd (none-some item there)
only (i ∷ []) item one there = ap (λ (x : List ℕ). x ∷ []) (same_Some i item there)
only (i ∷ j ∷ items) item one there = absurd (omega (arith, one))

one_some : (item : List ℕ) → 0 < length item → HaveBytes (item ∷ [])
one_some item some = All-cons (λ item. 0 < length item) item [] some (All-nil (λ item. 0 < length item))

-- the header
byte_got : (bytes : List ℕ) (place : ℕ) → place + 1 ≤ length bytes → number 1 bytes place ≡ Got (number_at bytes place 1) (place + 1)
unfolding number slice number_at
byte_got bytes place within =
    let enough : nat_lt (length bytes - place) 1 ≡ false = grind (arith, nat_tests) in
    rw enough refl

header_as : (bytes : List ℕ) → 4 ≤ length bytes → header bytes 0
    ≡ Got (record {
      major = number_at bytes 0 1;
      minor = number_at bytes 1 1;
      header_size = number_at bytes 2 1;
      offset_size = number_at
          bytes 3 1;
    }) 4
unfolding header
header_as bytes within =
    rw (
      byte_got bytes 0 (omega (arith, within)),
      byte_got bytes 1 (omega (arith, within)),
      byte_got bytes 2
          (omega (arith, within)),
      byte_got bytes 3 (omega (arith, within)),
    ) refl

header_got : (bytes : List ℕ) → HasHeader bytes → header bytes 0 ≡ Got (record { major = 1; minor = 0; header_size = 4; offset_size = 4 }) 4
unfolding number_at
header_got [] h = absurd (cc)
header_got (a ∷ []) h = absurd (cc)
header_got (a ∷ b ∷ []) h = absurd (cc)
header_got (a ∷ b ∷ d ∷ []) h = absurd (cc)
header_got (a ∷ b ∷ d ∷ e ∷ bytes) h =
    let first : a ≡ 1 = cc in
    let second : b ≡ 0 = cc in
    let third : d ≡ 4 = cc in
    let fourth : e ≡ 4 = cc in
    let one : ℕ → ℕ = λ n. big_endian (n ∷ []) in
    header_as (a ∷ b ∷ d ∷ e ∷ bytes) (omega arith)
    ∙ ap (λ n. Got (head n (one b) (one d) (one e)) 4) (ap one first)
    ∙ ap (λ n. Got (head 1 n (one d) (one e)) 4) (ap one second)
    ∙ ap (λ n. Got (head 1 0 n (one e)) 4) (ap one third)
    ∙ ap (λ n. Got (head 1 0 4 n) 4) (ap one fourth)
  where
    head : (major minor header_size offset_size : ℕ) → Header
    head major minor header_size offset_size = record { major = major; minor = minor; header_size = header_size; offset_size = offset_size }

-- an INDEX of no items
none_opened : (bytes : List ℕ) (place next : ℕ) → IsOpened bytes place [] next → IsIndex bytes place empty next
unfolding number_at
none_opened bytes place next (inl none) = inl ((none.within, sym none.none), refl, none.behind)
none_opened bytes place next (inr spread) =
    let some = spread.laid.some in
    let many = ap length spread.slices ∙ length_items bytes (place + 3) (size_at bytes place) (count_at bytes place) in
    absurd (omega (arith, some, many))

-- a private dictionary whose subroutines are none
locals_are : (manner : _) → ((operands : Option Decimal) → operands ≡ None → IsLacking manner operands) →
    ((operands : Option (Decimal × Decimal)) → operands ≡ None → IsLacking manner operands) →
    (bytes : List ℕ) (m local : Dictionary) (subroutines : List (List ℕ)) → view.HasLocals bytes m local subroutines →
    subroutines ≡ [] → (next : ℕ) × HasLocals manner bytes 0 m local empty next
locals_are manner one two bytes m local subroutines (view.WithBoth offset private (z, there, first, sum, stands)) none =
    let on : there ≡ 0 + there = omega arith in
    let next = stands.0 in (
      next,
      WithBoth offset private (
        z,
        there,
        first,
        sum,
        subst IsPlace on stands.1,
        subst (λ p. IsIndex bytes p empty next) on
            (none_opened bytes there next (subst (λ (xs : List (List ℕ)). IsOpened bytes there xs next) none stands.2)),
      ),
    )
locals_are manner one two bytes m local subroutines (view.WithoutSubrs offset private lacking all) none =
    (0, WithoutSubrs offset private (one _ lacking) refl)
locals_are manner one two bytes m local subroutines (view.WithoutPrivate lacking says all) none =
    (0, WithoutPrivate (two _ lacking) says refl)

no_subroutines : (old new : List PrivateDict) (part : PrivateDict) → SameParts old new → new ≡ part ∷ [] → part.subroutines ≡ []
no_subroutines [] new part same one = let many = same.many in absurd (omega (arith, many, ap length one))
no_subroutines (p ∷ old) new part same one = (same.each 0 p part refl (ap (λ (ps : List PrivateDict). slice_get ps 0) one)).no_local

abbrev map_texts : List (List ℕ) → List (List ℕ)
map_texts items = map text items

on : (n : ℕ) → n ≡ 0 + n
on n = omega arith

module _ (flat : List ℕ) (old new : View) (laid : IsLaidOut flat 0 new) (header_is : HasHeader flat) (repeats : Repeats old new)
    (whole : HasNoByteBeside flat new) (names_some : HaveBytes new.tables.names) (strings_some : HaveBytes new.tables.strings)
    (codes_some : HaveBytes new.char_strings) where
  abbrev own_map : Dictionary
  own_map = new.tables.dictionary

  abbrev t : view.AreTables flat (number_at flat 2 1) 0 new.tables
  t = laid.tables

  abbrev ends : TablesEnd flat 0 whole.0
  ends = whole.1

  names : Strict flat 4 new.tables.names ends.0 t.names_next
  names =
      let start : 4 ≡ number_at flat 2 1 = sym (header_there flat header_is).1 in
      strict_as flat 4 (number_at flat 2 1) ends.0 t.names_next ends.1.0 new.tables.names start ends.1.1 t.are_names
      names_some

  one_dictionary_there : t.dictionaries ≡ t.item ∷ []
  one_dictionary_there =
      let single = ends.2.1 in
      let opened = subst (λ p. IsOpened flat p t.dictionaries t.dictionaries_next) (sym names.end) t.are_dictionaries in
      let same = same_open flat ends.0 single.0 t.dictionaries ends.2.0 t.dictionaries_next
      (is_opened flat ends.0 single.0 ends.2.0 single.1) opened in
      only t.dictionaries t.item (ap length (sym same.0) ∙ single.2) t.there

  dictionaries : Strict flat ends.0 t.dictionaries ends.2.0 t.dictionaries_next
  dictionaries =
      let named = laid.char_strings.named in
      let some = one_some t.item (map_some t.item own_map named.0 t.is_dictionary named.1) in
      strict_as flat ends.0 t.names_next ends.2.0 t.dictionaries_next ends.2.1.0 t.dictionaries names.end
      ends.2.1.1 t.are_dictionaries (subst HaveBytes (sym one_dictionary_there) some)

  strings : Strict flat ends.2.0 new.tables.strings ends.2.2.0 t.strings_next
  strings =
      strict_as flat ends.2.0 t.dictionaries_next ends.2.2.0 t.strings_next ends.2.2.1.0 new.tables.strings dictionaries.end
      ends.2.2.1.1 t.are_strings strings_some

  subroutines : IsIndex flat ends.2.2.0 empty t.next
  subroutines =
      let none = subst (λ (xs : List (List ℕ)). IsOpened flat t.strings_next xs t.next) repeats.no_global t.are_subroutines in
      none_opened flat ends.2.2.0 t.next (subst (λ p. IsOpened flat p [] t.next) (sym strings.end) none)

  codes_named : HasFirst own_map CharStrings (pos whole.2.2.2.0)
  codes_named = offset_first own_map CharStrings whole.2.2.2.0 whole.2.2.2.2.1.0

  codes_at : whole.2.2.2.0 ≡ laid.char_strings.named.0
  codes_at = one_first own_map CharStrings whole.2.2.2.0 laid.char_strings.named.0 codes_named laid.char_strings.named.1

  codes : Strict flat whole.2.2.2.0 new.char_strings whole.2.2.2.2.0 laid.char_strings.named.2.0
  codes =
      let named = laid.char_strings.named in
      strict_as flat whole.2.2.2.0 named.0 whole.2.2.2.2.0 named.2.0 whole.2.2.2.2.1.1.0 new.char_strings codes_at
      whole.2.2.2.2.1.1.1
      named.2.2 codes_some

  codes_place : IsPlace (0 + whole.2.2.2.0)
  codes_place = let at = codes_at in subst IsPlace (omega (arith, at)) laid.char_strings.named.2.1

  locals : (manner : _) → ((operands : Option Decimal) → operands ≡ None → IsLacking manner operands) →
      ((operands : Option (Decimal × Decimal)) → operands ≡ None → IsLacking manner operands) → NamesNoPrivateIfKeyed own_map →
      (local : Dictionary) × (next : ℕ) × HasLocals manner flat 0 own_map local empty next
  locals manner one two unnamed = by laid.parts
    where
      by : view.AreParts flat own_map new.parts → (local : Dictionary) × (next : ℕ) × HasLocals manner flat 0 own_map local empty next
      by (OfFont part plain is single) =
          let has = locals_are manner one two flat own_map part.dictionary part.subroutines is.0
          (no_subroutines old.parts new.parts part repeats.parts single) in
          (part.dictionary, has.0, has.1)
      by (OfFontDictionaries items keyed named are) =
          (dictionary_of [], 0, WithoutPrivate (two _ (ap first_two_of (unnamed keyed))) refl refl)

  font_by : (manner : _) → ((operands : Option Decimal) → operands ≡ None → IsLacking manner operands) →
      ((operands : Option (Decimal × Decimal)) → operands ≡ None → IsLacking manner operands) → (encoding : Encoding) (set : CharSet) →
      HasEncoding own_map encoding → HasCharSet flat 0 (length new.char_strings) own_map set →
      NamesNoPrivateIfKeyed own_map → (font : Font) × (next : ℕ) × IsFontBy manner flat 0 font next
  font_by manner one two encoding set is_encoding is_set unnamed =
      let local = locals manner one two unnamed in
      let tables : Tables = record {
        names = map_texts names.index.items;
        dictionaries = own_map ∷ [];
        strings = strings.index;
        subroutines = empty;
      } in
      let head : Header = record { major = 1; minor = 0; header_size = 4; offset_size = 4 } in
      let part : Part = record {
        encoding = encoding;
        char_strings = codes.index;
        char_set = set;
        local_dictionary = local.0;
        local_subroutines = empty;
      } in (
        font_of head tables (columns (part ∷ [])),
        local.1,
        record {
          header_next = 4;
          tables = tables;
          behind = t.next;
          parts = part ∷ [];
          header = header_got flat header_is;
          place = omega arith;
          are_tables = record {
            names = names.index;
            names_next = ends.0;
            dictionaries = dictionaries.index;
            dictionaries_next = ends.2.0;
            strings_next = ends.2.2.0;
            are_names = names.is;
            texts = refl;
            are_items = dictionaries.is;
            are_dictionaries =
                subst (λ (xs : List (List ℕ)). AreDictionaries xs (own_map ∷ [])) (sym (dictionaries.items_are ∙ one_dictionary_there))
                (t.is_dictionary, tt);
            are_strings = strings.is;
            are_subroutines = subroutines;
          };
          are_parts = (
            local.1,
            record {
              char_strings_next = whole.2.2.2.2.0;
              encoding = is_encoding;
              char_strings = (
                whole.2.2.2.0,
                codes_named,
                laid.char_strings.type,
                codes_place,
                subst
                    (λ p. IsIndex flat p codes.index whole.2.2.2.2.0) (on whole.2.2.2.0) codes.is,
              );
              char_set = subst (λ n. HasCharSet flat 0 n own_map set) (sym (ap length codes.items_are)) is_set;
              locals = local.2;
            },
            refl,
          );
          made_of = refl;
        },
      )

  pub lenient_new : (encoding : Encoding) (set : CharSet) → HasEncoding own_map encoding →
      HasCharSet flat 0 (length new.char_strings) own_map set → NamesNoPrivateIfKeyed own_map → HasLenientFont flat
  lenient_new encoding set is_encoding is_set unnamed =
      let font = font_by _ (λ operands none. (refl, none)) (λ operands none. (refl, none)) encoding set is_encoding is_set unnamed in
      (font.0, (font.1, font.2))
