-- How many items of a font there are, at most: their counts have two bytes, and the number of a font dictionary has one.
use Rattle.std.proofs.Common.{◌≡◌, ◌∙◌, ap, ℕ, ◌+◌, ◌*◌, ◌^◌, ◌≤◌, ◌<◌, List, length, take, get_or, inl, inr, Option, Some, None, arith}
use Rattle.std.proofs.Math.ListN.{drop_of_length-le}
use Rattle.std.proofs.lemmas.Bool.{cases_lt}
use Rattle.std.proofs.lemmas.List.{length-map}
use Rattle.postscript_base.specs.Compact1.Dictionary.{Dictionary}
use Rattle.postscript_base.specs.Index.{IsOpened, count_at, number_at, size_at}
use Rattle.postscript_base.specs.Index.Lent.{items_of}
use Rattle.postscript_base.specs.Numbers.{big_endian}
use Rattle.postscript_base.proofs.ItemsAt.{length_items}
use Rattle.postscript_base.proofs.NumbersAt.{of_one, of_two}
use Rattle.postscript_view.specs.Contents.{PrivateDict, View}
use Rattle.postscript_view.specs.Layout.{AreParts}
use Rattle.postscript_view.specs.Layout.AreParts.{OfFont, OfFontDictionaries}
use Rattle.postscript_view.specs.Select.{Selects}
use Rattle.postscript_view.specs.Value.{part_shown, parts_shown}
use Rattle.postscript_view.specs.declared.font.FontView.{FontView}
use Rattle.postscript_write.specs.Glyphs.{AreNumbersOf, ShowsPart, ShowsPartFor, Sources}
use Rattle.postscript_write.specs.Room.{IsRead}
use Rattle.postscript_write.specs.Selected.{AreLow}
use Rattle.postscript_write.proofs.Arranged.{all_dictionaries}

none_is : (bytes : List ℕ) (place : ℕ) → length bytes ≤ place → number_at bytes place 1 ≡ 0
unfolding number_at
none_is bytes place past = ap (λ xs. big_endian (take 1 xs)) (drop_of_length-le bytes past)

one_low : (bytes : List ℕ) (place : ℕ) → AreLow bytes → number_at bytes place 1 < 256
one_low bytes place low = elim (cases_lt place (length bytes)) [
  | inl less ↦ (let small = low place less in omega (arith, of_one bytes place (omega (arith, less)), small))
  | inr past ↦ omega (arith, none_is bytes place past)
]

two_low : (bytes : List ℕ) (place : ℕ) → AreLow bytes → place + 2 ≤ length bytes → number_at bytes place 2 < 2 ^ 16
two_low bytes place low within =
    let high = low place (omega (arith, within)) in
    let next = low (place + 1) (omega (arith, within)) in
    omega (arith, of_two bytes place within, high, next)

-- an INDEX counts its items in two bytes
opened_few : (bytes : List ℕ) (place next : ℕ) (items : List (List ℕ)) → AreLow bytes → IsOpened bytes place items next →
    length items < 2 ^ 16
opened_few bytes place next items low (inl empty) = omega (arith, ap length empty.no_items)
opened_few bytes place next items low (inr spread) =
    let offsets = spread.laid.offsets in
    let many = ap length spread.slices ∙ length_items bytes (place + 3) (size_at bytes place) (count_at bytes place) in
    omega (arith, many, two_low bytes place low (omega (arith, offsets)))

pub names_few : (font : FontView) → IsRead font → AreLow font.bytes.now → length (items_of font.names) < 2 ^ 16
names_few font read low = opened_few font.bytes.now _ read.laid.tables.names_next (items_of font.names) low read.laid.tables.are_names

pub strings_few : (font : FontView) → IsRead font → AreLow font.bytes.now → length (items_of font.strings) < 2 ^ 16
strings_few font read low =
    opened_few font.bytes.now _ read.laid.tables.strings_next (items_of font.strings) low read.laid.tables.are_strings

pub glyphs_few : (font : FontView) → IsRead font → AreLow font.bytes.now → length (items_of font.char_strings) < 2 ^ 16
glyphs_few font read low =
    let named = read.laid.char_strings.named in
    opened_few font.bytes.now named.0 named.2.0 (items_of font.char_strings) low named.2.2

some_parts : (bytes : List ℕ) (map : Dictionary) (parts : List PrivateDict) → AreLow bytes → AreParts bytes map parts →
    length parts < 2 ^ 16
some_parts bytes map parts low (OfFont part plain is one) = omega (arith, ap length one)
some_parts bytes map parts low (OfFontDictionaries items keyed named are) =
    let few = opened_few bytes named.0 named.2.0 items low named.2.2 in
    omega (arith, few, (all_dictionaries bytes items parts are).1)

pub parts_few : (font : FontView) → IsRead font → AreLow font.bytes.now → length font.parts.items < 2 ^ 16
parts_few font read low =
    omega (
      arith,
      some_parts font.bytes.now font.dictionary (parts_shown font.parts.items) low read.laid.parts,
      length-map font.parts.items part_shown,
    )

-- the number that an FDSelect gives has one byte
given_low : (bytes : List ℕ) (place glyphs glyph fd : ℕ) → AreLow bytes → Selects bytes place glyphs glyph fd → fd < 256
given_low bytes place glyphs glyph fd low (inl listed) =
    let is = listed.dictionary in omega (arith, is, one_low bytes (place + 1 + glyph) low)
given_low bytes place glyphs glyph fd low (inr ranges) =
    let one = ranges.range in
    let is = one.dictionary in
    omega (arith, is, one_low bytes (place + 3 + one.range * 3 + 2) low)

part_low : (bytes : List ℕ) (font : View) (glyph number : ℕ) → AreLow bytes → ShowsPart bytes font glyph number → number < 256
part_low bytes font glyph number low has = elim has.selected [
  | inl one ↦ (let is = one.1 in omega (arith, is))
  | inr several ↦ (let selected = several.1 in given_low bytes selected.0 (length font.char_strings) glyph number low selected.2)
]

number_low : (bytes : List ℕ) (font : View) (source : Option ℕ) (number : ℕ) → AreLow bytes → ShowsPartFor bytes font source number →
    number < 256
number_low bytes font None number low is = omega (arith, is)
number_low bytes font (Some glyph) number low has = part_low bytes font glyph number low has

pub numbers_low : (bytes : List ℕ) (font : View) (sources : Sources) (numbers : List ℕ) → AreLow bytes →
    AreNumbersOf bytes font sources numbers → AreLow numbers
numbers_low bytes font sources numbers low are i less =
    let many = are.many in
    number_low bytes font (get_or sources i None) (get_or numbers i 0) low (are.each i (omega (arith, less, many)))
