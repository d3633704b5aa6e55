-- How many bytes is at most what is written of glyphs besides their codes.
use Rattle.std.proofs.Common.{◌≡◌, ◌∙◌, refl, sym, ap, ℕ, ◌+◌, ◌-◌, ◌*◌, ◌^◌, ◌≤◌, ◌<◌, List, length, length-append, take, drop, get_or, Option, Some, None, Bool, true, false, Vec, MatchBool, arith}
use Rattle.std.specs.List.{slice_range}
use Rattle.std.specs.Option.{is_some}
use Rattle.std.specs.declared.alloc.Global.{Global}
use Rattle.std.proofs.lemmas.List.{length-map}
use Rattle.std.proofs.Common.{length-drop}
use Rattle.std.proofs.lemmas.List.{take-append-drop}
use Rattle.postscript_base.specs.Compact1.Defaults.{look}
use Rattle.postscript_base.specs.Compact1.Dictionary.{Dictionary}
use Rattle.postscript_base.specs.Index.Lent.{items_of}
use Rattle.postscript_base.specs.declared.compact1.operator.Operator.{Operator}
use Rattle.postscript_base.specs.declared.compact1.operator.Operator.TheVariants as operators
use Rattle.postscript_type2.specs.Program.Routines.{texts}
use Rattle.postscript_view.specs.declared.font.FontView.{FontView}
use Rattle.postscript_write.specs.Pieces.{text_of}
use Rattle.postscript_write.specs.Numbered.{AreAll, AreCut, AreFew, AreGlyphsFor, AreStringsFor, IsCharSetFor, IsEncodingFor, IsSelectFor, IsSetFor, items_if}
use Rattle.postscript_write.specs.Own.{IsCutFrom, IsOwn}
use Rattle.postscript_write.specs.Renumbered.{new_identifier}
use Rattle.postscript_write.specs.Sizes.{bytes_in}
use Rattle.postscript_write.specs.Whole.{CharSetEnds, EncodingEnds}
use Rattle.postscript_write.specs.declared.layout.Glyphs.{Glyphs}
use Rattle.postscript_write.specs.declared.strings.Strings.{Strings}
use Rattle.postscript_write.proofs.NewStrings.{few_written}

-- strings: not more than the font has, and no more bytes; and what identifiers are new
pub record AreFewStrings (font : FontView) (strings : Strings) : Type 0 where
  pub many : length (texts strings.texts.items) ≤ length (items_of font.strings)
  pub bytes : bytes_in (texts strings.texts.items) ≤ bytes_in (items_of font.strings)
  pub new : (number new : ℕ) → get_or strings.renumbered.items number None ≡ Some new → new < 391 + length (texts strings.texts.items)

all_few : (font : FontView) (strings : Strings) → AreAll font strings → AreFewStrings font strings
all_few font strings all = record {
  many = omega (arith, ap length all.texts_are);
  bytes = omega (arith, ap bytes_in all.texts_are);
  new = λ number new some. let never : None ≡ Some new = sym (ap (λ (rs : List (Option ℕ)). get_or rs number None) all.stay)
      ∙ some in absurd (cc);
}

cut_few : (font : FontView) (identifiers : List ℕ) (strings : Strings) → AreCut font identifiers strings → AreFewStrings font strings
cut_few font identifiers strings cut =
    let few = few_written (items_of font.strings) (texts strings.texts.items) strings.renumbered.items cut.renumbered in
    record {
      many = few.0;
      bytes = few.1;
      new = λ number new some.
          let one = cut.renumbered.each number new some in
          let is = one.is in
          let there = one.there in
          omega (arith, is, there);
    }

strings_little : (font : FontView) (identifiers : Option (Vec ℕ Global)) (strings : Strings) → AreStringsFor font identifiers strings →
    AreFewStrings font strings
strings_little font None strings all = all_few font strings all
strings_little font (Some identifiers) strings are = by (is_some (look font.dictionary operators.ROS)) are
  where
    by : (keyed : Bool) → MatchBool keyed (AreAll font strings) (AreCut font identifiers.items strings) → AreFewStrings font strings
    by true all = all_few font strings all
    by false cut = cut_few font identifiers.items strings cut

-- a part of the font's own has no more bytes than the font
cut_within : (bytes cut : List ℕ) (from to : ℕ) → IsCutFrom bytes from to cut → length cut ≤ length bytes
cut_within bytes cut from to is =
    let order = is.order in
    let within = is.within in
    omega (arith, ap length is.is, range_long bytes from to)
  where
    range_long : (bytes : List ℕ) (from to : ℕ) → length (slice_range bytes from to) ≤ length bytes
    range_long bytes from to =
        let rest : List ℕ = drop from bytes in
        omega (
          arith,
          ap length (take-append-drop (to - from) rest),
          length-append (take (to - from) rest) (drop (to - from) rest),
          length-drop from bytes,
        )

own_little : (bytes : List ℕ) (map : Dictionary) (operator : Operator) (least : ℕ) (ends : ℕ → ℕ → Type 0) (own : Option (Vec ℕ Global)) →
    IsOwn bytes map operator least ends (items_if own) → length (text_of own) ≤ length bytes
own_little bytes map operator least ends None is = omega arith
own_little bytes map operator least ends (Some own) is = cut_within bytes own.items is.0 is.1 is.5

nothing_long : (own : Option (Vec ℕ Global)) → own ≡ None → length (text_of own) ≡ 0
nothing_long None is = refl
nothing_long (Some own) is = absurd (cc)

encoding_little : (font : FontView) (identifiers : Option (Vec ℕ Global)) (glyphs : Glyphs) → IsEncodingFor font identifiers glyphs →
    length (text_of glyphs.encoding) ≤ length font.bytes.now
encoding_little font None glyphs is =
    own_little font.bytes.now font.dictionary operators.Encoding 2 (EncodingEnds font.bytes.now) glyphs.encoding is.0
encoding_little font (Some identifiers) glyphs is = omega (arith, nothing_long glyphs.encoding is.0)

set_little : (strings : Strings) (identifiers : List ℕ) (own : Option (Vec ℕ Global)) → IsSetFor strings identifiers (items_if own) →
    length (text_of own) ≤ 1 + 2 * length identifiers
set_little strings identifiers None is = absurd (let e = is.1 in cc)
set_little strings identifiers (Some own) is =
    let same : own.items ≡ is.0 = (let e = is.1 in cc) in
    omega (arith, ap length same, is.2.few, length-map identifiers (new_identifier strings))

char_set_little : (font : FontView) (identifiers : Option (Vec ℕ Global)) (glyphs : Glyphs) → AreFew identifiers →
    IsCharSetFor font identifiers glyphs →
    length (text_of glyphs.char_set) ≤ length font.bytes.now + 131071
char_set_little font None glyphs few is =
    omega (
      arith,
      own_little font.bytes.now font.dictionary operators.CharSet 3
          (CharSetEnds font.bytes.now (length (items_of font.char_strings))) glyphs.char_set is,
    )
char_set_little font (Some identifiers) glyphs few is =
    omega (
      arith,
      few,
      set_little glyphs.strings identifiers.items glyphs.char_set is,
    )

select_little : (numbers : List ℕ) (select : Option (Vec ℕ Global)) → length numbers < 2 ^ 16 → IsSelectFor numbers select →
    length (text_of select) ≤ 65536
select_little numbers None few is = omega arith
select_little numbers (Some select) few is = let most = is.few in omega (arith, most, few)

-- all together
pub record AreLittle (font : FontView) (glyphs : Glyphs) : Type 0 where
  pub strings : AreFewStrings font glyphs.strings
  pub encoding : length (text_of glyphs.encoding) ≤ length font.bytes.now
  pub select : length (text_of glyphs.select) ≤ 65536
  pub char_set : length (text_of glyphs.char_set) ≤ length font.bytes.now + 131071

pub are_little : (font : FontView) (numbers : List ℕ) (identifiers : Option (Vec ℕ Global)) (glyphs : Glyphs) → length numbers < 2 ^ 16 →
    AreFew identifiers → AreGlyphsFor font numbers identifiers glyphs → AreLittle font glyphs
are_little font numbers identifiers glyphs few less are = record {
  strings = strings_little font identifiers glyphs.strings are.strings;
  encoding = encoding_little font identifiers glyphs are.encoding;
  select = select_little numbers glyphs.select few are.select;
  char_set = char_set_little font identifiers glyphs less are.char_set;
}
