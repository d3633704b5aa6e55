-- What is written is the font that it was to be.
use Rattle.std.proofs.Common.{◌≡◌, ◌<◌, refl, sym, ap, subst, ◌∙◌, ℕ, List, [], length, slice_get, slice_index_or, Bool, true, false, Option, Some, None, Vec, arith}
use Rattle.std.specs.declared.alloc.Global.{Global}
use Rattle.std.proofs.lemmas.Option.{slice_get-get_or}
use Rattle.std.specs.Option.{is_some}
use Rattle.postscript_base.specs.Compact1.Defaults.{look}
use Rattle.postscript_base.specs.declared.compact1.operator.Operator.TheVariants.{ROS}
use Rattle.postscript_base.specs.Tape.Outcome.{Got}
use Rattle.postscript_view.specs.CharSets.{IsCharSetOf}
use Rattle.postscript_view.specs.Contents.{View}
use Rattle.postscript_view.specs.Encodings.{IsEncodingOf}
use Rattle.postscript_view.specs.Layout.{IsLaidOut}
use Rattle.postscript_view.specs.Value.{view_shown}
use Rattle.postscript_view.specs.declared.char_set.CharSetView.{CharSetView}
use Rattle.postscript_view.specs.declared.encoding.EncodingView.{EncodingView}
use Rattle.postscript_view.specs.declared.font.FontView.{FontView}
use Rattle.postscript_view.proofs.LayoutLaws.{reads_layout}
use Rattle.postscript_write.specs.Fonts.{HasGlyphsOf}
use Rattle.postscript_write.specs.Glyphs.{AreCodesOf, AreNumbersOf, Sources}
use Rattle.postscript_write.specs.Identified.{AreSourcesFor}
use Rattle.postscript_write.specs.Making.{IsFontBy}
use Rattle.postscript_write.specs.Naming.{GivesWay, KeepsCodes, SameName, SameNames}
use Rattle.postscript_write.specs.ReadBack.{AreStrings, HasCodes, IsReadAs}
use Rattle.postscript_write.specs.Sizes.{IsLarge, IsSmall}
use Rattle.postscript_write.specs.Strings.{SameStrings}
use Rattle.postscript_write.proofs.Encoded.{keeps_code}
use Rattle.postscript_write.proofs.Making.{made}
use Rattle.postscript_write.proofs.Renamed.{texts_of}

same_got : {A : Type 0} (x y : A) (n : ℕ) → Got x n ≡ Got y n → x ≡ y
same_got x y n e = cc

pub one_view : (flat : List ℕ) (a b : View) → IsLaidOut flat 0 a → IsLaidOut flat 0 b → b ≡ a
one_view flat a b found laid = same_got b a 0 (sym ((reads_layout flat 0 b).1 laid) ∙ (reads_layout flat 0 a).1 found)

-- what is written has few bytes, over all views of the bytes
pub small_so : (font : FontView) (bytes flat : List ℕ) → IsLaidOut bytes 0 (view_shown font) → font.bytes.now ≡ bytes →
    ((new : View) → IsLaidOut flat 0 new → IsLarge font.bytes.now (view_shown font) new.char_strings → ⊥) → IsSmall bytes flat
small_so font bytes flat is same small old new was laid large =
    let view : view_shown font ≡ old = one_view bytes old (view_shown font) was is in
    small new laid (subst (λ (bs : List ℕ). IsLarge bs (view_shown font) new.char_strings) (sym same)
    (subst (λ v. IsLarge bytes v new.char_strings) (sym view) large))

strings_as : (keeps : Bool) (sources : Sources) (old : View) (old_set : CharSetView) (new : View) (new_set : CharSetView) →
    AreStrings keeps sources old old_set new new_set → SameStrings keeps sources old old_set new new_set
strings_as true sources old old_set new new_set are = are
strings_as false sources old old_set new new_set are = record {
  operators = are.operators;
  glyphs = texts_of old_set new_set old.tables.strings new.tables.strings sources are.glyphs;
  needed = are.needed;
}

-- glyphs keep their numbers
abbrev pub KeepThem : Sources → Type 0
KeepThem sources = (i : ℕ) → i < length sources → (glyph : ℕ) → slice_index_or sources i None ≡ Some glyph → glyph ≡ i

-- a glyph that keeps its number has the name that it had, and so has an empty one
own_name : (old new : CharSetView) (source : Option ℕ) (i : ℕ) → ((glyph : ℕ) → source ≡ Some glyph → glyph ≡ i) → SameName old source new i →
    SameName old (Some i) new i
own_name old new None i keep same = same
own_name old new (Some glyph) i keep same = subst (λ n. SameName old (Some n) new i) (keep glyph refl) same

pub keep_them : (kept : Bool) (set : CharSetView) (glyphs : ℕ) (sources : Sources) (identifiers : Option (Vec ℕ Global)) →
    AreSourcesFor kept set glyphs sources identifiers → kept ≡ true → KeepThem sources
keep_them true set glyphs sources None are is = λ i less glyph at. are.each i glyph less at
keep_them true set glyphs sources (Some identifiers) are is = absurd are
keep_them false set glyphs sources identifiers are is = absurd (cc)

module _ (sources : Sources) (bytes : List ℕ) (old : View) (old_set : CharSetView) (encoding : EncodingView) (numbers : List ℕ)
    (codes : List (List ℕ)) (flat : List ℕ) (new : View) (was : IsEncodingOf encoding bytes old.tables.dictionary) where
  codes_as : (new_set : CharSetView) → SameNames old_set sources new_set → KeepThem sources → HasCodes true encoding flat new.tables.dictionary →
      KeepsCodes sources bytes old flat new old_set new_set
  codes_as new_set names keep has = record {
    old_encoding = encoding;
    new_encoding = has.encoding;
    was = was;
    is = has.is;
    codes = λ code glyph less.
        keeps_code encoding has.encoding (has.same has.encoding has.is) old_set new_set code glyph
        (own_name old_set new_set (slice_index_or sources glyph None) glyph (keep glyph less) (names glyph less));
  }

  way_as : HasCodes false encoding flat new.tables.dictionary → GivesWay bytes old flat new
  way_as has = record { old_encoding = encoding; new_encoding = has.encoding; was = was; is = has.is; codes = has.same has.encoding has.is }

  glyphs_as : (kept : Bool) → AreNumbersOf bytes old sources numbers → AreCodesOf old sources numbers codes →
      IsReadAs kept sources old old_set encoding numbers codes flat new → HasGlyphsOf sources bytes old flat new
  glyphs_as kept numbers_are codes_are is =
      let written = is.written in
      record {
        header = written.header;
        repeats = written.repeats;
        unnamed = is.unnamed;
        many = ap length written.char_strings ∙ codes_are.many;
        glyphs = λ i less.
            let code = slice_index_or codes i [] in
            let numbered = numbers_are.many in
            let many = codes_are.many in
            let there = ap (λ (cs : List (List ℕ)). slice_get cs i) written.char_strings
            ∙ slice_get-get_or codes i [] (omega (arith, less, many)) in
            made bytes flat old new (slice_index_or sources i None) i (slice_index_or numbers i 0) code written.repeats.parts there
            (numbers_are.each i less) (codes_are.each i less) (written.parts i (omega (arith, less, numbered)));
      }

  pub font_as : (kept : Bool) → (kept ≡ true → KeepThem sources) → IsCharSetOf old_set bytes old.tables.dictionary (length old.char_strings) →
      AreNumbersOf bytes old sources numbers → AreCodesOf old sources numbers codes →
      IsReadAs kept sources old old_set encoding numbers codes flat new → IsFontBy kept sources bytes old flat new
  font_as true keep has_set numbers_are codes_are is =
      let names = is.names in
      let strings = names.same names.set names.is in
      record {
        made = glyphs_as true numbers_are codes_are is;
        sets = record { old_set = old_set; new_set = names.set; was = has_set; is = names.is };
        strings = strings;
        codes = codes_as names.set strings.glyphs (keep refl) is.same_codes;
      }
  font_as false keep has_set numbers_are codes_are is =
      let names = is.names in
      record {
        made = glyphs_as false numbers_are codes_are is;
        sets = record { old_set = old_set; new_set = names.set; was = has_set; is = names.is };
        strings = strings_as (is_some (look old.tables.dictionary ROS)) sources old old_set new names.set (names.same names.set names.is);
        encoding = way_as is.same_codes;
      }
