-- Where whole fonts are read so as the old font, the font that is written is read so too.
use Rattle.std.proofs.Common.{◌≡◌, sym, ap, subst, ◌∙◌, ℕ, ◌+◌, ◌<◌, List, [], ◌∷◌, length, get_or, Option, Some, None, Bool, true, false, Vec, arith}
use Rattle.std.specs.Option.{is_some}
use Rattle.std.specs.Prelude.{MatchBool, slice_index_or}
use Rattle.std.specs.declared.alloc.Global.{Global}
use Rattle.std.proofs.lemmas.List.{get_or_default}
use Rattle.postscript_base.specs.Compact1.Defaults.{look}
use Rattle.postscript_base.specs.Index.Lent.{items_of}
use Rattle.postscript_base.specs.declared.compact1.operator.Operator.TheVariants.{ROS}
use Rattle.postscript_compact1.specs.FontSet.Parts.{HasCharSet}
use Rattle.postscript_compact1.specs.declared.char_set.CharSet.{CharSet}
use Rattle.postscript_type2.specs.Program.Inlined.{inlined_text}
use Rattle.postscript_type2.specs.Program.Routines.{texts}
use Rattle.postscript_view.specs.Contents.{View}
use Rattle.postscript_view.specs.Encodings.{IsEncodingOf}
use Rattle.postscript_view.specs.Value.{view_shown}
use Rattle.postscript_view.specs.declared.char_set.CharSetView.{CharSetView}
use Rattle.postscript_view.specs.declared.encoding.EncodingView.{EncodingView}
use Rattle.postscript_view.specs.declared.font.FontView.{FontView}
use Rattle.postscript_write.specs.Glyphs.{AreCodesOf, IsCodeFor, Sources, code_text, run_in}
use Rattle.postscript_write.specs.Identified.{AreSourcesFor}
use Rattle.postscript_write.specs.Numbered.{AreAll, AreCut, AreStringsFor, IsCharSetFor}
use Rattle.postscript_write.specs.ReadBack.{HasCharSetText, IsReadAs}
use Rattle.postscript_write.specs.Readings.{HasLenientFont}
use Rattle.postscript_write.specs.Room.{IsRead}
use Rattle.postscript_write.specs.declared.layout.Glyphs.{Glyphs}
use Rattle.postscript_write.specs.declared.strings.Strings.{Strings}
use Rattle.postscript_write.proofs.LenientNew.{HaveBytes, lenient_new}
use Rattle.postscript_write.proofs.LenientOld.{HasForWhole, has_for_whole}
use Rattle.postscript_write.proofs.LenientSets.{encoding_stays, set_kept, set_listed}
use Rattle.postscript_write.proofs.StringsAgain.{past}

-- a code that is written has a byte
text_some : (text flat : List ℕ) → flat ≡ code_text text → 0 < length flat
text_some [] flat is = omega (arith, ap length is)
text_some (b ∷ text) flat is = omega (arith, ap length is)

code_some : (font : View) (source : Option ℕ) (number : ℕ) (flat : List ℕ) → IsCodeFor font source number flat → 0 < length flat
code_some font None number flat is = omega (arith, ap length is)
code_some font (Some glyph) number flat is = text_some (inlined_text (run_in font is.part is.code).trace) flat is.text

codes_some : (font : View) (sources : Sources) (numbers : List ℕ) (flats : List (List ℕ)) → AreCodesOf font sources numbers flats →
    HaveBytes flats
codes_some font sources numbers flats are k d less =
    let many = are.many in
    subst (λ (xs : List ℕ). 0 < length xs) (get_or_default flats k [] d less)
    (code_some font (slice_index_or sources k None) (slice_index_or numbers k 0) (slice_index_or flats k [])
    (are.each k (omega (arith, less, many))))

-- and so has a string
strings_some : (font : FontView) (identifiers : Option (Vec ℕ Global)) (strings : Strings) → AreStringsFor font identifiers strings →
    HaveBytes (items_of font.strings) → HaveBytes (texts strings.texts.items)
strings_some font None strings all some = subst HaveBytes (sym all.texts_are) some
strings_some font (Some identifiers) strings are some = cases (is_some (look font.dictionary ROS)) are
  where
    cut_some : AreCut font identifiers.items strings → HaveBytes (texts strings.texts.items)
    cut_some cut k d less =
        let old : List (List ℕ) = items_of font.strings in
        let own = cut.renumbered.own k less in
        let is = cut.renumbered.each own.0 (391 + k) own.1 in
        let place : is.place ≡ k = let e = is.is in omega (arith, e) in
        let many = cut.renumbered.many in
        let within : own.0 < length old = omega (arith, many, past strings.renumbered.items own.0 (391 + k) own.1) in
        let text : get_or old own.0 [] ≡ get_or (texts strings.texts.items) k [] = sym is.text ∙ ap
        (λ n. get_or (texts strings.texts.items) n []) place in
        subst (λ (xs : List ℕ). 0 < length xs) (text ∙ get_or_default (texts strings.texts.items) k [] d less) (some own.0 [] within)

    cases : (b : Bool) → MatchBool b (AreAll font strings) (AreCut font identifiers.items strings) → HaveBytes (texts strings.texts.items)
    cases true all = subst HaveBytes (sym all.texts_are) some
    cases false cut = cut_some cut

module _ (font : FontView) (glyphs : Glyphs) (kept : Bool) (set : CharSetView) (sources : Sources) (identifiers : Option (Vec ℕ Global))
    (encoding : EncodingView) (numbers : List ℕ) (codes : List (List ℕ)) (flat : List ℕ) (new : View)
    (read : IsRead font) (is_encoding : IsEncodingOf encoding font.bytes.now font.dictionary)
    (are_sources : AreSourcesFor kept set (length (items_of font.char_strings)) sources identifiers)
    (are_codes : AreCodesOf (view_shown font) sources numbers codes) (are_strings : AreStringsFor font identifiers glyphs.strings)
    (is_set : IsCharSetFor font identifiers glyphs)
    (is : IsReadAs kept sources (view_shown font) set encoding numbers codes flat new)
    (strings_are : new.tables.strings ≡ texts glyphs.strings.texts.items)
    (text : HasCharSetText font.dictionary glyphs.char_set flat new.tables.dictionary) where
  many : length new.char_strings ≡ length sources
  many = ap length is.written.char_strings ∙ are_codes.many

  set_again : HasForWhole font.bytes.now (view_shown font) →
      (other : CharSet) × HasCharSet flat 0 (length new.char_strings) new.tables.dictionary other
  set_again has = by kept identifiers are_sources is_set
    where
      by : (kept : Bool) (identifiers : Option (Vec ℕ Global)) →
          AreSourcesFor kept set (length (items_of font.char_strings)) sources identifiers → IsCharSetFor font identifiers glyphs →
          (other : CharSet) × HasCharSet flat 0 (length new.char_strings) new.tables.dictionary other
      by true None keep own =
          subst (λ n. (other : CharSet) × HasCharSet flat 0 n new.tables.dictionary other) (sym keep.many ∙ sym many)
          (set_kept font.bytes.now flat (length (items_of font.char_strings)) font.dictionary new.tables.dictionary glyphs.char_set
          has.set own text has.is_set)
      by true (Some identifiers) never own = absurd never
      by false None never own = absurd never
      by false (Some identifiers) of listed =
          set_listed flat (length new.char_strings) font.dictionary new.tables.dictionary glyphs.char_set glyphs.strings identifiers.items
          listed (many ∙ of.many) text

  pub stays_whole : HasLenientFont font.bytes.now → HasLenientFont flat
  stays_whole was =
      let written = is.written in
      let has = has_for_whole font.bytes.now (view_shown font) read.laid was in
      let again = set_again has in
      lenient_new flat (view_shown font) new is.laid written.header written.repeats written.whole
      (subst HaveBytes (sym written.repeats.names) has.names)
      (subst HaveBytes (sym strings_are) (strings_some font identifiers glyphs.strings are_strings has.strings))
      (subst HaveBytes (sym written.char_strings) (codes_some (view_shown font) sources numbers codes are_codes))
      has.encoding again.0
      (encoding_stays kept has.encoding encoding font.bytes.now flat font.dictionary new.tables.dictionary has.is_encoding is_encoding
      is.same_codes)
      again.1 is.unnamed.keyed
