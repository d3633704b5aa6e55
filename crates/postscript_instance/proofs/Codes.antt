-- The codes of glyphs, one more at a time.
use Rattle.std.proofs.Common.{◌≡◌, refl, ap, sym, subst, ◌∙◌, ℕ, zero, suc, ◌+◌, ◌<◌, ◌⊎◌, inl, inr, ℤ, List, [], ◌∷◌, ◌++◌, length, length-append, Some, slice_get, get_or, Vec, arith}
use Rattle.std.specs.Prelude.{option_map}
use Rattle.std.specs.declared.alloc.Global.{Global}
use Rattle.std.proofs.lemmas.List.{length-map}
use Rattle.std.proofs.lemmas.Option.{slice_get-map, slice_get_within}
use Rattle.postscript_cff2.specs.Shown.{view_shown}
use Rattle.postscript_cff2.specs.declared.font.Font.{Font}
use Rattle.postscript_type2.specs.Program.Routines.{texts}
use Rattle.postscript_variable.specs.declared.charstring.Charstring.{Charstring}
use Rattle.postscript_variable_font.specs.Glyphs.{IsCharstringOf}
use Rattle.postscript_variable_font.specs.declared.place.Place.{Place}
use Rattle.postscript_instance.specs.Advances.{AreAdvancesAt, IsOperand}
use Rattle.postscript_instance.specs.Encoded.{HasFontDict, HaveFontDicts, IsFontOf}
use Rattle.postscript_instance.specs.Glyphs.{AreCodes, DoesIn}
use Rattle.postscript_instance.specs.Hints.{AreHintsAt, IsPrivateAt, IsSource}
use Rattle.postscript_instance.specs.Tables.{IsTable}
use Rattle.postscript_instance.specs.Whole.{AreOfFont, IsWhole}
use Rattle.postscript_instance.specs.declared.advances.AdvancesAt.{AdvancesAt}
use Rattle.postscript_instance.specs.declared.naming.Naming.{Naming}
use Rattle.postscript_instance.specs.declared.tables.Numbers.{Numbers}
use Rattle.postscript_instance.specs.declared.tables.Numbers.TheVariants.{Exact, Whole}

-- what stands there already stays, and the new one is the last
pub stays : {X : Type 0} (xs : List X) (x : X) (i : ℕ) → i < length xs → slice_get (xs ++ x ∷ []) i ≡ slice_get xs i
stays [] x i h = absurd (omega (arith, h))
stays (y ∷ ys) x zero h = refl
stays (y ∷ ys) x (suc i) h = stays ys x i (omega (arith, h))

pub last : {X : Type 0} (xs : List X) (x : X) → slice_get (xs ++ x ∷ []) (length xs) ≡ Some x
last [] x = refl
last (y ∷ ys) x = last ys x

pub either : (i n : ℕ) → i < n + 1 → (i < n) ⊎ (i ≡ n)
either i n h = grind (arith)

pub found : {X : Type 0} (xs : List X) (i : ℕ) (x : X) → x ≡ get_or xs i x → i < length xs → slice_get xs i ≡ Some x
found [] i x is h = absurd (omega (arith, h))
found (y ∷ ys) zero x is h = ap Some (sym is)
found (y ∷ ys) (suc i) x is h = found ys i x is (omega (arith, h))

pub one-code : (does : (glyph : ℕ) → (width : ℤ) → (code : List ℕ) → Type 0) (widths : List ℤ) (n : ℕ) (xs : List (Vec ℕ Global))
    (x : Vec ℕ Global) (width : ℤ) →
    AreCodes does widths n xs → slice_get widths n ≡ Some width → does n width x.items → AreCodes does widths (n + 1) (xs ++ x ∷ [])
one-code does widths n xs x width are there is =
    let many = are.counted in
    let long = length-append xs (x ∷ []) in
    let at_end : slice_get (xs ++ x ∷ []) n ≡ Some x = subst (λ k. slice_get (xs ++ x ∷ []) k ≡ Some x) many (last xs x) in
    record {
      counted = omega (arith, many, long);
      each = λ glyph h. elim (either glyph n h) [
        | inl less ↦ let old = are.each glyph less in (old.0, old.1, old.2, stays xs x glyph (omega (arith, less, many)) ∙ old.3, old.4)
        | inr same ↦ (
          width,
          x,
          ap (slice_get widths) same ∙ there,
          ap (slice_get (xs ++ x ∷ [])) same ∙ at_end,
          subst (λ k. does k width x.items) (sym same) is,
        )
      ];
    }

pub one-advance : (advances : AdvancesAt) (n : ℕ) (xs : List ℤ) (x : ℤ) → AreAdvancesAt advances n xs → IsOperand advances n x →
    AreAdvancesAt advances (n + 1) (xs ++ x ∷ [])
one-advance advances n xs x are is =
    let many = are.counted in
    let long = length-append xs (x ∷ []) in
    let at_end : slice_get (xs ++ x ∷ []) n ≡ Some x = subst (λ k. slice_get (xs ++ x ∷ []) k ≡ Some x) many (last xs x) in
    record {
      counted = omega (arith, many, long);
      each = λ glyph h. elim (either glyph n h) [
        | inl less ↦ let old = are.each glyph less in (old.0, stays xs x glyph (omega (arith, less, many)) ∙ old.1, old.2)
        | inr same ↦ (x, ap (slice_get (xs ++ x ∷ [])) same ∙ at_end, subst (λ k. IsOperand advances k x) (sym same) is)
      ];
    }

-- the table of codes that do what they are to do
pub table-of : (does : (glyph : ℕ) → (advance : ℤ) → (code : List ℕ) → Type 0) (font : Font) (place : Place) (naming : Naming) (advances : List ℤ)
    (bytes : List ℕ) (codes : List (Vec ℕ Global)) → AreCodes does advances (length advances) codes → IsFontOf font naming (texts codes) bytes →
    (privates : List (List ℕ)) → AreOfFont font privates → AreHintsAt font place privates (length privates) →
    IsWhole font naming (texts codes) privates bytes → IsTable does font place naming advances bytes
table-of does font place naming advances bytes codes are is privates are_privates hints whole =
    let many = are.counted in
    let all : length (texts codes) ≡ length codes = length-map codes (λ v. v.items) in
    record {
      view = is.view;
      stands = is.stands;
      counted = ap length is.are_codes ∙ all ∙ many;
      glyphs = λ glyph less.
          let one = are.each glyph less in (
            one.0,
            one.1.items,
            one.2,
            ap (λ items. slice_get items glyph) is.are_codes ∙ slice_get-map (λ (v : Vec ℕ Global). v.items) codes glyph
                ∙ ap (option_map (λ (v : Vec ℕ Global). v.items)) one.3,
            one.4,
          );
      none = is.none;
      parts = is.parts;
      called = is.called;
      dictionaries = λ glyph less. is.dictionaries glyph (omega (arith, less, many, all));
      privates = privates;
      are_privates = are_privates;
      hints = hints;
      whole = subst (λ items. IsWhole font naming items privates bytes) (sym is.are_codes) whole;
    }

-- each glyph that has a code has a Font DICT
has-dict : (font : Font) (place : Place) (glyph : ℕ) (charstring : Charstring) → IsCharstringOf font glyph place charstring →
    (number : ℕ) × HasFontDict font glyph number
has-dict font place glyph charstring is =
    (is.has.number, (is.has.numbered, slice_get_within (view_shown font).font_dictionaries is.has.number is.has.dictionary is.has.there))

does-dict : (numbers : Numbers) (font : Font) (place : Place) (glyph : ℕ) (width : ℤ) (code : List ℕ) → DoesIn numbers font place glyph width code →
    (number : ℕ) × HasFontDict font glyph number
does-dict Exact font place glyph width code does = has-dict font place glyph does.charstring does.is
does-dict Whole font place glyph width code does = has-dict font place glyph does.charstring does.is

pub have-dicts : (numbers : Numbers) (font : Font) (place : Place) (widths : List ℤ) (count : ℕ) (codes : List (Vec ℕ Global)) →
    AreCodes (DoesIn numbers font place) widths count codes → HaveFontDicts font (length codes)
have-dicts numbers font place widths count codes are glyph less =
    let one = are.each glyph (let many = are.counted in omega (arith, less, many)) in
    does-dict numbers font place glyph one.0 one.1.items one.4

pub one-private : (font : Font) (place : Place) (texts : List (List ℕ)) (n : ℕ) (source text : List ℕ) → length texts ≡ n →
    AreHintsAt font place texts n → IsSource font n source → IsPrivateAt place.tables.items source text →
    AreHintsAt font place (texts ++ text ∷ []) (n + 1)
one-private font place texts n source text many are from is number h = elim (either number n h) [
  | inl less ↦ (let old = are number less in (old.0, old.1, old.2, stays texts text number (omega (arith, less, many)) ∙ old.3, old.4))
  | inr same ↦ (
    source,
    text,
    subst (λ k. IsSource font k source) (sym same) from,
    subst (λ k. slice_get (texts ++ text ∷ []) k ≡ Some text) (many ∙ sym same) (last texts text),
    is,
  )
]
