-- Ranges of codes, and what is opened of an encoding.
use Rattle.std.proofs.Common.{◌≡◌, refl, sym, ap, subst, ℕ, ◌+◌, ◌-◌, ◌/◌, ◌<◌, ◌≤◌, ◌∙◌, List, length, Option, Some, None, true, false, add-one, arith}
use Rattle.std.specs.Prelude.{IfSome, IfNone, IfErr, Result, Ok, Err}
use Rattle.postscript_base.specs.Compact1.Decimal.{Decimal}
use Rattle.std.specs.FinMap.{get}
use Rattle.std.specs.Option.{is_some, option_or}
use Rattle.postscript_base.specs.Compact1.Defaults.{default_of, look}
use Rattle.postscript_base.specs.Compact1.Dictionary.{Dictionary}
use Rattle.postscript_base.specs.declared.compact1.operator.Operator.TheVariants as operators
use Rattle.postscript_view.specs.Encoding.{Gives, HasCode, IsFirstGiven, IsFirstWithCode, IsInCodeRanges, first_code, codes_left, coded}
use Rattle.postscript_view.specs.Naming.{Names}
use Rattle.postscript_view.specs.declared.char_set.CharSetView.{CharSetView}
use Rattle.postscript_view.specs.declared.encoding.Codes.{Codes}
use Rattle.postscript_view.specs.declared.encoding.Codes.TheVariants.{Predefined, Listed, Ranges}
use Rattle.postscript_view.specs.Cids.{HasCid, IsCidKeyed}
use Rattle.postscript_view.specs.Dictionaries.{HasFontDictionary, HasMatrix}
use Rattle.postscript_view.specs.Encodings.{AreCodesAt}
use Rattle.postscript_view.specs.Contents.{View}
use Rattle.postscript_view.specs.declared.encoding.EncodingView.{EncodingView}
use Rattle.postscript_view.specs.declared.font.FontView.{FontView}
use Rattle.postscript_view.proofs.Selecting.{risen}

-- ---- ranges of codes
pub coded_none : (ranges : List ℕ) → coded ranges 0 ≡ 0
unfolding coded
coded_none ranges = refl

pub coded_more : (ranges : List ℕ) (r : ℕ) → coded ranges (r + 1) ≡ coded ranges r + (codes_left ranges r + 1)
unfolding coded
coded_more ranges r = ap (coded ranges) (add-one r)

rises : (ranges : List ℕ) (i j : ℕ) → i ≤ j → coded ranges i ≤ coded ranges j
rises ranges i j h = risen (coded ranges) j (λ k there. omega (arith, coded_more ranges k)) i j h (omega arith)

-- none of the ranges so far has the code
abbrev pub HaveNot : List ℕ → (code r : ℕ) → Type 0
HaveNot ranges code r = (q : ℕ) → q < r → first_code ranges q ≤ code → code ≤ first_code ranges q + codes_left ranges q → ⊥

-- so that a glyph with the code stands behind them
pub behind_them : (ranges : List ℕ) (code glyph r g : ℕ) → g ≡ 1 + coded ranges r → HaveNot ranges code r → IsInCodeRanges ranges code glyph →
    g ≤ glyph
behind_them ranges code glyph r g is none named =
    let not_low : named.range < r → ⊥ = λ below. none named.range below named.from named.to in
    let up = rises ranges r named.range (omega (arith, not_low)) in
    omega (arith, up, is, named.glyph_is, named.from)

-- one range more
pub have_not : (ranges : List ℕ) (code r : ℕ) → HaveNot ranges code r →
    (first_code ranges r ≤ code → code ≤ first_code ranges r + codes_left ranges r → ⊥) → HaveNot ranges code (r + 1)
have_not ranges code r before here q below low high =
    let not_before : q < r → ⊥ = λ h. before q h low high in
    let same : q ≡ r = omega (arith, below, not_before) in
    here (subst (λ q. first_code ranges q ≤ code) same low) (subst (λ q. code ≤ first_code ranges q + codes_left ranges q) same high)

-- where the next has it, the first glyph with the code is in it
least : (ranges : List ℕ) (code glyph r g : ℕ) → g ≡ 1 + coded ranges r → HaveNot ranges code r → first_code ranges r ≤ code →
    code ≤ first_code ranges r + codes_left ranges r
    → IsInCodeRanges ranges code glyph → g + (code - first_code ranges r) ≤ glyph
least ranges code glyph r g is none low high named =
    let not_below : glyph < g + (code - first_code ranges r) → ⊥ = λ less.
    let not_low : named.range < r → ⊥ = λ below. none named.range below named.from named.to in
    let not_high : r < named.range → ⊥ =
    λ below. let up =
    rises ranges (r + 1) named.range (omega (arith, below)) in
    absurd (omega (arith, up, coded_more ranges r, less, is, named.glyph_is, named.from, low, high)) in
    let same : named.range ≡ r = omega (arith, not_low, not_high) in
    let there : glyph + first_code ranges r ≡ 1 + coded ranges r + code = subst
    (λ q. glyph + first_code ranges q ≡ 1 + coded ranges q + code) same named.glyph_is in
    absurd (omega (arith, there, less, is, low, high)) in
    omega (arith, not_below)

pub in_ranges : (o : Option ℕ) (ranges : List ℕ) (code r glyphs g step : ℕ) → step ≡ code - first_code ranges r → r < length ranges / 2 →
    g ≡ 1 + coded ranges r → HaveNot ranges code r
    → first_code ranges r ≤ code → code ≤ first_code ranges r + codes_left ranges r → IfSome o
    (λ found. (found ≡ g + step) × (found < glyphs))
    → IfSome o (λ glyph. (glyph < glyphs) × IsInCodeRanges ranges code glyph × ((other : ℕ) → other < glyph → IsInCodeRanges ranges code other → ⊥))
in_ranges None ranges code r glyphs g step stepped inside is none low high h = tt
in_ranges (Some found) ranges code r glyphs g step stepped inside is none low high h =
    let place = h.0 in (
      h.1,
      record { range = r; there = inside; from = low; to = high; glyph_is = omega (arith, place, stepped, is, low) },
      λ other less named. let no_less =
          least ranges code other r g is none low high named in absurd (omega (arith, less, no_less, place, stepped)),
    )

pub not_in_ranges : (o : Option ℕ) (ranges : List ℕ) (code r glyphs g step : ℕ) → step ≡ code - first_code ranges r →
    g ≡ 1 + coded ranges r → HaveNot ranges code r
    → first_code ranges r ≤ code → code ≤ first_code ranges r + codes_left ranges r → IfNone o (glyphs ≤ g + step) → IfNone o
    ((glyph : ℕ) → glyph < glyphs → IsInCodeRanges ranges code glyph → ⊥)
not_in_ranges (Some found) ranges code r glyphs g step stepped is none low high h = tt
not_in_ranges None ranges code r glyphs g step stepped is none low high h = λ glyph below named.
    let no_less = least ranges code glyph r g is none low high named in
    absurd (omega (arith, below, no_less, h, stepped))

-- ---- opening
-- what stands behind the codes at a place begins at one place
pub one_next : (codes other : Codes) (bytes : List ℕ) (place next another : ℕ) → AreCodesAt codes bytes place next →
    AreCodesAt other bytes place another → another ≡ next
one_next (Predefined encoding) other bytes place next another x y = absurd x
one_next (Listed codes) (Predefined encoding) bytes place next another x y = absurd y
one_next (Listed codes) (Listed others) bytes place next another x y = y.2 ∙ sym x.2
one_next (Listed codes) (Ranges others) bytes place next another x y = absurd (omega (arith, x.0, y.0))
one_next (Ranges codes) (Predefined encoding) bytes place next another x y = absurd y
one_next (Ranges codes) (Listed others) bytes place next another x y = absurd (omega (arith, x.0, y.0))
one_next (Ranges codes) (Ranges others) bytes place next another x y = y.2 ∙ sym x.2

-- ---- codes of a font that is not CID-keyed
pub code_found : (o : Option ℕ) (font : View) (encoding : EncodingView) (set : CharSetView) (code n : ℕ) → n ≡ length font.char_strings →
    (IsCidKeyed font.tables.dictionary → ⊥)
    → IfSome o (λ glyph. IsFirstGiven encoding set n code glyph) → IfSome o (λ glyph. IsFirstWithCode font encoding set code glyph)
code_found None font encoding set code n is plain h = tt
code_found (Some glyph) font encoding set code n is plain first = let there = first.there in record {
  has = record { not_keyed = plain; there = omega (arith, there, is); gives = first.gives };
  none_before = λ other below has. first.none_before other below has.gives;
}

pub code_none : (o : Option ℕ) (font : View) (encoding : EncodingView) (set : CharSetView) (code n : ℕ) → n ≡ length font.char_strings
    → IfNone o ((glyph : ℕ) → glyph < n → Gives encoding set code glyph → ⊥) → IfNone o
    ((glyph : ℕ) → HasCode font encoding set code glyph → ⊥)
code_none (Some glyph) font encoding set code n is h = tt
code_none None font encoding set code n is h = λ glyph has. let there = has.there in h glyph (omega (arith, there, is)) has.gives

-- ---- CIDs
pub cid_none : (o : Option ℕ) (font : FontView) (set : CharSetView) (glyph : ℕ) →
    IfNone o ((identifier : ℕ) → Names set glyph identifier → ⊥) → IfNone o ((cid : ℕ) → HasCid font set glyph cid → ⊥)
cid_none (Some cid) font set glyph h = tt
cid_none None font set glyph h = λ cid has. h cid has.tells

-- ---- what a refusal or an answer says
pub all_err : {A E P : Type 0} (r : Result A E) → P → IfErr r (λ e. P)
all_err (Ok x) h = tt
all_err (Err e) h = h

pub if_err : {A E P Q : Type 0} (r : Result A E) → IfErr r (λ e. P) → (P → Q) → IfErr r (λ e. Q)
if_err (Ok x) h f = tt
if_err (Err e) h f = f h

-- ---- the FontMatrix of a glyph
pub of_its_own : (o : Option (List Decimal)) (font : FontView) (glyph : ℕ) (own : Dictionary) → HasFontDictionary font glyph own →
    is_some (get own operators.FontMatrix) ≡ true → o ≡ look own operators.FontMatrix
    → IfSome o (λ matrix. HasMatrix font glyph matrix)
of_its_own None font glyph own has some is = tt
of_its_own (Some matrix) font glyph own has some is = (own, has, by (get own operators.FontMatrix) some (sym is))
  where
    by : (x : Option (List Decimal)) → is_some x ≡ true → option_or x (default_of operators.FontMatrix) ≡ Some matrix →
        option_or x (look font.dictionary operators.FontMatrix) ≡ Some matrix
    by None some is = absurd (cc)
    by (Some operands) some is = is

pub of_the_font : (o : Option (List Decimal)) (font : FontView) (glyph : ℕ) (own : Dictionary) → HasFontDictionary font glyph own →
    is_some (get own operators.FontMatrix) ≡ false → o ≡ look font.dictionary operators.FontMatrix
    → IfSome o (λ matrix. HasMatrix font glyph matrix)
of_the_font None font glyph own has none is = tt
of_the_font (Some matrix) font glyph own has none is = (own, has, by (get own operators.FontMatrix) none)
  where
    by : (x : Option (List Decimal)) → is_some x ≡ false → option_or x (look font.dictionary operators.FontMatrix) ≡ Some matrix
    by None none = sym is
    by (Some operands) none = absurd (cc)
