-- A glyph has one code, one part and one run; a code has one glyph; and a run names one accent.
use Rattle.std.proofs.Common.{◌≡◌, ◌≢◌, sym, ap, subst, ◌∙◌, inl, inr, ℕ, ◌<◌, ℤ, pos, List, [], ◌∷◌, length, slice_get, arith}
use Rattle.std.specs.Prelude.{◌⊎◌, Option, Some}
use Rattle.postscript_drawing.specs.Accents.{IsAccent, IsCode}
use Rattle.postscript_drawing.specs.Components.{IsComponent, glyphs_of, standard_identifier}
use Rattle.postscript_drawing.specs.declared.accent.Accent.{Accent}
use Rattle.postscript_base.specs.Compact1.Dictionary.{Dictionary}
use Rattle.postscript_base.specs.Index.Lent.{items_of}
use Rattle.postscript_type2.specs.Number.{to_int}
use Rattle.postscript_type2.specs.Program.Evaluation.{run_of}
use Rattle.postscript_type2.specs.Program.Routines.{lent}
use Rattle.postscript_type2.specs.Program.Runs.{Run}
use Rattle.postscript_view.proofs.Selecting.{one_named}
use Rattle.postscript_view.specs.Advances.{HasRun}
use Rattle.postscript_view.specs.CharSets.{IsCharSetOf, IsCharSetAtOffset, CharSetStandsAt}
use Rattle.postscript_view.specs.Naming.{IsFirstNamed, Names, NamesFrom}
use Rattle.postscript_view.specs.Select.{IsSelected}
use Rattle.postscript_view.specs.declared.char_set.CharSetView.{CharSetView}
use Rattle.postscript_view.specs.declared.char_set.Identifiers.{Identifiers}
use Rattle.postscript_view.specs.declared.char_set.Identifiers.TheVariants.{ISOAdobe, Expert, ExpertSubset, Listed, Ranges1, Ranges2}
use Rattle.postscript_view.specs.declared.font.FontView.{FontView}
use Rattle.postscript_view.specs.declared.private_dict.PrivateDict.{PrivateDict}

one-value : {A : Type 0} → (o : Option A) (a b : A) → o ≡ Some a → o ≡ Some b → a ≡ b
one-value o a b is was = let both : Some a ≡ Some b = sym is ∙ was in cc

-- a glyph has one font dictionary
pub one-number : (bytes : List ℕ) (map : Dictionary) (parts glyphs glyph a b : ℕ) →
    ((parts ≡ 1) × (a ≡ 0)) ⊎ ((parts ≢ 1) × IsSelected bytes map glyphs glyph a) →
    ((parts ≡ 1) × (b ≡ 0)) ⊎ ((parts ≢ 1) × IsSelected bytes map glyphs glyph b) → a ≡ b
one-number bytes map parts glyphs glyph a b (inl x) (inl y) = x.1 ∙ sym y.1
one-number bytes map parts glyphs glyph a b (inl x) (inr y) = absurd (y.0 x.0)
one-number bytes map parts glyphs glyph a b (inr x) (inl y) = absurd (x.0 y.0)
one-number bytes map parts glyphs glyph a b (inr x) (inr y) = one_named bytes map glyphs glyph a b x.1 y.1

pub one-part : (font : FontView) (glyph : ℕ) (p q : PrivateDict) (run other : Run) → HasRun font glyph p run → HasRun font glyph q other →
    q ≡ p
one-part font glyph p q run other a b =
    let number : b.has.number ≡ a.has.number = one-number font.bytes.now font.dictionary (length font.parts.items)
    (glyphs_of font) glyph b.has.number a.has.number b.has.has_number.selected a.has.has_number.selected in
    one-value _ q p (subst (λ n. slice_get font.parts.items n ≡ Some q) number b.has.has_part) a.has.has_part

pub one-run : (font : FontView) (glyph : ℕ) (p q : PrivateDict) (run other : Run) → HasRun font glyph p run → HasRun font glyph q other →
    other ≡ run
one-run font glyph p q run other a b =
    let code : b.code ≡ a.code = one-value _ b.code a.code b.has.has_code a.has.has_code in
    let part = one-part font glyph p q run other a b in
    b.runs ∙ ap (λ (part : PrivateDict). run_of (lent (items_of font.global_subroutines) (items_of part.subroutines)) b.code) part
    ∙ ap (λ code. run_of (lent (items_of font.global_subroutines) (items_of p.subroutines)) code) code ∙ sym a.runs

-- a run names one accent
one-code : (operand : ℤ) (a b : ℕ) → IsCode operand a → IsCode operand b → a ≡ b
one-code operand a b x y = let both : pos a ≡ pos b = one-value (to_int operand) (pos a) (pos b) x.1 y.1 in cc

pub one-accent : (operands : List ℤ) (a b : Accent) → IsAccent operands a → IsAccent operands b → (a.base ≡ b.base) × (a.accent ≡ b.accent)
one-accent operands a b x y =
    let all : a.dx ∷ a.dy ∷ x.bchar ∷ x.achar ∷ [] ≡ b.dx ∷ b.dy ∷ y.bchar ∷ y.achar ∷ [] = sym x.four ∙ y.four in
    let bases : x.bchar ≡ y.bchar = cc in
    let accents : x.achar ≡ y.achar = cc in (
      one-code y.bchar a.base b.base (subst (λ o. IsCode o a.base) bases x.base_is) y.base_is,
      one-code y.achar a.accent b.accent (subst (λ o. IsCode o a.accent) accents x.accent_is) y.accent_is,
    )

-- one char set names the glyphs
same-stands : (a b : Identifiers) (bytes : List ℕ) (place glyphs : ℕ) → CharSetStandsAt a bytes place glyphs → CharSetStandsAt b bytes place glyphs →
    (glyph identifier : ℕ) → NamesFrom a glyph identifier → NamesFrom b glyph identifier
same-stands ISOAdobe b bytes place glyphs x y glyph identifier h = absurd x
same-stands Expert b bytes place glyphs x y glyph identifier h = absurd x
same-stands ExpertSubset b bytes place glyphs x y glyph identifier h = absurd x
same-stands (Listed i) ISOAdobe bytes place glyphs x y glyph identifier h = absurd y
same-stands (Listed i) Expert bytes place glyphs x y glyph identifier h = absurd y
same-stands (Listed i) ExpertSubset bytes place glyphs x y glyph identifier h = absurd y
same-stands (Listed i) (Listed j) bytes place glyphs x y glyph identifier h = rw (y.2, sym x.2) h
same-stands (Listed i) (Ranges1 j) bytes place glyphs x y glyph identifier h =
    let never : 0 ≡ 1 = sym x.0 ∙ y.0 in absurd (omega (arith, never))
same-stands (Listed i) (Ranges2 j) bytes place glyphs x y glyph identifier h =
    let never : 0 ≡ 2 = sym x.0 ∙ y.0 in absurd (omega (arith, never))
same-stands (Ranges1 i) ISOAdobe bytes place glyphs x y glyph identifier h = absurd y
same-stands (Ranges1 i) Expert bytes place glyphs x y glyph identifier h = absurd y
same-stands (Ranges1 i) ExpertSubset bytes place glyphs x y glyph identifier h = absurd y
same-stands (Ranges1 i) (Listed j) bytes place glyphs x y glyph identifier h =
    let never : 1 ≡ 0 = sym x.0 ∙ y.0 in absurd (omega (arith, never))
same-stands (Ranges1 i) (Ranges1 j) bytes place glyphs x y glyph identifier h = rw (y.2, sym x.2) h
same-stands (Ranges1 i) (Ranges2 j) bytes place glyphs x y glyph identifier h =
    let never : 1 ≡ 2 = sym x.0 ∙ y.0 in absurd (omega (arith, never))
same-stands (Ranges2 i) ISOAdobe bytes place glyphs x y glyph identifier h = absurd y
same-stands (Ranges2 i) Expert bytes place glyphs x y glyph identifier h = absurd y
same-stands (Ranges2 i) ExpertSubset bytes place glyphs x y glyph identifier h = absurd y
same-stands (Ranges2 i) (Listed j) bytes place glyphs x y glyph identifier h =
    let never : 2 ≡ 0 = sym x.0 ∙ y.0 in absurd (omega (arith, never))
same-stands (Ranges2 i) (Ranges1 j) bytes place glyphs x y glyph identifier h =
    let never : 2 ≡ 1 = sym x.0 ∙ y.0 in absurd (omega (arith, never))
same-stands (Ranges2 i) (Ranges2 j) bytes place glyphs x y glyph identifier h = rw (y.2, sym x.2) h

same-named : (a b : Identifiers) (bytes : List ℕ) (offset glyphs : ℕ) → IsCharSetAtOffset a bytes offset glyphs →
    IsCharSetAtOffset b bytes offset glyphs → (glyph identifier : ℕ) → NamesFrom a glyph identifier → NamesFrom b glyph identifier
same-named a b bytes offset glyphs (inl x) (inl y) glyph identifier h = subst (λ set. NamesFrom set glyph identifier) (x.1 ∙ sym y.1) h
same-named a b bytes offset glyphs (inl x) (inr (inl y)) glyph identifier h = let never = y.0 in absurd (omega (arith, x.0, never))
same-named a b bytes offset glyphs (inl x) (inr (inr (inl y))) glyph identifier h = let never = y.0 in absurd (omega (arith, x.0, never))
same-named a b bytes offset glyphs (inl x) (inr (inr (inr y))) glyph identifier h = let never = y.0 in absurd (omega (arith, x.0, never))
same-named a b bytes offset glyphs (inr (inl x)) (inl y) glyph identifier h = let never = y.0 in absurd (omega (arith, x.0, never))
same-named a b bytes offset glyphs (inr (inl x)) (inr (inl y)) glyph identifier h =
    subst (λ set. NamesFrom set glyph identifier) (x.1 ∙ sym y.1) h
same-named a b bytes offset glyphs (inr (inl x)) (inr (inr (inl y))) glyph identifier h =
    let never = y.0 in absurd (omega (arith, x.0, never))
same-named a b bytes offset glyphs (inr (inl x)) (inr (inr (inr y))) glyph identifier h =
    let never = y.0 in absurd (omega (arith, x.0, never))
same-named a b bytes offset glyphs (inr (inr (inl x))) (inl y) glyph identifier h = let never = y.0 in absurd (omega (arith, x.0, never))
same-named a b bytes offset glyphs (inr (inr (inl x))) (inr (inl y)) glyph identifier h =
    let never = y.0 in absurd (omega (arith, x.0, never))
same-named a b bytes offset glyphs (inr (inr (inl x))) (inr (inr (inl y))) glyph identifier h =
    subst (λ set. NamesFrom set glyph identifier) (x.1 ∙ sym y.1) h
same-named a b bytes offset glyphs (inr (inr (inl x))) (inr (inr (inr y))) glyph identifier h =
    let never = y.0 in absurd (omega (arith, x.0, never))
same-named a b bytes offset glyphs (inr (inr (inr x))) (inl y) glyph identifier h = let never = y.0 in absurd (omega (arith, x.0, never))
same-named a b bytes offset glyphs (inr (inr (inr x))) (inr (inl y)) glyph identifier h =
    let never = y.0 in absurd (omega (arith, x.0, never))
same-named a b bytes offset glyphs (inr (inr (inr x))) (inr (inr (inl y))) glyph identifier h =
    let never = y.0 in absurd (omega (arith, x.0, never))
same-named a b bytes offset glyphs (inr (inr (inr x))) (inr (inr (inr y))) glyph identifier h =
    same-stands a b bytes offset glyphs x.1 y.1 glyph identifier h

pub same-set : (a b : CharSetView) (bytes : List ℕ) (map : Dictionary) (glyphs : ℕ) → IsCharSetOf a bytes map glyphs →
    IsCharSetOf b bytes map glyphs → (glyph identifier : ℕ) → Names a glyph identifier → Names b glyph identifier
same-set a b bytes map glyphs x y glyph identifier h =
    let was = x.identifiers in
    let is = y.identifiers in
    let same : was.0 ≡ is.0 = one-value _ was.0 is.0 was.1 is.1 in
    let there : glyph < b.glyphs = omega (arith, h.there, x.counted, y.counted) in
    record {
      there =
          there;
      told = same-named a.identifiers b.identifiers bytes is.0 glyphs
          (subst (λ o. IsCharSetAtOffset a.identifiers bytes o glyphs) same was.2) is.2 glyph identifier h.told;
    }

pub one-first : (set : CharSetView) (identifier glyphs a b : ℕ) → IsFirstNamed set identifier glyphs a →
    IsFirstNamed set identifier glyphs b → a ≡ b
one-first set identifier glyphs a b x y =
    let above : a < b → ⊥ = λ h. y.none_before a h x.names in
    let below : b < a → ⊥ = λ h. x.none_before b h y.names in
    omega (arith, above, below)

-- what the first glyph of one set is, is that of the other
pub first-of : (a b : CharSetView) (bytes : List ℕ) (map : Dictionary) (glyphs identifier glyph : ℕ) → IsCharSetOf a bytes map glyphs →
    IsCharSetOf b bytes map glyphs →
    IsFirstNamed a identifier glyphs glyph → IsFirstNamed b identifier glyphs glyph
first-of a b bytes map glyphs identifier glyph x y first = record {
  there = first.there;
  names = same-set a b bytes map glyphs x y glyph identifier first.names;
  none_before = λ other less named. first.none_before other less (same-set b a bytes map glyphs y x other identifier named);
}

pub one-component : (font : FontView) (code a b : ℕ) → IsComponent font code a → IsComponent font code b → a ≡ b
one-component font code a b x y =
    one-first y.set (standard_identifier code) (glyphs_of font) a b
    (first-of x.set y.set font.bytes.now font.dictionary (glyphs_of font) (standard_identifier code) a x.is_set y.is_set x.first) y.first
