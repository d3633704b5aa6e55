-- Identifiers that are listed of glyphs.
use Rattle.std.proofs.Common.{◌≡◌, refl, sym, subst, inl, ℕ, ◌+◌, ◌-◌, ◌≤◌, ◌<◌, ◌^◌, List, [], ◌∷◌, ◌++◌, length, get_or, Option, Some, None, Bool, true, false, arith}
use Rattle.std.specs.Prelude.{IsSome}
use Rattle.postscript_base.specs.Compact1.Dictionary.{Dictionary}
use Rattle.postscript_view.specs.CharSets.{IsCharSetOf}
use Rattle.postscript_view.specs.Naming.{Names}
use Rattle.postscript_view.specs.declared.char_set.CharSetView.{CharSetView}
use Rattle.postscript_write.specs.Glyphs.{AreGlyphs, IsGlyph, Sources}
use Rattle.postscript_write.specs.Identified.{AreIdentified, AreRenewed, AreSourcesFor, Identifiers, IsNamedSource}
use Rattle.postscript_write.specs.Numbered.{AreFew}
use Rattle.postscript_write.specs.RefusedGlyphs.{IsNamed}
use Rattle.postscript_write.proofs.Agree.{one_more}

-- each so far is named so, in two bytes
abbrev pub AreTold : CharSetView → Sources → List ℕ → (count : ℕ) → Type 0
AreTold set sources identifiers count =
    (k : ℕ) → k < count → IsNamedSource set (get_or sources (k + 1) None) (get_or identifiers k 0) × (get_or identifiers k 0 < 65536)

named_source : (set : CharSetView) (source : Option ℕ) (identifier : ℕ) → IsSome source →
    ((glyph : ℕ) → source ≡ Some glyph → Names set glyph identifier) → IsNamedSource set source identifier
named_source set None identifier some names = absurd (cc)
named_source set (Some glyph) identifier some names = (glyph, refl, names glyph refl)

pub one_more_told : (set : CharSetView) (sources : Sources) (identifiers more : List ℕ) (identifier i : ℕ) → 1 ≤ i → i < length sources →
    AreRenewed sources → length identifiers ≡ i - 1 → more ≡ identifiers ++ identifier ∷ [] →
    ((glyph : ℕ) → get_or sources i None ≡ Some glyph → Names set glyph identifier) → identifier < 65536 → AreTold set sources identifiers
    (i - 1) → AreTold set sources more (i + 1 - 1)
one_more_told set sources identifiers more identifier i past less renewed many is names low told =
    let at : i - 1 + 1 ≡ i = omega (arith, past) in
    let end : i - 1 + 1 ≡ i + 1 - 1 = omega (arith, past) in
    let own : IsNamedSource set (get_or sources (i - 1 + 1) None) identifier = subst
    (λ n. IsNamedSource set (get_or sources n None) identifier) (sym at)
    (named_source set (get_or sources i None) identifier (renewed.each i less) names) in
    subst (λ n. AreTold set sources more n) end
    (one_more 0 (λ k x. IsNamedSource set (get_or sources (k + 1) None) x × (x < 65536)) identifiers more identifier (i - 1) many is
    (own, low) told)

-- the glyphs so far are named
pub named_before : (set : CharSetView) (sources : Sources) (identifiers : List ℕ) (i : ℕ) → AreTold set sources identifiers (i - 1) →
    (k : ℕ) → 0 < k → k < i → IsNamed set (get_or sources k None)
named_before set sources identifiers i told k some less =
    let at : k - 1 + 1 ≡ k = omega (arith, some) in
    let one : IsNamedSource set (get_or sources k None) (get_or identifiers (k - 1) 0) = subst
    (λ n. IsNamedSource set (get_or sources n None) (get_or identifiers (k - 1) 0)) at (told (k - 1) (omega (arith, some, less))).0 in
    (one.0, get_or identifiers (k - 1) 0, one.1, one.2)

pub identified : (set : CharSetView) (bytes : List ℕ) (map : Dictionary) (glyphs : ℕ) (sources : Sources) (identifiers : List ℕ) (i : ℕ) →
    IsCharSetOf set bytes map glyphs → AreRenewed sources → AreGlyphs sources glyphs → length sources ≤ i → i ≤ length sources → 1 ≤ i →
    length identifiers ≡ i - 1 → AreTold set sources identifiers (i - 1) → AreIdentified set sources identifiers
identified set bytes map glyphs sources identifiers i is renewed there low high past many told = record {
  many = omega (arith, low, high, past, many);
  first = (0, renewed.first renewed.some, record { there = omega (arith, counted, some_glyph); told = inl (refl, refl) });
  each = λ k less. (told k (omega (arith, less, many))).0;
  low = λ k less. (told k (omega (arith, less, many))).1;
}
  where
    counted : set.glyphs ≡ glyphs
    counted = is.counted

    some_glyph : 0 < glyphs
    some_glyph = subst (λ source. IsGlyph source glyphs) (renewed.first renewed.some) (there 0 renewed.some)

-- as many as glyphs, of which there are few
pub few_for : (kept : Bool) (set : CharSetView) (glyphs : ℕ) (sources : Sources) (identifiers : Identifiers) →
    AreSourcesFor kept set glyphs sources identifiers → length sources < 2 ^ 16 → AreFew identifiers
few_for kept set glyphs sources None of few = tt
few_for true set glyphs sources (Some identifiers) of few = absurd of
few_for false set glyphs sources (Some identifiers) of few = let many = of.many in omega (arith, many, few)
