-- The Font DICTs of glyphs, in FDSelect.
use Rattle.std.proofs.Common.{◌≡◌, sym, ap, subst, ◌∙◌, inl, inr, ℕ, ◌+◌, List, [], ◌∷◌, ◌++◌, length-append, Option, Some, None, slice_get, rules, arith}
use Rattle.std.specs.Prelude.{IfNone, IfSome, IsSome}
use Rattle.postscript_cff2.proofs.Uniqueness.{one_number}
use Rattle.postscript_cff2.specs.Parts.{HasNumber}
use Rattle.postscript_cff2.specs.Shown.{view_shown}
use Rattle.postscript_cff2.specs.declared.font.Font.{Font}
use Rattle.postscript_instance.specs.Encoded.{HasFontDict, IsSelectText}
use Rattle.postscript_instance.proofs.Codes.{either, last, stays}

pub has-number : (font : Font) (glyph : ℕ) (found : Option ℕ) →
    IfNone found ((number : ℕ) → HasNumber font.bytes.now (view_shown font) glyph number → ⊥) → (number : ℕ) × HasFontDict font glyph number →
    IsSome found
has-number font glyph None never has = absurd (never has.0 has.1.0)
has-number font glyph (Some n) never has = search rules

pub is-number : (font : Font) (glyph : ℕ) (found : Option ℕ) (n : ℕ) → found ≡ Some n →
    IfSome found (λ number. HasNumber font.bytes.now (view_shown font) glyph number) → (number : ℕ) × HasFontDict font glyph number →
    HasFontDict font glyph n
is-number font glyph None n is found has = absurd (cc)
is-number font glyph (Some k) n is found has =
    let own : k ≡ n = cc in
    let same : has.0 ≡ n = one_number font.bytes.now (view_shown font) glyph has.0 k has.1.0 found ∙ own in
    subst (HasFontDict font glyph) same has.1

-- one more glyph in FDSelect
pub select-more : (font : Font) (glyph : ℕ) (old new : List ℕ) (number : ℕ) → IsSelectText font glyph old → new ≡ old ++ number ∷ [] →
    HasFontDict font glyph number → IsSelectText font (glyph + 1) new
select-more font glyph old new number is more has =
    let counted = is.counted in
    record {
      numbers = is.numbers ++ number ∷ [];
      is = more ∙ ap (λ t. t ++ number ∷ []) is.is;
      counted = omega (arith, counted, length-append is.numbers (number ∷ []));
      each = λ g less. elim (either g glyph less) [
        | inl before ↦ (
            let one = is.each g before in (one.0, stays is.numbers number g (omega (arith, before, counted)) ∙ one.1, one.2)
            )
        | inr same ↦ (
          number,
          ap (slice_get (is.numbers ++ number ∷ [])) (same ∙ sym counted) ∙ last is.numbers number,
          subst (λ k. HasFontDict font k number) (sym same) has,
        )
      ];
    }
