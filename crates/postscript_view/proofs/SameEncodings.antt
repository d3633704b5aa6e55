-- Where an encoding is named that a font set reads, the same is answered in place.
use Rattle.std.proofs.Common.{◌≡◌, refl, ◌∙◌, sym, ap, subst, inl, inr, ℕ, pos, List, [], Bor, arith}
use Rattle.std.specs.Prelude.{Result, Ok, Err, IfOk, IfErr, MatchResult}
use Rattle.postscript_base.specs.Compact1.Dictionary.{Dictionary}
use Rattle.postscript_base.specs.declared.compact1.operator.Operator.TheVariants as operators
use Rattle.postscript_base.specs.declared.error.Error.{Error}
use Rattle.postscript_compact1.specs.FontSet.Parts.{HasFirst, HasEncoding}
use Rattle.postscript_compact1.specs.declared.encoding.Encoding.{Encoding}
use Rattle.postscript_view.specs.Encodings.{IsEncodingOf, IsEncodingAtOffset}
use Rattle.postscript_view.specs.SameEncoding.{IsSameEncoding}
use Rattle.postscript_view.specs.declared.encoding.Codes.TheVariants.{Predefined}
use Rattle.postscript_view.specs.declared.encoding.EncodingView.{EncodingView}
use Rattle.postscript_view.proofs.SameSets.{offset_is}

named : (view : EncodingView) (bytes : List ℕ) (map : Dictionary) (offset : ℕ) → HasFirst map operators.Encoding (pos offset) →
    IsEncodingOf view bytes map → IsEncodingAtOffset view bytes offset
named view bytes map offset first h =
    let is = offset_is map operators.Encoding offset first in
    let other = h.1 in
    let same : h.0 ≡ offset = cc in
    subst (λ o. IsEncodingAtOffset view bytes o) same h.2

same_encoding : (view : EncodingView) (bytes : List ℕ) (map : Dictionary) (encoding : Encoding) → IsEncodingOf view bytes map →
    HasEncoding map encoding → IsSameEncoding encoding view
same_encoding view bytes map encoding h (inl standard) = elim (named view bytes map 0 standard.0 h) [
  | inl is ↦ (is.1 ∙ ap (λ e. Predefined e) (sym standard.1), is.2)
  | inr more ↦ elim more [
    | inl expert ↦ absurd (omega (arith, expert.0))
    | inr own ↦ absurd (omega (arith, own.0))
  ]
]
same_encoding view bytes map encoding h (inr expert) = elim (named view bytes map 1 expert.0 h) [
  | inl is ↦ absurd (omega (arith, is.0))
  | inr more ↦ elim more [
    | inl is ↦ (is.1 ∙ ap (λ e. Predefined e) (sym expert.1), is.2)
    | inr own ↦ absurd (omega (arith, own.0))
  ]
]

abbrev predefined : (bytes : Bor (List ℕ)) (encoding : Encoding) → EncodingView
predefined bytes encoding = record { codes = Predefined encoding; supplements = record { ref_ptr = bytes.ref_ptr; now = [] } }

has_view : (bytes : Bor (List ℕ)) (map : Dictionary) (encoding : Encoding) → HasEncoding map encoding →
    (view : EncodingView) × IsEncodingOf view bytes.now map
has_view bytes map encoding (inl standard) =
    (predefined bytes encoding, (0, offset_is map operators.Encoding 0 standard.0, inl (refl, ap (λ e. Predefined e) standard.1, refl)))
has_view bytes map encoding (inr expert) =
    (predefined bytes encoding, (1, offset_is map operators.Encoding 1 expert.0, inr (inl (refl, ap (λ e. Predefined e) expert.1, refl))))

pub tied : (r : Result EncodingView Error) (bytes : Bor (List ℕ)) (map : Dictionary) → IfOk r (λ view. IsEncodingOf view bytes.now map) →
    IfErr r (λ e. (view : EncodingView) → IsEncodingOf view bytes.now map → ⊥)
    → MatchResult r (λ view. (encoding : Encoding) → HasEncoding map encoding → IsSameEncoding encoding view)
    (λ e. (encoding : Encoding) → HasEncoding map encoding → ⊥)
tied (Ok view) bytes map found none = λ encoding has. same_encoding view bytes.now map encoding found has
tied (Err e) bytes map found none = λ encoding has. let view = has_view bytes map encoding has in none view.0 view.1
