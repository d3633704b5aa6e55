-- The encoding of a font's own stands within its bytes.
use Rattle.std.proofs.Common.{◌≡◌, refl, subst, ℕ, ◌+◌, ◌*◌, ◌≤◌, List, length, inl, inr, Some, arith}
use Rattle.postscript_base.specs.Compact1.Dictionary.{Dictionary}
use Rattle.postscript_base.specs.declared.compact1.operator.Operator.TheVariants as operators
use Rattle.postscript_base.specs.Index.{number_at}
use Rattle.postscript_view.specs.Encodings.{AreCodesAt, AreSupplementsAt, IsEncodingOf, IsEncodingAtOffset}
use Rattle.postscript_view.specs.Select.{offset_of}
use Rattle.postscript_view.specs.declared.encoding.Codes.{Codes}
use Rattle.postscript_view.specs.declared.encoding.Codes.TheVariants.{Predefined, Listed, Ranges}
use Rattle.postscript_view.specs.declared.encoding.EncodingView.{EncodingView}
use Rattle.postscript_write.specs.Whole.{CodesEnd, EncodingEnds}
use Rattle.postscript_write.proofs.Endings.{one_some}

-- an encoding ends behind its place, and within the bytes
pub record EndsWithin (bytes : List ℕ) (place : ℕ) : Type 0 where
  pub next : ℕ
  pub ends : EncodingEnds bytes place next
  pub order : place ≤ next
  pub within : next ≤ length bytes

record CodesWithin (bytes : List ℕ) (place codes : ℕ) : Type 0 where
  end : CodesEnd bytes place codes
  order : place ≤ codes
  within : codes ≤ length bytes

codes_within : (codes : Codes) (bytes : List ℕ) (place next : ℕ) → AreCodesAt codes bytes place next → CodesWithin bytes place next
codes_within (Predefined encoding) bytes place next are = absurd are
codes_within (Listed codes) bytes place next (format, held, is) =
    let within = held.within in
    record { end = inl (format, is); order = omega (arith, is); within = omega (arith, is, within) }
codes_within (Ranges ranges) bytes place next (format, held, is) =
    let within = held.within in
    record { end = inr (format, is); order = omega (arith, is); within = omega (arith, is, within) }

encoding_within : (bytes supplements : List ℕ) (place codes : ℕ) → CodesWithin bytes place codes →
    AreSupplementsAt bytes (number_at bytes place 1) codes supplements → EndsWithin bytes place
encoding_within bytes supplements place codes are (inl (low, none)) = record {
  next = codes;
  ends = (codes, are.end, inl (low, refl));
  order = are.order;
  within = are.within;
}
encoding_within bytes supplements place codes are (inr (high, there, held)) =
    let within = held.within in
    let order = are.order in
    record {
      next = codes + 1 + 3 * number_at bytes codes 1;
      ends = (codes, are.end, inr (high, refl));
      order = omega (arith, order);
      within = omega (arith, within);
    }

named_within : (encoding : EncodingView) (bytes : List ℕ) (offset : ℕ) → 2 ≤ offset → IsEncodingAtOffset encoding bytes offset →
    EndsWithin bytes offset
named_within encoding bytes offset own (inl (is, codes, none)) = absurd (omega (arith, own, is))
named_within encoding bytes offset own (inr (inl (is, codes, none))) = absurd (omega (arith, own, is))
named_within encoding bytes offset own (inr (inr (least, is))) =
    encoding_within bytes encoding.supplements.now offset is.0 (codes_within encoding.codes bytes offset is.0 is.2) is.3

pub own_encoding_within : (encoding : EncodingView) (bytes : List ℕ) (map : Dictionary) (place : ℕ) →
    offset_of map operators.Encoding ≡ Some place → 2 ≤ place → IsEncodingOf encoding bytes map → EndsWithin bytes place
own_encoding_within encoding bytes map place named own (offset, is, by) =
    subst (λ n. EndsWithin bytes n) (one_some is named) (named_within encoding bytes offset (omega (arith, own, one_some is named)) by)
