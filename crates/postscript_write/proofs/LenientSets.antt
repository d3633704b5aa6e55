-- Encodings and char sets that whole fonts are read with stay such, where they are written.
use Rattle.std.proofs.Common.{◌≡◌, refl, sym, ap, subst, ◌∙◌, inl, inr, ℕ, pos, ℤ, negsuc, ◌+◌, ◌<◌, ◌≤◌, ◌^◌, List, length, Option, Some, None, Bool, true, false, Vec, arith}
use Rattle.std.specs.Option.{option_and_then}
use Rattle.std.specs.declared.alloc.Global.{Global}
use Rattle.std.proofs.lemmas.List.{length-map}
use Rattle.std.proofs.lemmas.Option.{none-some, same_Some}
use Rattle.postscript_base.specs.Compact1.Decimal.{Decimal, to_i32}
use Rattle.postscript_base.specs.Compact1.Defaults.{first_of, look}
use Rattle.postscript_base.specs.Compact1.Dictionary.{Dictionary}
use Rattle.postscript_base.specs.declared.compact1.operator.Operator.{Operator}
use Rattle.postscript_base.specs.declared.compact1.operator.Operator.TheVariants as operators
use Rattle.postscript_compact1.specs.CharSetAt.{IsCharSet}
use Rattle.postscript_compact1.specs.FontSet.Parts.{HasCharSet, HasEncoding, HasFirst, Is_0, Is_1, Is_2, Own}
use Rattle.postscript_compact1.specs.declared.char_set.CharSet.{CharSet}
use Rattle.postscript_compact1.specs.declared.encoding.Encoding.{Encoding}
use Rattle.postscript_compact1.specs.declared.encoding.Encoding.TheVariants.{Expert, Standard}
use Rattle.postscript_view.specs.Encodings.{AreCodesAt, IsEncodingOf}
use Rattle.postscript_view.specs.Select.{offset_from, offset_of}
use Rattle.postscript_view.specs.declared.encoding.Codes.{Codes}
use Rattle.postscript_view.specs.declared.encoding.Codes.TheVariants.{Listed, Predefined, Ranges}
use Rattle.postscript_view.specs.declared.encoding.EncodingView.{EncodingView}
use Rattle.postscript_write.specs.Naming.{SameCodes, codes_for}
use Rattle.postscript_write.specs.Numbered.{IsSetFor, items_if}
use Rattle.postscript_write.specs.Own.{IsOwnCharSet}
use Rattle.postscript_write.specs.ReadBack.{HasCharSetText, HasCodes}
use Rattle.postscript_write.specs.Renumbered.{new_identifier, new_identifiers}
use Rattle.postscript_write.specs.Texts.{TextStands}
use Rattle.postscript_write.specs.Whole.{CharSetEnds}
use Rattle.postscript_write.specs.declared.strings.Strings.{Strings}
use Rattle.postscript_write.proofs.Arranged.{one_first}
use Rattle.postscript_write.proofs.StrictCharSet.{strict_moved}
use Rattle.postscript_write.proofs.TextsCut.{cut_length, cut_stands}

pub offset_first : (map : Dictionary) (operator : Operator) (n : ℕ) → offset_of map operator ≡ Some n → HasFirst map operator (pos n)
unfolding offset_of
offset_first map operator n e = by (first_of (look map operator)) refl e
  where
    value : (x : Decimal) (z : Option ℤ) → to_i32 x ≡ z → offset_from z ≡ Some n → to_i32 x ≡ Some (pos n)
    value x None g e = absurd (none-some n e)
    value x (Some (pos m)) g e = g ∙ ap (λ k. Some (pos k)) (same_Some m n e)
    value x (Some (negsuc m)) g e = absurd (none-some n e)

    by : (o : Option Decimal) → first_of (look map operator) ≡ o → offset_from (option_and_then to_i32 o) ≡ Some n →
        HasFirst map operator (pos n)
    by None f e = absurd (none-some n e)
    by (Some x) f e = (x, f, value x (to_i32 x) refl e)

-- a predefined encoding
codes_are : (e : Encoding) (encoding : EncodingView) (bytes : List ℕ) (map : Dictionary) → HasEncoding map e →
    IsEncodingOf encoding bytes map → encoding.codes ≡ Predefined e
codes_are e encoding bytes map (inl (first, is)) (offset, named, by) =
    let same : offset ≡ 0 = one_first map operators.Encoding offset 0 (offset_first map operators.Encoding offset named) first in
    elim by [
      | inl zero ↦ zero.1 ∙ ap Predefined (sym is)
      | inr more ↦ elim more [
        | inl one ↦ absurd (let other = one.0 in omega (arith, same, other))
        | inr own ↦ absurd (let past = own.0 in omega (arith, same, past))
      ]
    ]
codes_are e encoding bytes map (inr (first, is)) (offset, named, by) =
    let same : offset ≡ 1 = one_first map operators.Encoding offset 1 (offset_first map operators.Encoding offset named) first in
    elim by [
      | inl zero ↦ absurd (let other = zero.0 in omega (arith, same, other))
      | inr more ↦ elim more [
        | inl one ↦ one.1 ∙ ap Predefined (sym is)
        | inr own ↦ absurd (let past = own.0 in omega (arith, same, past))
      ]
    ]

same_one : (e f : Encoding) → Predefined f ≡ Predefined e → e ≡ f
same_one e f is = cc

encoding_from : (e : Encoding) (encoding : EncodingView) (bytes : List ℕ) (map : Dictionary) → IsEncodingOf encoding bytes map →
    encoding.codes ≡ Predefined e → HasEncoding map e
encoding_from e encoding bytes map (offset, named, inl (zero, codes, none)) is =
    inl (
      subst (λ n. HasFirst map operators.Encoding (pos n)) zero (offset_first map operators.Encoding offset named),
      same_one e Standard
          (sym codes ∙ is),
    )
encoding_from e encoding bytes map (offset, named, inr (inl (one, codes, none))) is =
    inr (
      subst (λ n. HasFirst map operators.Encoding (pos n)) one (offset_first map operators.Encoding offset named),
      same_one e Expert
          (sym codes ∙ is),
    )
encoding_from e encoding bytes map (offset, named, inr (inr own)) is = absurd (subst (λ c. AreCodesAt c bytes offset own.1.0) is own.1.2)

alike : (e : Encoding) (codes : Codes) → SameCodes (Predefined e) codes → codes ≡ Predefined e
alike e (Predefined other) same = ap Predefined same
alike e (Listed codes) same = absurd same
alike e (Ranges ranges) same = absurd same

pub encoding_stays : (kept : Bool) (e : Encoding) (old : EncodingView) (bytes flat : List ℕ) (was map : Dictionary) →
    HasEncoding was e → IsEncodingOf old bytes was → HasCodes kept old flat map → HasEncoding map e
encoding_stays true e old bytes flat was map has is codes =
    encoding_from e codes.encoding flat map codes.is
    (alike e codes.encoding.codes (subst (λ c. SameCodes c codes.encoding.codes) (codes_are e old bytes was has is)
    (codes.same codes.encoding codes.is).codes))
encoding_stays false e old bytes flat was map has is codes =
    encoding_from e codes.encoding flat map codes.is (codes.same codes.encoding codes.is ∙ ap codes_for (codes_are e old bytes was has is))

-- a char set of the font's own
own_set : (bytes : List ℕ) (glyphs place : ℕ) (map : Dictionary) (set : CharSet) → HasFirst map operators.CharSet (pos place) →
    3 ≤ place → HasCharSet bytes 0 glyphs map set → (next : ℕ) × IsCharSet bytes place glyphs set next
own_set bytes glyphs place map set named past (Is_0 first is) =
    absurd (omega (arith, past, one_first map operators.CharSet place 0 named first))
own_set bytes glyphs place map set named past (Is_1 first is) =
    absurd (omega (arith, past, one_first map operators.CharSet place 1 named first))
own_set bytes glyphs place map set named past (Is_2 first is) =
    absurd (omega (arith, past, one_first map operators.CharSet place 2 named first))
own_set bytes glyphs place map set named past (Own offset next first late in_64 stands) =
    let same : 0 + offset ≡ place = omega (arith, one_first map operators.CharSet offset place first named) in
    (next, subst (λ p. IsCharSet bytes p glyphs set next) same stands)

-- a predefined one
predefined_stays : (bytes out : List ℕ) (glyphs offset : ℕ) (old new : Dictionary) (set : CharSet) →
    HasFirst old operators.CharSet (pos offset) → offset < 3 → look new operators.CharSet ≡ look old operators.CharSet →
    HasCharSet bytes 0 glyphs old set → HasCharSet out 0 glyphs new set
predefined_stays bytes out glyphs offset old new set named low same (Is_0 first is) = Is_0 (first.0, ap first_of same ∙ first.1, first.2) is
predefined_stays bytes out glyphs offset old new set named low same (Is_1 first is) = Is_1 (first.0, ap first_of same ∙ first.1, first.2) is
predefined_stays bytes out glyphs offset old new set named low same (Is_2 first is) = Is_2 (first.0, ap first_of same ∙ first.1, first.2) is
predefined_stays bytes out glyphs offset old new set named low same (Own other next first late in_64 stands) =
    absurd (omega (arith, low, late, one_first old operators.CharSet offset other named first))

-- a set that stands where the new dictionary names it
named_there : (out : List ℕ) (place glyphs : ℕ) (new : Dictionary) (set : CharSet) (next : ℕ) →
    offset_of new operators.CharSet ≡ Some place → 3 ≤ place → place < 2 ^ 31 → IsCharSet out place glyphs set next →
    HasCharSet out 0 glyphs new set
named_there out place glyphs new set next named past low stands =
    let on : place ≡ 0 + place = omega arith in
    Own place next (offset_first new operators.CharSet place named) past (omega (arith, low))
    (subst (λ p. IsCharSet out p glyphs set next) on stands)

pub set_kept : (bytes out : List ℕ) (glyphs : ℕ) (old new : Dictionary) (text : Option (Vec ℕ Global)) (set : CharSet) →
    IsOwnCharSet bytes old glyphs (items_if text) → HasCharSetText old text out new →
    HasCharSet bytes 0 glyphs old set → (other : CharSet) × HasCharSet out 0 glyphs new other
set_kept bytes out glyphs old new None set (offset, e, low) same has =
    (set, predefined_stays bytes out glyphs offset old new set (offset_first old operators.CharSet offset e) low same has)
set_kept bytes out glyphs old new (Some text) set (place, next, e, high, ends, cut) (to, named, past, low, stands) has =
    let was = own_set bytes glyphs place old set (offset_first old operators.CharSet place e) high has in
    let long : next ≡ place + length text.items = sym (cut_length bytes place next cut.order cut.within) ∙ ap
    (λ (xs : List ℕ). place + length xs) (sym cut.is) in
    let there : TextStands text.items bytes place = subst (λ (xs : List ℕ). TextStands xs bytes place) (sym cut.is)
    (cut_stands bytes place next cut.order cut.within) in
    let moved = strict_moved bytes out text.items place to glyphs was.0 set there
    (subst (CharSetEnds bytes glyphs place) long ends) stands was.1 in
    (set, named_there out to glyphs new set moved.0 named past low moved.1)

pub set_listed : (out : List ℕ) (glyphs : ℕ) (old new : Dictionary) (text : Option (Vec ℕ Global)) (strings : Strings)
    (identifiers : List ℕ) → IsSetFor strings identifiers (items_if text) → glyphs ≡ 1 + length identifiers →
    HasCharSetText old text out new → (other : CharSet) × HasCharSet out 0 glyphs new other
set_listed out glyphs old new None strings identifiers listed many stands = absurd (none-some _ listed.1)
set_listed out glyphs old new (Some text) strings identifiers listed many (to, named, past, low, stands) =
    let is : text.items ≡ listed.0 = same_Some _ _ listed.1 in
    let set = listed.2.strict out to (subst (λ (xs : List ℕ). TextStands xs out to) is stands) in
    let count : 1 + length (new_identifiers strings identifiers) ≡ glyphs =
    omega (arith, many, length-map identifiers (new_identifier strings)) in
    (set.0, named_there out to glyphs new set.0 set.1 named past low (subst (λ n. IsCharSet out to n set.0 set.1) count set.2))
