-- An encoding is one, and is the same where its text stands.
use Rattle.std.proofs.Common.{◌≡◌, refl, sym, ap, subst, ◌∙◌, inl, inr, ℕ, ◌+◌, ◌-◌, ◌*◌, ◌%◌, ◌≤◌, List, ◌++◌, length, length-drop, take, drop, arith}
use Rattle.std.proofs.lemmas.List.{drop-append-le, drop-drop, take-append-le}
use Rattle.postscript_base.specs.Compact1.Dictionary.{Dictionary}
use Rattle.postscript_base.specs.Index.{number_at}
use Rattle.postscript_compact1.specs.declared.encoding.Encoding.TheVariants.{Standard, Expert}
use Rattle.postscript_view.specs.Encodings.{AreCodesAt, AreSupplementsAt, IsEncodingOf, IsHeld, IsEncodingAtOffset, EncodingStandsAt}
use Rattle.postscript_view.specs.declared.encoding.Codes.{Codes}
use Rattle.postscript_view.specs.declared.encoding.Codes.TheVariants.{Predefined, Listed, Ranges}
use Rattle.postscript_view.specs.declared.encoding.EncodingView.{EncodingView}
use Rattle.postscript_write.specs.Naming.{SameCodes, SameEncoding}
use Rattle.postscript_write.specs.Texts.{TextStands}
use Rattle.postscript_write.specs.Whole.{CodesEnd, EncodingEnds, SupplementsEnd}
use Rattle.postscript_write.proofs.Endings.{behind_codes, one_some}
use Rattle.postscript_write.proofs.Standing.{stands_within}
use Rattle.postscript_write.proofs.TextsEnd.{number_there}

same_predefined : (a b codes : Codes) → a ≡ codes → b ≡ codes → SameCodes codes codes → SameCodes a b
same_predefined a b codes x y same = subst (λ d. SameCodes d b) (sym x) (subst (λ d. SameCodes codes d) (sym y) same)

-- the codes at a place are one, and end in one place
one_codes : (a b : Codes) (bytes : List ℕ) (place m n : ℕ) → AreCodesAt a bytes place m → AreCodesAt b bytes place n →
    SameCodes a b × (m ≡ n)
one_codes (Predefined e) b bytes place m n x y = absurd x
one_codes (Listed c) (Predefined e) bytes place m n x y = absurd y
one_codes (Ranges c) (Predefined e) bytes place m n x y = absurd y
one_codes (Listed c) (Listed d) bytes place m n x y = (y.1.bytes_are ∙ sym x.1.bytes_are, x.2 ∙ sym y.2)
one_codes (Ranges c) (Ranges d) bytes place m n x y = (y.1.bytes_are ∙ sym x.1.bytes_are, x.2 ∙ sym y.2)
one_codes (Listed c) (Ranges d) bytes place m n x y = let never : 0 ≡ 1 = sym x.0 ∙ y.0 in absurd (omega (arith, never))
one_codes (Ranges c) (Listed d) bytes place m n x y = let never : 1 ≡ 0 = sym x.0 ∙ y.0 in absurd (omega (arith, never))

one_supplements : (bytes : List ℕ) (format next : ℕ) (a b : List ℕ) → AreSupplementsAt bytes format next a →
    AreSupplementsAt bytes format next b → b ≡ a
one_supplements bytes format next a b (inl (low, x)) (inl (same, y)) = y ∙ sym x
one_supplements bytes format next a b (inl (low, x)) (inr (high, within, y)) = absurd (omega (arith, low, high))
one_supplements bytes format next a b (inr (high, within, x)) (inl (low, y)) = absurd (omega (arith, low, high))
one_supplements bytes format next a b (inr (high, within, x)) (inr (other, behind, y)) = y.bytes_are ∙ sym x.bytes_are

one_standing : (bytes : List ℕ) (place : ℕ) (a b : EncodingView) → EncodingStandsAt a bytes place → EncodingStandsAt b bytes place → SameEncoding a b
one_standing bytes place a b x y =
    let both = one_codes a.codes b.codes bytes place x.0 y.0 x.2 y.2 in
    record {
      codes = both.0;
      supplements = one_supplements bytes (number_at bytes place 1) x.0 a.supplements.now b.supplements.now x.3
          (subst (λ n. AreSupplementsAt bytes (number_at bytes place 1) n b.supplements.now) (sym both.1) y.3);
    }

one_named : (bytes : List ℕ) (place : ℕ) (a b : EncodingView) → IsEncodingAtOffset a bytes place → IsEncodingAtOffset b bytes place → SameEncoding a b
one_named bytes place a b (inl (x, codes, none)) (inl (y, other, nothing)) =
    record { codes = same_predefined a.codes b.codes (Predefined Standard) codes other refl; supplements = nothing ∙ sym none }
one_named bytes place a b (inr (inl (x, codes, none))) (inr (inl (y, other, nothing))) =
    record { codes = same_predefined a.codes b.codes (Predefined Expert) codes other refl; supplements = nothing ∙ sym none }
one_named bytes place a b (inr (inr (most, x))) (inr (inr (same, y))) = one_standing bytes place a b x y
one_named bytes place a b (inl (x, codes, none)) (inr (inl (y, other, nothing))) = absurd (omega (arith, x, y))
one_named bytes place a b (inl (x, codes, none)) (inr (inr (most, y))) = absurd (omega (arith, x, most))
one_named bytes place a b (inr (inl (x, codes, none))) (inl (y, other, nothing)) = absurd (omega (arith, x, y))
one_named bytes place a b (inr (inl (x, codes, none))) (inr (inr (most, y))) = absurd (omega (arith, x, most))
one_named bytes place a b (inr (inr (most, x))) (inl (y, other, nothing)) = absurd (omega (arith, y, most))
one_named bytes place a b (inr (inr (most, x))) (inr (inl (y, other, nothing))) = absurd (omega (arith, y, most))

-- a dictionary names one encoding
pub one_encoding : (bytes : List ℕ) (map : Dictionary) (a b : EncodingView) → IsEncodingOf a bytes map → IsEncodingOf b bytes map →
    SameEncoding a b
one_encoding bytes map a b x y =
    let same = one_some y.1 x.1 in
    one_named bytes x.0 a b x.2 (subst (λ n. IsEncodingAtOffset b bytes n) same y.2)

module _ (text bytes out : List ℕ) (place at : ℕ) (was : TextStands text bytes place) (is : TextStands text out at) where
  same_number : (k size m n : ℕ) → k + size ≤ length text → m ≡ at + k → n ≡ place + k → number_at out m size ≡ number_at bytes n size
  same_number k size m n within here there =
      number_there text out at k size m is within here ∙ sym (number_there text bytes place k size n was within there)

  slice_there : (all : List ℕ) (start k size m : ℕ) → TextStands text all start → k + size ≤ length text → m ≡ start + k →
      take size (drop m all) ≡ take size (drop k text)
  slice_there all start k size m stands within is =
      let behind : List ℕ = stands.behind in
      let past : drop m all ≡ drop k text ++ behind =
      ap (λ n. drop n all) is ∙ sym (drop-drop k start all) ∙ ap (drop k) stands.there
      ∙ drop-append-le k text behind (omega (arith, within)) in
      ap (take size) past ∙ take-append-le size (drop k text) behind (omega (arith, within, length-drop k text))

  held : (k size other m n : ℕ) (bs : List ℕ) → k + size ≤ length text → other ≡ size → m ≡ at + k → n ≡ place + k →
      IsHeld bytes n size bs → IsHeld out m other bs
  held k size other m n bs within same here there h = record {
    within = omega (arith, within, same, here, stands_within text is);
    bytes_are = h.bytes_are ∙ slice_there bytes place k size n was within there ∙ sym (slice_there out at k size m is within here)
        ∙ ap (λ j. take j (drop m out)) (sym same);
  }

  codes_kept : (codes : Codes) (k : ℕ) → k ≤ length text → AreCodesAt codes bytes place (place + k) → AreCodesAt codes out at (at + k)
  codes_kept (Predefined e) k within x = absurd x
  codes_kept (Listed c) k within x =
      let next = x.2 in
      let first = same_number 0 1 at place (omega (arith, within, next)) (omega arith) (omega arith) in
      let second = same_number 1 1 (at + 1) (place + 1) (omega (arith, within, next)) refl refl in (
        ap (λ n. n % 128) first ∙ x.0,
        held 2 (number_at bytes (place + 1) 1) (number_at out (at + 1) 1) (at + 2) (place + 2) c.now
            (omega (arith, within, next)) second refl refl x.1,
        omega (arith, next, second),
      )
  codes_kept (Ranges c) k within x =
      let next = x.2 in
      let first = same_number 0 1 at place (omega (arith, within, next)) (omega arith) (omega arith) in
      let second = same_number 1 1 (at + 1) (place + 1) (omega (arith, within, next)) refl refl in (
        ap (λ n. n % 128) first ∙ x.0,
        held 2 (2 * number_at bytes (place + 1) 1) (2 * number_at out (at + 1) 1) (at + 2) (place + 2) c.now (omega (arith, within, next))
            (ap (λ n. 2 * n) second) refl refl x.1,
        omega (arith, next, second),
      )

  supplements_kept : (format k : ℕ) (bs : List ℕ) → SupplementsEnd bytes format (place + k) (place + length text) →
      AreSupplementsAt bytes format (place + k) bs → AreSupplementsAt out format (at + k) bs
  supplements_kept format k bs ends (inl (low, nothing)) = inl (low, nothing)
  supplements_kept format k bs (inl (low, end)) (inr (high, within, x)) = absurd (omega (arith, low, high))
  supplements_kept format k bs (inr (high, end)) (inr (other, within, x)) =
      let count = same_number k 1 (at + k) (place + k) (omega (arith, end)) refl refl in
      let past = stands_within text is in
      inr (
        high,
        omega (arith, past, end),
        held (k + 1) (3 * number_at bytes (place + k) 1) (3 * number_at out (at + k) 1) (at + k + 1) (place + k + 1) bs (omega (arith, end))
            (ap (λ n. 3 * n) count) (omega arith) (omega arith) x,
      )

  one_end : (codes : Codes) (m n : ℕ) → AreCodesAt codes bytes place m → CodesEnd bytes place n → m ≡ n
  one_end (Predefined e) m n x y = absurd x
  one_end (Listed c) m n x (inl (format, y)) = x.2 ∙ sym y
  one_end (Ranges c) m n x (inr (format, y)) = x.2 ∙ sym y
  one_end (Listed c) m n x (inr (format, y)) = let never : 0 ≡ 1 = sym x.0 ∙ format in absurd (omega (arith, never))
  one_end (Ranges c) m n x (inl (format, y)) = let never : 1 ≡ 0 = sym x.0 ∙ format in absurd (omega (arith, never))

  past_first : (n : ℕ) → CodesEnd bytes place n → place + 2 ≤ n
  past_first n (inl (format, y)) = omega (arith, y)
  past_first n (inr (format, y)) = omega (arith, y)

  -- an encoding that stands in other bytes stands where its text does
  pub standing_kept : (encoding : EncodingView) → EncodingEnds bytes place (place + length text) → EncodingStandsAt encoding bytes place →
      EncodingStandsAt encoding out at
  standing_kept encoding ends x =
      let same = one_end encoding.codes x.0 ends.0 x.2 ends.1 in
      let past = past_first ends.0 ends.1 in
      let most = behind_codes bytes (number_at bytes place 1) ends.0 (place + length text) ends.2 in
      let k : ℕ = ends.0 - place in
      let there : ends.0 ≡ place + k = omega (arith, past) in
      let first = same_number 0 1 at place (omega (arith, past, most)) (omega arith) (omega arith) in
      let within = stands_within text is in (
        at + k,
        omega (arith, within, past, most),
        codes_kept encoding.codes k (omega (arith, there, most)) (subst (λ n. AreCodesAt encoding.codes bytes place n) (same ∙ there) x.2),
        subst (λ f. AreSupplementsAt out f (at + k) encoding.supplements.now) (sym first)
            (supplements_kept (number_at bytes place 1) k encoding.supplements.now
            (subst (λ n. SupplementsEnd bytes (number_at bytes place 1) n (place + length text)) there ends.2)
            (subst (λ n. AreSupplementsAt bytes (number_at bytes place 1) n encoding.supplements.now) (same ∙ there) x.3)),
      )
