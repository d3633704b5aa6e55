-- A part of a font's own, cut out of its bytes, ends where its text does.
use Rattle.std.proofs.Common.{◌≡◌, refl, sym, ap, subst, ◌∙◌, inl, inr, ℕ, zero, suc, ◌+◌, ◌-◌, ◌*◌, ◌%◌, ◌≤◌, List, ◌++◌, length, length-drop, length-take, take, drop, take-append-drop, add-one, arith}
use Rattle.std.proofs.lemmas.List.{drop-append-le, drop-drop}
use Rattle.postscript_base.specs.Index.{number_at}
use Rattle.postscript_view.specs.CharSet.{covered, more_of}
use Rattle.postscript_view.proofs.Covering.{covered_more, covered_none}
use Rattle.postscript_write.specs.Texts.{TextStands}
use Rattle.postscript_write.specs.Whole.{CharSetEnds, CodesEnd, EncodingEnds, RangesEnd, SupplementsEnd}
use Rattle.postscript_write.proofs.Endings.{behind_codes}
use Rattle.postscript_write.proofs.TextsEnd.{number_there}

-- bytes from one place to another stand at the first
pub cut_stands : (bytes : List ℕ) (place next : ℕ) → place ≤ next → next ≤ length bytes →
    TextStands (take (next - place) (drop place bytes)) bytes place
cut_stands bytes place next past within = record {
  within = omega (arith, past, within);
  behind = drop (next - place) (drop place bytes);
  there = sym (take-append-drop (next - place) (drop place bytes));
}

pub cut_length : (bytes : List ℕ) (place next : ℕ) → place ≤ next → next ≤ length bytes →
    place + length (take (next - place) (drop place bytes)) ≡ next
cut_length bytes place next past within =
    omega (arith, past, within, length-take (next - place) (drop place bytes), length-drop place bytes)

codes_cut : (text bytes : List ℕ) (place codes : ℕ) → TextStands text bytes place → place + codes ≤ place + length text →
    CodesEnd bytes place (place + codes) → CodesEnd text 0 codes
codes_cut text bytes place codes stands within (inl (format, is)) =
    let first = number_there text bytes place 0 1 place stands (omega (arith, within, is)) (omega arith) in
    let second = number_there text bytes place 1 1 (place + 1) stands (omega (arith, within, is)) refl in
    inl (ap (λ n. n % 128) (sym first) ∙ format, omega (arith, is, second))
codes_cut text bytes place codes stands within (inr (format, is)) =
    let first = number_there text bytes place 0 1 place stands (omega (arith, within, is)) (omega arith) in
    let second = number_there text bytes place 1 1 (place + 1) stands (omega (arith, within, is)) refl in
    inr (ap (λ n. n % 128) (sym first) ∙ format, omega (arith, is, second))

supplements_cut : (text bytes : List ℕ) (place format codes : ℕ) → TextStands text bytes place → SupplementsEnd bytes format (place + codes)
    (place + length text) → SupplementsEnd text format codes (length text)
supplements_cut text bytes place format codes stands (inl (low, is)) = inl (low, omega (arith, is))
supplements_cut text bytes place format codes stands (inr (high, is)) =
    let count = number_there text bytes place codes 1 (place + codes) stands (omega (arith, is)) refl in
    inr (high, omega (arith, is, count))

some_codes : (bytes : List ℕ) (place codes : ℕ) → CodesEnd bytes place codes → place + 2 ≤ codes
some_codes bytes place codes (inl (format, is)) = omega (arith, is)
some_codes bytes place codes (inr (format, is)) = omega (arith, is)

-- an encoding
pub encoding_cut : (text bytes : List ℕ) (place : ℕ) → TextStands text bytes place → EncodingEnds bytes place (place + length text) →
    EncodingEnds text 0 (length text)
encoding_cut text bytes place stands ends =
    let behind : ℕ = ends.0 in
    let codes : ℕ = behind - place in
    let some = some_codes bytes place behind ends.1 in
    let most = behind_codes bytes (number_at bytes place 1) behind (place + length text) ends.2 in
    let at : behind ≡ place + codes = omega (arith, some) in
    let first = number_there text bytes place 0 1 place stands (omega (arith, some, most)) (omega arith) in (
      codes,
      codes_cut text bytes place codes stands (omega (arith, at, most)) (subst (λ n. CodesEnd bytes place n) at ends.1),
      subst (λ format. SupplementsEnd text format codes (length text)) first
          (supplements_cut text bytes place (number_at bytes place 1) codes stands
          (subst (λ n. SupplementsEnd bytes (number_at bytes place 1) n (place + length text)) at ends.2)),
    )

-- ranges that stand in the text cover as many glyphs
pub covered_cut : (text bytes : List ℕ) (size r : ℕ) → TextStands text bytes 0 → r * (2 + size) ≤ length text →
    covered bytes size r ≡ covered text size r
covered_cut text bytes size zero stands within = covered_none bytes size ∙ sym (covered_none text size)
covered_cut text bytes size (suc r) stands within =
    let step : suc r * (2 + size) ≡ r * (2 + size) + (2 + size) = omega arith in
    let before = covered_cut text bytes size r stands (omega (arith, within, step)) in
    let more : more_of bytes size r ≡ more_of text size r = number_there text bytes 0 (r * (2 + size) + 2) size
    (r * (2 + size) + 2) stands (omega (arith, within, step)) (omega arith) in
    let one = covered_more bytes size r in
    let other = covered_more text size r in
    ap (λ n. covered bytes size n) (sym (add-one r)) ∙ omega (arith, one, other, before, more) ∙ ap (λ n. covered text size n) (add-one r)

ranges_cut : (text bytes : List ℕ) (size glyphs : ℕ) → TextStands text bytes 0 → RangesEnd bytes size glyphs (length text) →
    RangesEnd text size glyphs (length text)
ranges_cut text bytes size glyphs stands ends = record {
  needed = λ r less.
      let same = covered_cut text bytes size r stands (omega (arith, less)) in
      let few = ends.needed r less in
      omega (arith, same, few);
  enough = inr refl;
}

-- a char set
pub char_set_cut : (text bytes : List ℕ) (place glyphs : ℕ) → TextStands text bytes place →
    CharSetEnds bytes glyphs place (place + length text) → CharSetEnds text glyphs 0 (length text)
char_set_cut text bytes place glyphs stands (inl (format, is)) =
    let first = number_there text bytes place 0 1 place stands (omega (arith, is)) (omega arith) in
    inl (sym first ∙ format, omega (arith, is))
char_set_cut text bytes place glyphs stands (inr (size, len, format, least, most, ends, is)) =
    let first = number_there text bytes place 0 1 place stands (omega (arith, is)) (omega arith) in
    let long : length (drop 1 text) ≡ len = omega (arith, is, length-drop 1 text) in
    let behind : List ℕ = stands.behind in
    let there : drop (place + 1) bytes ≡ drop 1 text ++ behind = sym (drop-drop 1 place bytes) ∙ ap (drop 1) stands.there
    ∙ drop-append-le 1 text behind (omega (arith, is)) in
    let ranges : TextStands (drop 1 text) (drop (place + 1) bytes) 0 = record { within = omega arith; behind = behind; there = there } in
    let own = ranges_cut (drop 1 text) (drop (place + 1) bytes) size (glyphs - 1) ranges
    (subst (λ n. RangesEnd (drop (place + 1) bytes) size (glyphs - 1) n) (sym long) ends) in
    inr (size, len, sym first ∙ format, least, most, subst (λ n. RangesEnd (drop 1 text) size (glyphs - 1) n) long own, omega (arith, is))
