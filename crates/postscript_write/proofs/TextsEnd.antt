-- Texts of parts end in bytes where they end alone.
use Rattle.std.proofs.Common.{◌≡◌, refl, false, sym, ap, subst, ◌∙◌, inl, inr, ℕ, ◌+◌, ◌*◌, ◌-◌, ◌%◌, ◌≤◌, List, ◌++◌, length, length-drop, take, drop, arith}
use Rattle.std.proofs.lemmas.List.{drop-append-le, drop-drop, take-append-le}
use Rattle.postscript_base.specs.Index.{number_at}
use Rattle.postscript_base.specs.Numbers.{big_endian}
use Rattle.postscript_write.specs.Pieces.{is_listed}
use Rattle.postscript_write.specs.Texts.{TextStands}
use Rattle.postscript_write.specs.Whole.{CharSetEnds, CodesEnd, EncodingEnds, RangesEnd, SelectEnds, SupplementsEnd}
use Rattle.postscript_write.proofs.Endings.{behind_codes}
use Rattle.postscript_write.proofs.OneCharSet.{not_listed}

-- a number of a text is read where the text stands
pub number_there : (text out : List ℕ) (place k size at : ℕ) → TextStands text out place → k + size ≤ length text → at ≡ place + k →
    number_at out at size ≡ number_at text k size
unfolding number_at
number_there text out place k size at stands within is =
    let behind : List ℕ = stands.behind in
    let past : drop at out ≡ drop k text ++ behind =
    ap (λ n. drop n out) is ∙ sym (drop-drop k place out) ∙ ap (drop k) stands.there
    ∙ drop-append-le k text behind (omega (arith, within)) in
    let enough : size ≤ length (drop k text) = omega (arith, within, length-drop k text) in
    ap (λ (xs : List ℕ). big_endian (take size xs)) past ∙ ap big_endian (take-append-le size (drop k text) behind enough)

codes_there : (text out : List ℕ) (place codes : ℕ) → TextStands text out place → codes ≤ length text → CodesEnd text 0 codes →
    CodesEnd out place (place + codes)
codes_there text out place codes stands within (inl (format, is)) =
    let first = number_there text out place 0 1 place stands (omega (arith, within, is)) (omega arith) in
    let second = number_there text out place 1 1 (place + 1) stands (omega (arith, within, is)) refl in
    inl (ap (λ n. n % 128) first ∙ format, omega (arith, is, second))
codes_there text out place codes stands within (inr (format, is)) =
    let first = number_there text out place 0 1 place stands (omega (arith, within, is)) (omega arith) in
    let second = number_there text out place 1 1 (place + 1) stands (omega (arith, within, is)) refl in
    inr (ap (λ n. n % 128) first ∙ format, omega (arith, is, second))

supplements_there : (text out : List ℕ) (place format codes : ℕ) → TextStands text out place → SupplementsEnd text format codes (length text) →
    SupplementsEnd out format (place + codes) (place + length text)
supplements_there text out place format codes stands (inl (low, is)) = inl (low, ap (λ n. place + n) is)
supplements_there text out place format codes stands (inr (high, is)) =
    let count = number_there text out place codes 1 (place + codes) stands (omega (arith, is)) refl in
    inr (high, omega (arith, is, count))

some_codes : (text : List ℕ) (codes : ℕ) → CodesEnd text 0 codes → 2 ≤ codes
some_codes text codes (inl (format, is)) = omega (arith, is)
some_codes text codes (inr (format, is)) = omega (arith, is)

pub encoding_there : (text out : List ℕ) (place : ℕ) → TextStands text out place → EncodingEnds text 0 (length text) →
    EncodingEnds out place (place + length text)
encoding_there text out place stands ends =
    let codes : ℕ = ends.0 in
    let behind = behind_codes text (number_at text 0 1) codes (length text) ends.2 in
    let some = some_codes text codes ends.1 in
    let first = number_there text out place 0 1 place stands (omega (arith, behind, some)) (omega arith) in (
      place + codes,
      codes_there text out place codes stands behind ends.1,
      subst (λ format. SupplementsEnd out format (place + codes) (place + length text)) (sym first)
          (supplements_there text out place (number_at text 0 1) codes stands ends.2),
    )

pub select_there : (text out : List ℕ) (place glyphs : ℕ) → TextStands text out place → SelectEnds text glyphs 0 (length text) →
    SelectEnds out glyphs place (place + length text)
select_there text out place glyphs stands (inl (format, is)) =
    let first = number_there text out place 0 1 place stands (omega (arith, is)) (omega arith) in
    inl (first ∙ format, omega (arith, is))
select_there text out place glyphs stands (inr (format, is, sentinel)) =
    let first = number_there text out place 0 1 place stands (omega (arith, is)) (omega arith) in
    let count = number_there text out place 1 2 (place + 1) stands (omega (arith, is)) refl in
    let last = number_there text out place (0 + 3 + 3 * number_at text (0 + 1) 2) 2 (place + 3 + 3 * number_at out (place + 1) 2) stands
    (omega (arith, is)) (omega (arith, count)) in
    inr (first ∙ format, omega (arith, is, count), last ∙ sentinel)

pub some_char_set : (text : List ℕ) (glyphs : ℕ) → CharSetEnds text glyphs 0 (length text) → 1 ≤ length text
some_char_set text glyphs (inl (format, is)) = omega (arith, is)
some_char_set text glyphs (inr (size, len, format, least, most, ends, is)) = omega (arith, is)

-- a charset of ranges is the last part, so that ranges too end where they do alone
pub char_set_there : (text out : List ℕ) (place glyphs : ℕ) → TextStands text out place →
    (is_listed text ≡ false → drop place out ≡ text) → CharSetEnds text glyphs 0 (length text) →
    CharSetEnds out glyphs place (place + length text)
char_set_there text out place glyphs stands last (inl (format, is)) =
    let first = number_there text out place 0 1 place stands (omega (arith, is)) (omega arith) in
    inl (first ∙ format, omega (arith, is))
char_set_there text out place glyphs stands last (inr (size, len, format, least, most, ends, is)) =
    let first = number_there text out place 0 1 place stands (omega (arith, is)) (omega arith) in
    let ranges : is_listed text ≡ false = not_listed text (omega (arith, is)) (omega (arith, format, least)) in
    let same : drop 1 text ≡ drop (place + 1) out = ap (drop 1) (sym (last ranges)) ∙ drop-drop 1 place out in
    inr (size, len, first ∙ format, least, most, subst (λ (xs : List ℕ). RangesEnd xs size (glyphs - 1) len) same ends, omega (arith, is))
