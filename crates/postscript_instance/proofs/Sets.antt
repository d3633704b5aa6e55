-- Charsets and FDSelect, as they are written and found.
use Rattle.std.proofs.Common.{◌≡◌, refl, sym, ap, ◌∙◌, inl, inr, ℕ, zero, suc, ◌+◌, ◌-◌, ◌*◌, ◌/◌, ◌%◌, ◌<◌, ◌≤◌, List, [], ◌∷◌, ◌++◌, length, length-append, append_assoc, take, drop, Some, arith}
use Rattle.std.specs.List.{range_with_len}
use Rattle.std.specs.Prelude.{All, slice_get}
use Rattle.std.proofs.lemmas.List.{append-nil, drop-drop}
use Rattle.std.proofs.lemmas.List.Elements.{All-head, All-tail}
use Rattle.std.proofs.lemmas.List.FromFn.{length-range_with_len}
use Rattle.std.proofs.lemmas.Option.{slice_get_within}
use Rattle.postscript_base.specs.Index.{number_at}
use Rattle.postscript_base.specs.Numbers.{big_endian}
use Rattle.postscript_cff2.specs.Shown.{view_shown}
use Rattle.postscript_cff2.specs.declared.font.Font.{Font}
use Rattle.postscript_view.specs.CharSet.{covered}
use Rattle.postscript_write.specs.Texts.{TextStands}
use Rattle.postscript_write.proofs.TextsEnd.{number_there}
use Rattle.postscript_instance.specs.Encoded.{IsRange, IsSelectText, IsSetText, list_text, ranges_text, spread}
use Rattle.postscript_instance.specs.Numbers.{two_bytes}
use Rattle.postscript_instance.specs.Whole.{SelectEnds, SetEnds}
use Rattle.postscript_instance.specs.declared.naming.Range.{Range}

-- one more number of a range, and of ranges
pub range-push : (a n : ℕ) → range_with_len a (suc n) ≡ range_with_len a n ++ (a + n) ∷ []
range-push a zero = let same : a ≡ a + 0 = omega arith in ap (λ x. x ∷ []) same
range-push a (suc n) =
    let same : a + 1 + n ≡ a + suc n = omega arith in
    ap (λ xs. a ∷ xs) (range-push (a + 1) n) ∙ ap (λ x. a ∷ (range_with_len (a + 1) n ++ x ∷ [])) same

pub spread-push : (ranges : List Range) (range : Range) →
    spread (ranges ++ range ∷ []) ≡ spread ranges ++ range_with_len range.first (suc range.left)
spread-push [] range = append-nil _
spread-push (x ∷ ranges) range =
    ap (λ xs. range_with_len x.first (suc x.left) ++ xs) (spread-push ranges range)
    ∙ sym (append_assoc (range_with_len x.first (suc x.left)) (spread ranges) (range_with_len range.first (suc range.left)))

pub range-longer : (ranges : List Range) (last longer : Range) (number : ℕ) → longer.first ≡ last.first → longer.left ≡ last.left + 1 →
    last.first + last.left + 1 ≡ number → spread (ranges ++ longer ∷ []) ≡ spread (ranges ++ last ∷ []) ++ number ∷ []
range-longer ranges last longer number first left next =
    let more : longer.left ≡ suc last.left = omega (arith, left) in
    let behind : last.first + suc last.left ≡ number = omega (arith, next) in
    let one : range_with_len longer.first (suc longer.left) ≡ range_with_len last.first (suc last.left) ++ number ∷ [] =
    ap (λ a. range_with_len a (suc longer.left)) first ∙ ap (λ n. range_with_len last.first (suc n)) more
    ∙ range-push last.first (suc last.left) ∙ ap (λ x. range_with_len last.first (suc last.left) ++ x ∷ []) behind in
    spread-push ranges longer ∙ ap (λ xs. spread ranges ++ xs) one
    ∙ sym (append_assoc (spread ranges) (range_with_len last.first (suc last.left)) (number ∷ []))
    ∙ ap (λ xs. xs ++ number ∷ []) (sym (spread-push ranges last))

-- two bytes
pub two-bytes : (n : ℕ) (rest : List ℕ) → n < 65536 → number_at (two_bytes n ++ rest) 0 2 ≡ n
unfolding number_at
two-bytes n rest low = omega arith

pub length-list : (numbers : List ℕ) → length (list_text numbers) ≡ 2 * length numbers
length-list [] = refl
length-list (number ∷ numbers) = omega (arith, length-list numbers)

pub length-ranges : (ranges : List Range) → length (ranges_text ranges) ≡ 4 * length ranges
length-ranges [] = refl
length-ranges (range ∷ ranges) = omega (arith, length-ranges ranges)

many-ranges : (ranges : List Range) → length ranges ≤ length (spread ranges)
many-ranges [] = omega arith
many-ranges (range ∷ ranges) =
    omega (
      arith,
      many-ranges ranges,
      length-append (range_with_len range.first (suc range.left)) (spread ranges),
      length-range_with_len range.first (suc range.left),
    )

pub set-most : (numbers text : List ℕ) → IsSetText numbers text → length text ≤ 1 + 4 * length numbers
set-most numbers text (inl is) = omega (arith, ap length is, length-list numbers)
set-most numbers text (inr (ranges, is, spreads, small)) =
    omega (arith, ap length is, length-ranges ranges, many-ranges ranges, ap length spreads)

-- the first byte of a text
first-byte : (b : ℕ) (rest : List ℕ) → number_at (b ∷ rest) 0 1 ≡ b
unfolding number_at
first-byte b rest = omega arith

pub begins : (text out rest : List ℕ) (place b : ℕ) → TextStands text out place → text ≡ b ∷ rest → number_at out place 1 ≡ b
begins text out rest place b stands is =
    number_there text out place 0 1 place stands (omega (arith, ap length is)) (omega arith) ∙ ap (λ t. number_at t 0 1) is ∙ first-byte b rest

-- the glyphs that ranges cover
pub no-range : (bytes : List ℕ) → covered bytes 2 0 ≡ 0
unfolding covered
no-range bytes = refl

pub further : (a b c d : ℕ) (rest : List ℕ) (k : ℕ) → number_at (a ∷ b ∷ c ∷ d ∷ rest) (suc k * 4 + 2) 2 ≡ number_at rest (k * 4 + 2) 2
unfolding number_at
further a b c d rest k =
    let four : suc k * 4 + 2 ≡ suc (suc (suc (suc (k * 4 + 2)))) = omega arith in
    ap (λ n. big_endian (take 2 (drop n (a ∷ b ∷ c ∷ d ∷ rest)))) four

pub more-of : (a b c d : ℕ) (rest : List ℕ) (k : ℕ) →
    covered (a ∷ b ∷ c ∷ d ∷ rest) 2 (suc k) ≡ number_at (a ∷ b ∷ c ∷ d ∷ rest) 2 2 + 1 + covered rest 2 k
unfolding covered
more-of a b c d rest zero = omega arith
more-of a b c d rest (suc k) = omega (arith, more-of a b c d rest k, further a b c d rest k)

pub second-two : (a b n : ℕ) (rest : List ℕ) → n < 65536 → number_at (a ∷ b ∷ (two_bytes n ++ rest)) 2 2 ≡ n
unfolding number_at
second-two a b n rest low = omega arith

pub covers : (ranges : List Range) (behind : List ℕ) → All IsRange ranges →
    covered (ranges_text ranges ++ behind) 2 (length ranges) ≡ length (spread ranges)
covers [] behind small = no-range behind
covers (range ∷ ranges) behind small =
    let is : range.first + range.left < 65536 = All-head IsRange range ranges small in
    let rest : List ℕ = ranges_text ranges ++ behind in
    let all : List ℕ = two_bytes range.first ++ (two_bytes range.left ++ rest) in
    let left : number_at all 2 2 ≡ range.left = second-two (range.first / 256) (range.first % 256) range.left rest (omega (arith, is)) in
    let more : covered all 2 (suc (length ranges)) ≡ number_at all 2 2 + 1 + covered rest 2 (length ranges) =
    more-of (range.first / 256) (range.first % 256) (range.left / 256) (range.left % 256) rest (length ranges) in
    let others = covers ranges behind (All-tail IsRange range ranges small) in
    let long = length-append (range_with_len range.first (suc range.left)) (spread ranges) in
    let own = length-range_with_len range.first (suc range.left) in
    omega (arith, left, more, others, long, own)

-- where a charset ends
pub set-ends : (numbers text out : List ℕ) (place glyphs : ℕ) → IsSetText numbers text → length numbers ≡ glyphs - 1 →
    TextStands text out place → SetEnds out glyphs place (place + length text)
set-ends numbers text out place glyphs (inl is) counted stands =
    inl (begins text out (list_text numbers) place 0 stands is, omega (arith, ap length is, length-list numbers, counted))
set-ends numbers text out place glyphs (inr (ranges, is, spreads, small)) counted stands =
    let front : drop place out ≡ 2 ∷ (ranges_text ranges ++ stands.behind) = stands.there ∙ ap (λ t. t ++ stands.behind) is in
    let rest : drop (place + 1) out ≡ ranges_text ranges ++ stands.behind =
    sym (drop-drop 1 place out) ∙ ap (drop 1) front in
    let all : covered (drop (place + 1) out) 2 (length ranges) ≡ glyphs - 1 =
    ap (λ bytes. covered bytes 2 (length ranges)) rest ∙ covers ranges stands.behind small ∙ ap length spreads ∙ counted in
    inr (
      begins text out (ranges_text ranges) place 2 stands is,
      (length ranges, all, omega (arith, ap length is, length-ranges ranges)),
    )

-- the bytes of FDSelect
byte-there : (numbers : List ℕ) (glyph n : ℕ) → slice_get numbers glyph ≡ Some n → number_at numbers glyph 1 ≡ n
unfolding number_at
byte-there [] glyph n is = absurd (cc)
byte-there (x ∷ numbers) zero n is = let same : x ≡ n = cc in omega (arith, same)
byte-there (x ∷ numbers) (suc glyph) n is = byte-there numbers glyph n is

behind-first : (b : ℕ) (numbers : List ℕ) (glyph : ℕ) → number_at (b ∷ numbers) (suc glyph) 1 ≡ number_at numbers glyph 1
unfolding number_at
behind-first b numbers glyph = refl

pub select-byte : (font : Font) (glyphs : ℕ) (text out : List ℕ) (place glyph n : ℕ) → (is : IsSelectText font glyphs text) →
    TextStands text out place → slice_get is.numbers glyph ≡ Some n → number_at out (place + 1 + glyph) 1 ≡ n
select-byte font glyphs text out place glyph n is stands got =
    let within = slice_get_within is.numbers glyph n got in
    number_there text out place (suc glyph) 1 (place + 1 + glyph) stands (omega (arith, ap length is.is, within)) (omega arith)
    ∙ ap (λ t. number_at t (suc glyph) 1) is.is ∙ behind-first 0 is.numbers glyph ∙ byte-there is.numbers glyph n got

pub select-length : (font : Font) (glyphs : ℕ) (text : List ℕ) → IsSelectText font glyphs text → length text ≡ glyphs + 1
select-length font glyphs text is = omega (arith, ap length is.is, is.counted)

pub select-ends : (font : Font) (glyphs dictionaries : ℕ) (text out : List ℕ) (place : ℕ) → IsSelectText font glyphs text →
    dictionaries ≡ length (view_shown font).font_dictionaries → TextStands text out place →
    SelectEnds out glyphs dictionaries place (place + length text)
select-ends font glyphs dictionaries text out place is counted stands = (
  begins text out is.numbers place 0 stands is.is,
  λ glyph less.
      let one = is.each glyph less in
      let byte = select-byte font glyphs text out place glyph one.0 is stands one.1 in
      omega (arith, byte, one.2.1, counted),
  omega (arith, select-length font glyphs text is),
)
