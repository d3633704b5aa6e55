-- Charsets of given identifiers, as they are read where they were written.
use Rattle.std.proofs.Common.{◌≡◌, ◌↔◌, refl, sym, ap, subst, ◌∙◌, inl, inr, ℕ, zero, suc, ◌+◌, ◌-◌, ◌*◌, ◌≤◌, ◌<◌, List, [], ◌∷◌, append-nil, length, length-append, length-drop, drop, get_or, Bor, arith}
use Rattle.std.proofs.lemmas.List.{drop-drop}
use Rattle.std.proofs.lemmas.List.FromFn.{get_or-range_with_len, length-range_with_len}
use Rattle.std.proofs.lemmas.List.Sums.{sum_by-cons}
use Rattle.std.proofs.Math.Nat.{lt_of_mul-lt-mul_right, le-div_iff_mul-le}
use Rattle.std.specs.List.{range_with_len}
use Rattle.std.specs.Prelude.{flat_map, sum_by}
use Rattle.postscript_base.specs.Index.{number_at}
use Rattle.postscript_base.specs.Tape.Outcome.{Got}
use Rattle.postscript_compact1.specs.CharSetAt.{CoversGlyphs1, IsCharSet, StandAt}
use Rattle.postscript_compact1.specs.CharSets.{glyphs_of_1, range_1}
use Rattle.postscript_compact1.specs.CharSets.Formats.{Covered}
use Rattle.postscript_compact1.specs.declared.char_set.CharSet.{CharSet}
use Rattle.postscript_compact1.specs.declared.char_set.CharSet.TheVariants.{Format1}
use Rattle.postscript_compact1.specs.declared.char_set.range.Range1.{Range1}
use Rattle.postscript_view.specs.CharSet.{IsNamed, covered, more_of}
use Rattle.postscript_view.specs.CharSets.{CharSetStandsAt}
use Rattle.postscript_view.specs.Naming.{NamesBehind}
use Rattle.postscript_view.specs.declared.char_set.Identifiers.{Identifiers}
use Rattle.postscript_view.specs.declared.char_set.Identifiers.TheVariants.{ISOAdobe, Expert, ExpertSubset, Listed, Ranges1, Ranges2}
use Rattle.postscript_view.proofs.Covering.{covered_more, covered_none, none_behind}
use Rattle.postscript_write.specs.Firsts.{AreFirsts}
use Rattle.postscript_write.specs.SetTexts.{Continue, NamesAll, names_text, span_text, spans_text}
use Rattle.postscript_write.specs.Texts.{number_text, TextStands}
use Rattle.postscript_write.specs.Whole.{RangesEnd}
use Rattle.postscript_write.proofs.Firsts.{from_zero, past, to_its_end}
use Rattle.postscript_write.proofs.ListedAgain.{list_names, list_stands}
use Rattle.postscript_write.proofs.Rows.{behind_number, number_read, row_stands, rows_length}
use Rattle.postscript_write.proofs.Standing.{length-number_text, stands_amid, stands_first, stands_within}
use Rattle.postscript_write.proofs.StrictCharSet.{covered_first, number_behind, number_is, range_is, strict_listed}

alone : (text : List ℕ) → TextStands text text 0
alone text = subst (λ xs. TextStands text xs 0) (append-nil text) (stands_amid [] text [])

-- format 0
two_bytes : (n : ℕ) → length (number_text 2 n) ≡ 2
two_bytes n = length-number_text 2 n

names_long : (identifiers : List ℕ) → length (names_text identifiers) ≡ 1 + 2 * length identifiers
names_long identifiers =
    omega (
      arith,
      length-append (number_text 1 0) (flat_map (number_text 2) identifiers),
      length-number_text 1 0,
      rows_length (number_text 2) 2 two_bytes identifiers,
    )

module _ (identifiers bytes : List ℕ) (place : ℕ) (s : TextStands (names_text identifiers) bytes place) where
  names_format : number_at bytes place 1 ≡ 0
  names_format = number_read 1 0 (omega arith) (stands_first (number_text 1 0) (flat_map (number_text 2) identifiers) s)

  names_strict : (set : CharSet) × (next : ℕ) × IsCharSet bytes place (1 + length identifiers) set next
  names_strict =
      strict_listed bytes place (1 + length identifiers) names_format (omega arith)
      (omega (arith, stands_within (names_text identifiers) s, names_long identifiers))

pub names_all : (identifiers : List ℕ) → NamesAll (names_text identifiers) identifiers
names_all identifiers = record {
  stands = λ bytes place s lent. list_stands identifiers bytes place s (1 + length identifiers) refl lent;
  names = λ bytes place i identifier own s is less small.
      list_names identifiers bytes place s (1 + length identifiers) refl own i identifier is less small;
  strict = names_strict identifiers;
  ends = inl (names_format identifiers (names_text identifiers) 0 (alone (names_text identifiers)), omega (arith, names_long identifiers));
  few = omega (arith, names_long identifiers);
}

-- format 1
span_long : (identifiers firsts : List ℕ) (r : ℕ) → length (span_text identifiers firsts r) ≡ 3
span_long identifiers firsts r =
    let n : ℕ = length identifiers in
    let first : List ℕ = number_text 2 (get_or identifiers (get_or firsts r n) 0) in
    let more : List ℕ = number_text 1 (get_or firsts (r + 1) n - get_or firsts r n - 1) in
    omega (
      arith,
      length-append first more,
      length-number_text 2 (get_or identifiers (get_or firsts r n) 0),
      length-number_text 1 (get_or firsts (r + 1) n - get_or firsts r n - 1),
    )

spans_length : (identifiers firsts : List ℕ) →
    length (flat_map (span_text identifiers firsts) (range_with_len 0 (length firsts))) ≡ length firsts * 3
spans_length identifiers firsts =
    let all = rows_length (span_text identifiers firsts) 3 (span_long identifiers firsts) (range_with_len 0 (length firsts)) in
    omega (arith, all, ap (λ n. n * 3) (length-range_with_len 0 (length firsts)))

pub spans_long : (identifiers firsts : List ℕ) → length (spans_text identifiers firsts) ≡ 1 + 3 * length firsts
spans_long identifiers firsts =
    omega (
      arith,
      length-append (number_text 1 1) (flat_map (span_text identifiers firsts) (range_with_len 0 (length firsts))),
      length-number_text 1 1,
      spans_length identifiers firsts,
    )

-- so many ranges, as they are read
ranges_read : (bytes : List ℕ) (place count : ℕ) → place + count * 3 ≤ length bytes →
    (ranges : List Range1) × (next : ℕ) × StandAt range_1 bytes place ranges next
    × (sum_by glyphs_of_1 ranges ≡ covered (drop place bytes) 1 count)
ranges_read bytes place zero within = ([], place, refl, sym (covered_none (drop place bytes) 1))
ranges_read bytes place (suc count) within =
    let make : ℕ → ℕ → Range1 = λ first left. record { first = first; left = left } in
    let one = range_is make 1 (omega arith) bytes place (omega (arith, within)) in
    let rest = ranges_read bytes (place + 2 + 1) count (omega (arith, within)) in
    let range : Range1 = make (number_at bytes place 2) (number_at bytes (place + 2) 1) in
    let there : drop (2 + 1) (drop place bytes) ≡ drop (place + 2 + 1) bytes =
    drop-drop (2 + 1) place bytes ∙ ap (λ n. drop n bytes) (omega arith) in
    let at : place + (0 * (2 + 1) + 2) ≡ place + 2 = omega arith in
    let more : more_of (drop place bytes) 1 0 ≡ number_at bytes (place + 2) 1 =
    number_behind bytes place (0 * (2 + 1) + 2) 1 ∙ ap (λ n. number_at bytes n 1) at in (
      range ∷ rest.0,
      rest.1,
      (place + 2 + 1, one, rest.2),
      omega (
        arith,
        sum_by-cons glyphs_of_1 range rest.0,
        rest.3,
        covered_first (drop place bytes) 1 count,
        more,
        ap (λ xs. covered xs 1 count) there,
      ),
    )

module _ (identifiers firsts : List ℕ) (are : AreFirsts (Continue identifiers) firsts (length identifiers)) where
  abbrev glyphs : ℕ
  glyphs = length identifiers

  abbrev rows : List ℕ
  rows = flat_map (span_text identifiers firsts) (range_with_len 0 (length firsts))

  abbrev first : ℕ → ℕ
  first r = get_or firsts r glyphs

  -- a range has 256 glyphs at most
  short : (r : ℕ) → r < length firsts → first (r + 1) - first r - 1 < 256
  short r there =
      let rise = are.rise r there in
      let most = to_its_end (Continue identifiers) firsts glyphs r are there in
      let less = most.2 in omega (arith, rise, less)

  -- the text stands at a place
  module _ (bytes : List ℕ) (place : ℕ) (s : TextStands (spans_text identifiers firsts) bytes place) where
    abbrev ranges : List ℕ
    ranges = drop (place + 1) bytes

    format : number_at bytes place 1 ≡ 1
    format = number_read 1 1 (omega arith) (stands_first (number_text 1 1) rows s)

    within : place + 1 + length firsts * 3 ≤ length bytes
    within = omega (arith, stands_within (spans_text identifiers firsts) s, spans_long identifiers firsts)

    row : (r : ℕ) → r < length firsts → TextStands (span_text identifiers firsts r) bytes (place + 1 + r * 3)
    row r less =
        let many = length-range_with_len 0 (length firsts) in
        let at : get_or (range_with_len 0 (length firsts)) r 0 ≡ r = get_or-range_with_len 0 (length firsts) r 0 less ∙ omega arith in
        subst (λ k. TextStands (span_text identifiers firsts k) bytes (place + 1 + r * 3)) at
        (row_stands (span_text identifiers firsts) 3 (span_long identifiers firsts) (range_with_len 0 (length firsts)) (place + 1) r 0
        (omega (arith, less, many)) (behind_number 1 1 rows s))

    first_is : (r : ℕ) → r < length firsts → get_or identifiers (first r) 0 < 65536 →
        number_at ranges (r * 3) 2 ≡ get_or identifiers (first r) 0
    first_is r less small =
        number_behind bytes (place + 1) (r * 3) 2
        ∙ number_read 2 (get_or identifiers (first r) 0) (omega (arith, small))
        (stands_first (number_text 2 (get_or identifiers (first r) 0)) (number_text 1 (first (r + 1) - first r - 1)) (row r less))

    more_is : (r : ℕ) → r < length firsts → more_of ranges 1 r ≡ first (r + 1) - first r - 1
    more_is r less =
        let at : place + 1 + (r * (2 + 1) + 2) ≡ place + 1 + r * 3 + 2 = omega arith in
        number_behind bytes (place + 1) (r * (2 + 1) + 2) 1
        ∙ ap (λ k. number_at bytes k 1) at
        ∙ number_read 1 (first (r + 1) - first r - 1) (short r less)
        (behind_number 2 (get_or identifiers (first r) 0) (number_text 1 (first (r + 1) - first r - 1)) (row r less))

    -- the ranges before one cover the glyphs before its first one
    covered_is : (r : ℕ) → r ≤ length firsts → covered ranges 1 r ≡ first r
    covered_is zero most = covered_none ranges 1 ∙ sym (from_zero (Continue identifiers) firsts glyphs are)
    covered_is (suc r) most =
        let before = covered_is r (omega (arith, most)) in
        let step = covered_more ranges 1 r in
        let more = more_is r (omega (arith, most)) in
        let rise = are.rise r (omega (arith, most)) in
        let up : covered ranges 1 (suc r) ≡ covered ranges 1 (r + 1) = ap (covered ranges 1) (omega arith) in
        let next : first (suc r) ≡ first (r + 1) = ap first (omega arith) in
        omega (arith, before, step, more, rise, up, next)

    covers_all : covered ranges 1 (length firsts) ≡ glyphs
    covers_all = covered_is (length firsts) (omega arith) ∙ past firsts (length firsts) glyphs (omega arith)

    spans_stand : Bor (List ℕ) → (own : Identifiers) × CharSetStandsAt own bytes place (1 + glyphs)
    spans_stand lent = (
      Ranges1 (record { ref_ptr = lent.ref_ptr; now = ranges }),
      (format, omega (arith, within), refl),
    )

    spans_strict : (set : CharSet) × (next : ℕ) × IsCharSet bytes place (1 + glyphs) set next
    spans_strict =
        let read = ranges_read bytes (place + 1) (length firsts) within in
        let set : Covered Range1 = record { format = 1; ranges = read.0 } in
        let covers : CoversGlyphs1 bytes place (1 + glyphs) set read.1 = record {
          same = refl;
          behind = place + 1;
          byte = number_is 1 bytes place (omega (arith, within)) ∙ ap (λ k. Got k (place + 1)) format;
          ranges = read.2;
          each = let sum = read.3 in omega (arith, sum, covers_all);
        } in
        (Format1 set, read.1, covers)

    -- the range in which a glyph lies gives it its identifier
    module _ (i : ℕ) (less : i < glyphs) (small : get_or identifiers i 0 < 65536) where
      abbrev range : ℕ
      range = (are.each i less).range

      there : range < length firsts
      there = (are.each i less).there

      from : first range ≤ i
      from = (are.each i less).from

      to : i < first (range + 1)
      to = (are.each i less).to

      goes : get_or identifiers i 0 + first range ≡ get_or identifiers (first range) 0 + i
      goes = (are.each i less).goes.0

      low : get_or identifiers (first range) 0 < 65536
      low = let a = goes in let b = from in omega (arith, a, b, small)

      begins : covered ranges 1 range ≡ first range
      begins = covered_is range (let a = there in omega (arith, a))

      ends : covered ranges 1 range + (more_of ranges 1 range + 1) ≡ first (range + 1)
      ends = sym (covered_more ranges 1 range) ∙ covered_is (range + 1) (let a = there in omega (arith, a))

      -- another range that covers it is the same one
      same : (q : ℕ) → covered ranges 1 q ≤ i → i < covered ranges 1 q + (more_of ranges 1 q + 1) → q ≡ range
      same q least most =
          let up : q ≤ range = none_behind ranges 1 (i + 1) range q (omega (arith, least))
          (let a = covered_more ranges 1 range in let b = ends in let c = to in omega (arith, a, b, c)) in
          let down : range ≤ q = none_behind ranges 1 (i + 1) q range (let a = begins in let b = from in omega (arith, a, b))
          (let a = covered_more ranges 1 q in omega (arith, a, most)) in
          omega (arith, up, down)

      named : (identifier : ℕ) → IsNamed ranges 1 i identifier → get_or identifiers i 0 ≡ identifier
      named identifier is =
          let q : is.range ≡ range = same is.range is.from is.to in
          let a : covered ranges 1 is.range ≡ covered ranges 1 range = ap (covered ranges 1) q in
          let b : number_at ranges (is.range * 3) 2 ≡ number_at ranges (range * 3) 2 = ap (λ k. number_at ranges (k * 3) 2) q in
          let c = first_is range there low in
          let told : identifier + covered ranges 1 is.range ≡ number_at ranges (is.range * 3) 2 + i = is.named in
          let d = begins in let e = goes in omega (arith, a, b, c, d, e, told)

      is_named : (identifier : ℕ) → get_or identifiers i 0 ≡ identifier → IsNamed ranges 1 i identifier
      is_named identifier is = record {
        range = range;
        there = (le-div_iff_mul-le (omega arith)).1 (let a = there in let b = within in omega (arith, a, b, length-drop (place + 1) bytes));
        from = (let a = begins in let b = from in omega (arith, a, b));
        to = (let a = ends in let b = to in omega (arith, a, b));
        small = omega (arith, is, small);
        named = (let a = begins in let b = goes in let c : number_at ranges (range * 3) 2 ≡ get_or identifiers (first range) 0 = first_is range there low in omega (arith, a, b, c, is));
      }

    spans_names : (own : Identifiers) (i identifier : ℕ) → CharSetStandsAt own bytes place (1 + glyphs) → i < glyphs →
        get_or identifiers i 0 < 65536 → NamesBehind own i identifier ↔ (get_or identifiers i 0 ≡ identifier)
    spans_names ISOAdobe i identifier is less small = absurd is
    spans_names Expert i identifier is less small = absurd is
    spans_names ExpertSubset i identifier is less small = absurd is
    spans_names (Listed xs) i identifier is less small = absurd (omega (arith, is.0, format))
    spans_names (Ranges2 xs) i identifier is less small = absurd (omega (arith, is.0, format))
    spans_names (Ranges1 xs) i identifier is less small =
        let e : xs.now ≡ ranges = is.2 in (
          λ h. named i less small identifier (subst (λ ys. IsNamed ys 1 i identifier) e h),
          λ h. subst (λ ys. IsNamed ys 1 i identifier) (sym e) (is_named i less small identifier h),
        )

    spans_end : RangesEnd ranges 1 glyphs (length firsts * 3)
    spans_end = record {
      needed = λ r less.
          let under : r < length firsts = lt_of_mul-lt-mul_right (2 + 1) less in
          let below = are.below r under in
          let is = covered_is r (omega (arith, under)) in omega (arith, below, is);
      enough = inl (length firsts, refl, omega (arith, covers_all));
    }

  pub spans_all : 3 * length firsts ≤ 2 * length identifiers → NamesAll (spans_text identifiers firsts) identifiers
  spans_all fewer = record {
    stands = spans_stand;
    names = λ bytes place i identifier own s is less small. spans_names bytes place s own i identifier is less small;
    strict = spans_strict;
    ends =
        let text : List ℕ = spans_text identifiers firsts in
        let s = alone text in
        let all : length identifiers ≡ 1 + length identifiers - 1 = omega arith in
        inr (
          1,
          length firsts * 3,
          format text 0 s,
          omega arith,
          omega arith,
          subst (λ n. RangesEnd (drop (0 + 1) text) 1 n (length firsts * 3)) all (spans_end text 0 s),
          omega (arith, spans_long identifiers firsts),
        );
    few = omega (arith, spans_long identifiers firsts, fewer);
  }
