-- FDSelect, as it is read where it was written.
use Rattle.std.proofs.Common.{◌≡◌, sym, ap, subst, ◌∙◌, ℕ, ◌+◌, ◌*◌, ◌^◌, ◌<◌, ◌≤◌, List, ◌++◌, length, get_or, length-append, inl, inr, arith}
use Rattle.std.specs.Prelude.{flat_map}
use Rattle.std.proofs.lemmas.Bool.{cases_lt}
use Rattle.postscript_base.specs.Index.{number_at}
use Rattle.postscript_view.specs.Select.{first_glyph}
use Rattle.postscript_write.specs.Firsts.{AreFirsts}
use Rattle.postscript_write.specs.Selected.{AreLow, HaveSame, SelectsAll, listed_text, range_text, ranges_text}
use Rattle.postscript_write.specs.Texts.{number_text, TextStands}
use Rattle.postscript_write.proofs.Firsts.{past}
use Rattle.postscript_write.proofs.Rows.{behind_number, number_read, row_stands, rows_length}
use Rattle.postscript_write.proofs.Standing.{length-number_text, stands_first, stands_second, stands_within}

one_byte : (n : ℕ) → length (number_text 1 n) ≡ 1
one_byte n = length-number_text 1 n

-- format 0
pub listed_length : (numbers : List ℕ) → length (listed_text numbers) ≡ 1 + length numbers
listed_length numbers =
    omega (
      arith,
      length-append (number_text 1 0) (flat_map (number_text 1) numbers),
      one_byte 0,
      rows_length (number_text 1) 1 one_byte numbers,
    )

pub lists_all : (numbers : List ℕ) → AreLow numbers → SelectsAll (listed_text numbers) numbers
lists_all numbers low = record {
  gives = λ bytes place i s less.
      let format : number_at bytes place 1 ≡ 0 = number_read 1 0 (omega arith)
      (stands_first (number_text 1 0) (flat_map (number_text 1) numbers) s) in
      let rest = behind_number 1 0 (flat_map (number_text 1) numbers) s in
      let own = row_stands (number_text 1) 1 one_byte numbers (place + 1) i 0 less rest in
      let small = low i less in
      let read : number_at bytes (place + 1 + i * 1) 1 ≡ get_or numbers i 0 = number_read 1 (get_or numbers i 0)
      (omega (arith, small)) own in
      let at : place + 1 + i * 1 ≡ place + 1 + i = omega arith in
      inl (record {
        format = format;
        within = omega (arith, stands_within (listed_text numbers) s, listed_length numbers);
        there = less;
        dictionary = sym read ∙ ap (λ p. number_at bytes p 1) at;
      });
  ends = λ bytes place s.
      let format : number_at bytes place 1 ≡ 0 = number_read 1 0 (omega arith)
      (stands_first (number_text 1 0) (flat_map (number_text 1) numbers) s) in
      inl (format, omega (arith, listed_length numbers));
}

-- format 3
range_long : (numbers : List ℕ) (first : ℕ) → length (range_text numbers first) ≡ 3
range_long numbers first =
    omega (
      arith,
      length-append (number_text 2 first) (number_text 1 (get_or numbers first 0)),
      length-number_text 2 first,
      length-number_text 1 (get_or numbers first 0),
    )

pub ranges_length : (numbers firsts : List ℕ) → length (ranges_text numbers firsts) ≡ 5 + 3 * length firsts
ranges_length numbers firsts =
    let rows : List ℕ = flat_map (range_text numbers) firsts in
    let end : List ℕ = number_text 2 (length numbers) in
    omega (
      arith,
      length-append (number_text 1 3) (number_text 2 (length firsts) ++ (rows ++ end)),
      length-append (number_text 2 (length firsts)) (rows ++ end),
      length-append rows end,
      one_byte 3,
      length-number_text 2 (length firsts),
      length-number_text 2 (length numbers),
      rows_length (range_text numbers) 3 (range_long numbers) firsts,
    )

record AreRanges (numbers firsts bytes : List ℕ) (place : ℕ) : Type 0 where
  format : number_at bytes place 1 ≡ 3
  count : number_at bytes (place + 1) 2 ≡ length firsts
  first : (r : ℕ) → r ≤ length firsts → first_glyph bytes (place + 3) r ≡ get_or firsts r (length numbers)
  number : (r : ℕ) → r < length firsts → number_at bytes (place + 3 + r * 3 + 2) 1 ≡ get_or numbers (get_or firsts r (length numbers)) 0

are_ranges : (numbers firsts bytes : List ℕ) (place : ℕ) → AreFirsts (HaveSame numbers) firsts (length numbers) → AreLow numbers →
    length numbers < 2 ^ 16 →
    TextStands (ranges_text numbers firsts) bytes place → AreRanges numbers firsts bytes place
are_ranges numbers firsts bytes place are low few s =
    let rows : List ℕ = flat_map (range_text numbers) firsts in
    let end : List ℕ = number_text 2 (length numbers) in
    let most = are.few in
    let first_part = number_text 2 (length firsts) ++ (rows ++ end) in
    let s1 : TextStands first_part bytes (place + 1) = behind_number 1 3 first_part s in
    let s2 : TextStands (rows ++ end) bytes (place + 1 + 2) = behind_number 2 (length firsts) (rows ++ end) s1 in
    let three : place + 1 + 2 ≡ place + 3 = omega arith in
    let s3 : TextStands (rows ++ end) bytes (place + 3) = subst (λ n. TextStands (rows ++ end) bytes n) three s2 in
    let row : (r : ℕ) → r < length firsts → TextStands (range_text numbers (get_or firsts r (length numbers))) bytes
    (place + 3 + r * 3) = λ r less.
    row_stands (range_text numbers) 3 (range_long numbers) firsts (place + 3) r (length numbers) less (stands_first rows end s3) in
    record {
      format = number_read 1 3 (omega arith) (stands_first (number_text 1 3) first_part s);
      count = number_read 2 (length firsts) (omega (arith, most, few)) (stands_first (number_text 2 (length firsts)) (rows ++ end) s1);
      first = λ r least. elim (cases_lt r (length firsts)) [
        | inl less ↦
            (let first : ℕ = get_or firsts r (length numbers) in
            let below = are.below r less in
            number_read 2 first (omega (arith, below, few))
            (stands_first (number_text 2 first) (number_text 1 (get_or numbers first 0)) (row r less)))
        | inr last ↦
            (let behind = stands_second rows end s3 in
            let there : place + 3 + length rows ≡ place + 3 + r * 3 = omega
            (arith, rows_length (range_text numbers) 3 (range_long numbers) firsts, least, last) in
            number_read 2 (length numbers) (omega (arith, few)) (subst (λ n. TextStands end bytes n) there behind)
            ∙ sym (past firsts r (length numbers) last))
      ];
      number = λ r less.
          let first : ℕ = get_or firsts r (length numbers) in
          let below = are.below r less in
          let small = low first below in
          number_read 1 (get_or numbers first 0) (omega (arith, small))
          (behind_number 2 first (number_text 1 (get_or numbers first 0)) (row r less));
    }

pub ranges_all : (numbers firsts : List ℕ) → AreFirsts (HaveSame numbers) firsts (length numbers) → AreLow numbers → length numbers < 2 ^ 16 →
    SelectsAll (ranges_text numbers firsts) numbers
ranges_all numbers firsts are low few = record {
  gives = λ bytes place i s less.
      let ranges = are_ranges numbers firsts bytes place are low few s in
      let count = ranges.count in
      let lies = are.each i less in
      let there = lies.there in
      let from = lies.from in
      let to = lies.to in
      let here = ranges.first lies.range (omega (arith, there)) in
      let next = ranges.first (lies.range + 1) (omega (arith, there)) in
      inr (record {
        format = ranges.format;
        within = omega (arith, stands_within (ranges_text numbers firsts) s, ranges_length numbers firsts, count);
        order = λ r under.
            let rise = are.rise r (omega (arith, under, count)) in
            let a = ranges.first r (omega (arith, under, count)) in
            let b = ranges.first (r + 1) (omega (arith, under, count)) in
            omega (arith, rise, a, b);
        there = less;
        range = record {
          range = lies.range;
          there = omega (arith, there, count);
          lies = (omega (arith, here, from), omega (arith, next, to));
          dictionary = lies.goes ∙ sym (ranges.number lies.range there);
        };
      });
  ends = λ bytes place s.
      let ranges = are_ranges numbers firsts bytes place are low few s in
      let count = ranges.count in
      let at : place + 3 + 3 * number_at bytes (place + 1) 2 ≡ place + 3 + length firsts * 3 = omega (arith, count) in
      inr (
        ranges.format,
        omega (arith, ranges_length numbers firsts, count),
        ap (λ p. number_at bytes p 2) at ∙ ranges.first (length firsts) (omega arith)
            ∙ past firsts (length firsts) (length numbers) (omega arith),
      );
}
