-- A char set of format 0 names the glyphs that it was written for.
use Rattle.std.proofs.Common.{◌≡◌, ◌↔◌, refl, sym, ap, subst, ◌∙◌, ℕ, ◌+◌, ◌-◌, ◌*◌, ◌/◌, ◌≤◌, ◌<◌, nat_lt, if◌then◌else◌, true, List, [], ◌++◌, append-nil, length, length-append, take, drop, get_or, Bor, Some, None, arith}
use Rattle.std.proofs.lemmas.Bool.Decides.{nat_tests}
use Rattle.std.specs.Prelude.{flat_map}
use Rattle.postscript_base.specs.Index.{number_at}
use Rattle.postscript_view.specs.CharSet.{identifier_at}
use Rattle.postscript_view.specs.CharSets.{CharSetStandsAt}
use Rattle.postscript_view.specs.Naming.{NamesBehind}
use Rattle.postscript_view.specs.declared.char_set.Identifiers.{Identifiers}
use Rattle.postscript_view.specs.declared.char_set.Identifiers.TheVariants.{ISOAdobe, Expert, ExpertSubset, Listed, Ranges1, Ranges2}
use Rattle.postscript_write.specs.Texts.{number_text, TextStands}
use Rattle.postscript_write.proofs.Rows.{behind_number, number_read, row_stands, rows_length}
use Rattle.postscript_write.proofs.Standing.{length-number_text, stands_amid, stands_first, stands_slice, stands_within}

module _ (identifiers : List ℕ) where
  abbrev row : ℕ → List ℕ
  row identifier = number_text 2 identifier

  two : (identifier : ℕ) → length (row identifier) ≡ 2
  two identifier = length-number_text 2 identifier

  abbrev rows : List ℕ
  rows = flat_map row identifiers

  long : length rows ≡ length identifiers * 2
  long = rows_length row 2 two identifiers

  alone : TextStands rows rows 0
  alone = subst (λ xs. TextStands rows xs 0) (append-nil rows) (stands_amid [] rows [])

  -- the identifier of a glyph, counted from 0 behind the first one
  told : (i : ℕ) → i < length identifiers → get_or identifiers i 0 < 65536 →
      identifier_at rows i ≡ Some (get_or identifiers i 0)
  told i less small =
      let read : number_at rows (0 + i * 2) 2 ≡ get_or identifiers i 0 = number_read 2 (get_or identifiers i 0) small
      (row_stands row 2 two identifiers 0 i 0 less alone) in
      let at : 2 * i ≡ 0 + i * 2 = omega arith in
      let half : nat_lt i (length rows / 2) ≡ true = grind (arith, nat_tests, long) in
      ap (λ b. if b then Some (number_at rows (2 * i) 2) else None) half ∙ ap (λ n. Some n) (ap (λ n. number_at rows n 2) at ∙ read)

  -- the text stands at a place
  module _ (bytes : List ℕ) (place : ℕ) (s : TextStands (number_text 1 0 ++ rows) bytes place) where
    format : number_at bytes place 1 ≡ 0
    format = number_read 1 0 (omega arith) (stands_first (number_text 1 0) rows s)

    slice : take (length rows) (drop (place + 1) bytes) ≡ rows
    slice = stands_slice rows (behind_number 1 0 rows s)

    within : place + 1 + 2 * length identifiers ≤ length bytes
    within = omega (arith, stands_within (number_text 1 0 ++ rows) s, length-append (number_text 1 0) rows, length-number_text 1 0, long)

    module _ (glyphs : ℕ) (many : glyphs ≡ 1 + length identifiers) where
      count : 2 * (glyphs - 1) ≡ length rows
      count = omega (arith, many, long)

      pub list_stands : Bor (List ℕ) → (own : Identifiers) × CharSetStandsAt own bytes place glyphs
      list_stands lent = (
        Listed (record { ref_ptr = lent.ref_ptr; now = take (2 * (glyphs - 1)) (drop (place + 1) bytes) }),
        (format, omega (arith, many, within), refl),
      )

      -- whatever stands there names the glyphs so
      pub list_names : (own : Identifiers) (i identifier : ℕ) → CharSetStandsAt own bytes place glyphs → i < length identifiers →
          get_or identifiers i 0 < 65536 →
          NamesBehind own i identifier ↔ (get_or identifiers i 0 ≡ identifier)
      list_names ISOAdobe i identifier is less small = absurd is
      list_names Expert i identifier is less small = absurd is
      list_names ExpertSubset i identifier is less small = absurd is
      list_names (Ranges1 xs) i identifier is less small = absurd (omega (arith, is.0, format))
      list_names (Ranges2 xs) i identifier is less small = absurd (omega (arith, is.0, format))
      list_names (Listed xs) i identifier is less small =
          let same : xs.now ≡ rows = is.2 ∙ ap (λ n. take n (drop (place + 1) bytes)) count ∙ slice in
          let one : identifier_at xs.now i ≡ Some (get_or identifiers i 0) = ap (λ ys. identifier_at ys i) same ∙ told i less small in
          (λ h. let e = sym one ∙ h in cc, λ h. one ∙ ap (λ n. Some n) h)
