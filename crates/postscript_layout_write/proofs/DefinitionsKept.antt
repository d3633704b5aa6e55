-- Glyph definitions that were written are read as they were.
use Rattle.std.proofs.Common.{◌≡◌, refl, sym, ap, subst, ◌∙◌, inl, inr, ℕ, ◌+◌, ◌-◌, ◌*◌, ◌≤◌, ◌<◌, ◌==◌, ◌&&◌, List, [], ◌∷◌, ◌++◌, length, length-append, get_or, arith, add-one, Bool, true, false}
use Rattle.std.specs.Prelude.{Option, is_some, nat_le, nat_lt, if◌then◌else◌}
use Rattle.std.proofs.lemmas.Bool.{eq-eqb, le-leb, le-ltb, lt-ltb, ne_eqb}
use Rattle.std.proofs.lemmas.List.{append_assoc}
use Rattle.postscript_layout.specs.Numbers.{long, word}
use Rattle.postscript_layout_write.specs.CaretLists.{AreCarets, IsCaretList, a_list, caret_list_text, kept_carets, no_list}
use Rattle.postscript_layout_write.specs.Carets.{carets_covered, carets_of}
use Rattle.postscript_layout_write.specs.Classes.{AreClasses, glyph_class, known}
use Rattle.postscript_layout_write.specs.Definitions.{KeepsDefinitions, covers, in_set, mark_class, sets_at, sets_of}
use Rattle.postscript_layout_write.specs.Holds.{Holds}
use Rattle.postscript_layout_write.specs.MarkSets.{AreMarkClasses, AreMarkSets, AreMembers, definitions_text}
use Rattle.postscript_layout_write.specs.Ranges.{class_in, class_of, coverage_index, listed_class, range_of}
use Rattle.postscript_layout_write.specs.Sets.{AreOffsets}
use Rattle.postscript_layout_write.specs.Text.{array_text, coverage_text, offsets_text, uint16}
use Rattle.postscript_layout_write.proofs.CaretReading.{list-none, list-read}
use Rattle.postscript_layout_write.proofs.Firsts.{nat_cases}
use Rattle.postscript_layout_write.proofs.Holding.{holds-array, holds-first, holds-in, holds-second, holds-whole, length-array, length-uint16}
use Rattle.postscript_layout_write.proofs.Longs.{holds-long, holds-two}
use Rattle.postscript_layout_write.proofs.MarkReading.{coverage-read}
use Rattle.postscript_layout_write.proofs.Reading.{Searched, any-default, missing, present}

-- a list of classes from glyph 0 on
pub listed : (t : List ℕ) (c n x : ℕ) (classes : List ℕ) → word t c ≡ 1 → word t (c + 2) ≡ 0 → word t (c + 4) ≡ n → length classes ≡ n →
    ((k : ℕ) → k < length classes → get_or classes k 0 < 65536) → Holds (array_text classes) t (c + 6) →
    class_of t c x ≡ (if nat_lt x n then get_or classes x 0 else 0)
listed t c n x classes format first count many small held =
    ap (λ (b : Bool). if b then listed_class t c x else (if word t c == 2 then class_in t (range_of t c x) else 0)) (eq-eqb (word t c) 1 format)
    ∙ ap (λ k. if nat_le k x && nat_lt x (k + word t (c + 4)) then word t (c + 6 + (x - k) * 2) else 0) first
    ∙ ap (λ (b : Bool). if b && nat_lt x (0 + word t (c + 4)) then word t (c + 6 + (x - 0) * 2) else 0) (le-leb 0 x (omega arith))
    ∙ ap (λ k. if nat_lt x k then word t (c + 6 + (x - 0) * 2) else 0) (omega (arith, count))
    ∙ ap (λ k. if nat_lt x n then word t k else 0) {x = c + 6 + (x - 0) * 2} {y = c + 6 + x * 2} (omega arith)
    ∙ elim (nat_cases x n) [
      | inl less ↦ (let within : x < length classes = omega (arith, less, many) in
          ap (λ w. if nat_lt x n then w else 0) (holds-array classes (c + 6) x within (small x within) held))
      | inr far ↦ ap (λ (b : Bool). if b then word t (c + 6 + x * 2) else 0) (le-ltb x n far)
          ∙ sym (ap (λ (b : Bool). if b then get_or classes x 0 else 0) (le-ltb x n far))
    ]

-- whether a written set has a new number
module _ (gdef : List ℕ) (set : ℕ) (kept members : List ℕ) (t : List ℕ) (c : ℕ) (are : AreMembers gdef set kept (length kept) members)
    (covered : (k : ℕ) → Searched members k (λ i. i) (coverage_index t c k)) where
  is-member : (k : ℕ) → k < length kept → is_some (coverage_index t c k) ≡ in_set gdef set (get_or kept k 0)
  is-member k less = by (coverage_index t c k) (covered k)
    where
      by : (index : Option ℕ) → Searched members k (λ i. i) index → is_some index ≡ in_set gdef set (get_or kept k 0)
      by _ (missing none) = elim (are.all k less) [
        | inl never ↦ sym never
        | inr there ↦ absurd (none there.0 there.1 (any-default members there.0 0 k there.1 ∙ there.2))
      ]
      by _ (present i within is) = sym (subst (λ x. in_set gdef set (get_or kept x 0) ≡ true) is (are.right i within).1)

  no-member : (k : ℕ) → length kept ≤ k → is_some (coverage_index t c k) ≡ false
  no-member k far = by (coverage_index t c k) (covered k)
    where
      by : (index : Option ℕ) → Searched members k (λ i. i) index → is_some index ≡ false
      by _ (missing none) = refl
      by _ (present i within is) = (let small = (are.right i within).0 in absurd (omega (arith, small, is, far)))

module _ (old kept new : List ℕ) (caret : ℕ) (classes marks numbers texts list bytes : List ℕ) (few : length kept ≤ 16377) (several : sets_of old ≤ 16382)
    (both : bytes ≡ texts ++ list) (small_caret : caret < 65536) (without : length list ≡ 0 → caret ≡ 0)
    (with_list : 0 < length list → caret ≡ 30 + length kept * 4 + sets_of old * 4 + length texts) (are_carets : IsCaretList (kept_carets old kept) (length kept) list)
    (are_classes : AreClasses old kept classes) (are_marks : AreMarkClasses old kept marks)
    (are_sets : AreMarkSets old (4 + sets_of old * 4) kept (sets_of old) numbers bytes)
    (is : new ≡ definitions_text (length kept) caret classes marks (sets_of old) numbers bytes) where
  whole : Holds (definitions_text (length kept) caret classes marks (sets_of old) numbers bytes) new 0
  whole = subst (λ (xs : List ℕ). Holds (definitions_text (length kept) caret classes marks (sets_of old) numbers bytes) xs 0) (sym is) (holds-whole _)

  number : (k w : ℕ) → k < 10 →
      get_or (1 ∷ 2 ∷ 14 ∷ 0 ∷ caret ∷ (20 + length kept * 2) ∷ (26 + length kept * 4) ∷ 1 ∷ 0 ∷ length kept ∷ []) k 0 ≡ w → w < 65536 → word new (k * 2) ≡ w
  unfolding definitions_text
  number k w less same small = ap (word new) (omega arith) ∙ holds-array _ 0 k less (omega (arith, same, small)) (holds-first _ _ whole) ∙ same

  rest1 : Holds (array_text classes ++ (array_text (1 ∷ 0 ∷ length kept ∷ []) ++ (array_text marks ++ (array_text (1 ∷ sets_of old ∷ []) ++ (array_text numbers ++ bytes))))) new 20
  unfolding definitions_text
  rest1 = holds-second (array_text (1 ∷ 2 ∷ 14 ∷ 0 ∷ caret ∷ (20 + length kept * 2) ∷ (26 + length kept * 4) ∷ 1 ∷ 0 ∷ length kept ∷ [])) _ 20
      (length-array (1 ∷ 2 ∷ 14 ∷ 0 ∷ caret ∷ (20 + length kept * 2) ∷ (26 + length kept * 4) ∷ 1 ∷ 0 ∷ length kept ∷ [])) whole

  rest2 : Holds (array_text (1 ∷ 0 ∷ length kept ∷ []) ++ (array_text marks ++ (array_text (1 ∷ sets_of old ∷ []) ++ (array_text numbers ++ bytes)))) new (20 + length kept * 2)
  rest2 = holds-second (array_text classes) _ (length kept * 2) (length-array classes ∙ ap (λ n. n * 2) are_classes.many) rest1

  rest3 : Holds (array_text marks ++ (array_text (1 ∷ sets_of old ∷ []) ++ (array_text numbers ++ bytes))) new (20 + length kept * 2 + 6)
  rest3 = holds-second (array_text (1 ∷ 0 ∷ length kept ∷ [])) _ 6 (length-array (1 ∷ 0 ∷ length kept ∷ [])) rest2

  rest4 : Holds (array_text (1 ∷ sets_of old ∷ []) ++ (array_text numbers ++ bytes)) new (26 + length kept * 4)
  rest4 = subst (Holds (array_text (1 ∷ sets_of old ∷ []) ++ (array_text numbers ++ bytes)) new) (omega arith)
      (holds-second (array_text marks) _ (length kept * 2) (length-array marks ∙ ap (λ n. n * 2) are_marks.many) rest3)

  rest5 : Holds (array_text numbers ++ bytes) new (26 + length kept * 4 + 4)
  rest5 = holds-second (array_text (1 ∷ sets_of old ∷ [])) _ 4 (length-array (1 ∷ sets_of old ∷ [])) rest4

  tables : Holds bytes new (26 + length kept * 4 + (4 + sets_of old * 4))
  tables = subst (Holds bytes new) (omega arith)
      (holds-second (array_text numbers) bytes (sets_of old * 4) (let many = are_sets.many in let l = length-array numbers in omega (arith, many, l)) rest5)

  -- classes
  class-read : (x : ℕ) → glyph_class new x ≡ known (if nat_lt x (length kept) then get_or classes x 0 else 0)
  class-read x =
      let offset : word new 4 ≡ 14 = number 2 14 (omega arith) refl (omega arith) in
      ap (λ n. if n == 0 then 0 else known (class_of new n x)) offset
      ∙ ap known (listed new 14 (length kept) x classes (number 7 1 (omega arith) refl (omega arith)) (number 8 0 (omega arith) refl (omega arith))
      (number 9 (length kept) (omega arith) refl (omega (arith, few))) are_classes.many
      (λ k less. (let small = are_classes.small k less in omega (arith, small))) (holds-first (array_text classes) _ rest1))

  class-same : (x : ℕ) → x < length kept → glyph_class new x ≡ glyph_class old (get_or kept x 0)
  class-same x less =
      let many = are_classes.many in
      let within : x < length classes = omega (arith, many, less) in
      let small = are_classes.small x within in
      class-read x ∙ ap (λ (b : Bool). known (if b then get_or classes x 0 else 0)) (lt-ltb x (length kept) less)
      ∙ ap (λ (b : Bool). if b then 0 else get_or classes x 0) (le-ltb 4 (get_or classes x 0) (omega (arith, small)))
      ∙ are_classes.each x within

  class-none : (x : ℕ) → length kept ≤ x → glyph_class new x ≡ 0
  class-none x far = class-read x ∙ ap (λ (b : Bool). known (if b then get_or classes x 0 else 0)) (le-ltb x (length kept) far)

  mark-number : (k w : ℕ) → k < 3 → get_or (1 ∷ 0 ∷ length kept ∷ []) k 0 ≡ w → w < 65536 → word new (20 + length kept * 2 + k * 2) ≡ w
  mark-number k w less same small = holds-array (1 ∷ 0 ∷ length kept ∷ []) (20 + length kept * 2) k less (omega (arith, same, small)) (holds-first _ _ rest2) ∙ same

  mark-read : (x : ℕ) → mark_class new x ≡ (if nat_lt x (length kept) then get_or marks x 0 else 0)
  mark-read x =
      let offset : word new 10 ≡ 20 + length kept * 2 = number 5 (20 + length kept * 2) (omega arith) refl (omega (arith, few)) in
      ap (λ n. if n == 0 then 0 else class_of new n x) offset
      ∙ ap (λ (b : Bool). if b then 0 else class_of new (20 + length kept * 2) x) (ne_eqb (20 + length kept * 2) 0 (λ e. omega (arith, e)))
      ∙ listed new (20 + length kept * 2) (length kept) x marks
      (ap (word new) (omega arith) ∙ mark-number 0 1 (omega arith) refl (omega arith)) (mark-number 1 0 (omega arith) refl (omega arith))
      (mark-number 2 (length kept) (omega arith) refl (omega (arith, few))) are_marks.many are_marks.small (holds-first (array_text marks) _ rest3)

  mark-same : (x : ℕ) → x < length kept → mark_class new x ≡ mark_class old (get_or kept x 0)
  mark-same x less = mark-read x ∙ ap (λ (b : Bool). if b then get_or marks x 0 else 0) (lt-ltb x (length kept) less)
      ∙ are_marks.each x (let many = are_marks.many in omega (arith, many, less))

  mark-none : (x : ℕ) → length kept ≤ x → mark_class new x ≡ 0
  mark-none x far = mark-read x ∙ ap (λ (b : Bool). if b then get_or marks x 0 else 0) (le-ltb x (length kept) far)

  -- sets
  sets-place : sets_at new ≡ 26 + length kept * 4
  sets-place = ap (λ n. if nat_lt n 2 then 0 else word new 12) (number 1 2 (omega arith) refl (omega arith))
      ∙ number 6 (26 + length kept * 4) (omega arith) refl (omega (arith, few))

  sets-number : (k w : ℕ) → k < 2 → get_or (1 ∷ sets_of old ∷ []) k 0 ≡ w → w < 65536 → word new (26 + length kept * 4 + k * 2) ≡ w
  sets-number k w less same small = holds-array (1 ∷ sets_of old ∷ []) (26 + length kept * 4) k less (omega (arith, same, small)) (holds-first _ _ rest4) ∙ same

  sets-count : sets_of new ≡ sets_of old
  sets-count =
      let at = 26 + length kept * 4 in
      let format : word new at ≡ 1 = ap (word new) (omega arith) ∙ sets-number 0 1 (omega arith) refl (omega arith) in
      ap (λ n. if n == 0 then 0 else (if word new n == 1 then word new (n + 2) else 0)) sets-place
      ∙ ap (λ (b : Bool). if b then 0 else (if word new at == 1 then word new (at + 2) else 0)) (ne_eqb at 0 (λ e. omega (arith, e)))
      ∙ ap (λ (b : Bool). if b then word new (at + 2) else 0) (eq-eqb (word new at) 1 format)
      ∙ sets-number 1 (sets_of old) (omega arith) refl (omega (arith, several))

  -- a set that is there
  cover-at : (s : ℕ) → s < sets_of old → ℕ
  cover-at s low = 26 + length kept * 4 + (4 + sets_of old * 4) + (are_sets.each s low).place

  offset-read : (s : ℕ) (low : s < sets_of old) → long new (26 + length kept * 4 + 4 + s * 4) ≡ 4 + sets_of old * 4 + (are_sets.each s low).place
  offset-read s low =
      let h = are_sets.each s low in
      let many = are_sets.many in
      let two : Holds (uint16 (get_or numbers (s * 2) 0) ++ uint16 (get_or numbers (s * 2 + 1) 0)) new (26 + length kept * 4 + 4 + s * 2 * 2) =
      subst (λ i. Holds (uint16 (get_or numbers (s * 2) 0) ++ uint16 (get_or numbers i 0)) new (26 + length kept * 4 + 4 + s * 2 * 2)) (sym (add-one (s * 2)))
      (holds-two numbers (26 + length kept * 4 + 4) (s * 2) (omega (arith, many, low)) (holds-first (array_text numbers) bytes rest5)) in
      ap (long new) (omega arith) ∙ holds-long 0 (4 + sets_of old * 4 + h.place) (omega arith) h.small
      (subst (λ n. Holds (uint16 0 ++ uint16 n) new (26 + length kept * 4 + 4 + s * 2 * 2)) h.low
      (subst (λ n. Holds (uint16 n ++ uint16 (get_or numbers (s * 2 + 1) 0)) new (26 + length kept * 4 + 4 + s * 2 * 2)) h.high two))
      ∙ omega arith

  in-read : (s k : ℕ) (low : s < sets_of old) → in_set new s k ≡ is_some (coverage_index new (cover-at s low) k)
  unfolding cover-at
  in-read s k low =
      let place = (are_sets.each s low).place in
      ap (λ n. nat_lt s n && covers new (sets_at new) (long new (sets_at new + 4 + s * 4)) k) sets-count
      ∙ ap (λ (b : Bool). b && covers new (sets_at new) (long new (sets_at new + 4 + s * 4)) k) (lt-ltb s (sets_of old) low)
      ∙ ap (λ n. covers new n (long new (n + 4 + s * 4)) k) sets-place
      ∙ ap (λ n. covers new (26 + length kept * 4) n k) (offset-read s low)
      ∙ ap (λ (b : Bool). if b then false else is_some (coverage_index new (26 + length kept * 4 + (4 + sets_of old * 4 + place)) k))
      (ne_eqb (4 + sets_of old * 4 + place) 0 (λ e. omega (arith, e)))
      ∙ ap (λ n. is_some (coverage_index new n k)) {x = 26 + length kept * 4 + (4 + sets_of old * 4 + place)} {y = 26 + length kept * 4 + (4 + sets_of old * 4) + place} (omega arith)

  covered : (s : ℕ) (low : s < sets_of old) (k : ℕ) → Searched (are_sets.each s low).has.members k (λ i. i) (coverage_index new (cover-at s low) k)
  unfolding cover-at
  covered s low k =
      let h = (are_sets.each s low).has in
      coverage-read new (cover-at s low) h.members k h.few (λ i less. (let small = (h.are.right i less).0 in omega (arith, small, few)))
      (holds-in tables h.there)

  is-member-of : (s : ℕ) (low : s < sets_of old) (k : ℕ) → k < length kept → is_some (coverage_index new (cover-at s low) k) ≡ in_set old s (get_or kept k 0)
  is-member-of s low k less = is-member old s kept (are_sets.each s low).has.members new (cover-at s low) (are_sets.each s low).has.are (covered s low) k less

  no-member-of : (s : ℕ) (low : s < sets_of old) (k : ℕ) → length kept ≤ k → is_some (coverage_index new (cover-at s low) k) ≡ false
  no-member-of s low k far = no-member old s kept (are_sets.each s low).has.members new (cover-at s low) (are_sets.each s low).has.are (covered s low) k far

  out-read : (t : List ℕ) (s k : ℕ) → sets_of t ≤ s → in_set t s k ≡ false
  out-read t s k far = ap (λ (b : Bool). b && covers t (sets_at t) (long t (sets_at t + 4 + s * 4)) k) (le-ltb s (sets_of t) far)

  -- carets
  caret-offset : word new 8 ≡ caret
  caret-offset = number 4 caret (omega arith) refl small_caret

  no-carets : caret ≡ 0 → (x : ℕ) → carets_of new x ≡ []
  no-carets none x = ap (λ n. if n == 0 then [] else carets_covered new n (coverage_index new (n + word new n) x)) (caret-offset ∙ none)

  module _ (glyphs offsets tables_there : List ℕ) (are : AreCarets (kept_carets old kept) (length kept) glyphs offsets tables_there) (fewer : length glyphs ≤ 16380)
      (fit : AreOffsets (8 + length glyphs * 4) offsets) (same : list ≡ caret_list_text glyphs offsets tables_there) where
    place : caret ≡ 30 + length kept * 4 + sets_of old * 4 + length texts
    unfolding caret_list_text
    place = with_list (let long = length-append (uint16 (4 + length glyphs * 2)) (uint16 (length glyphs) ++ (offsets_text (8 + length glyphs * 4) offsets ++ (coverage_text glyphs ++ tables_there))) in
        let all = ap length same in omega (arith, all, long, length-uint16 (4 + length glyphs * 2)))

    held : Holds (caret_list_text glyphs offsets tables_there) new caret
    held = subst (λ (xs : List ℕ). Holds xs new caret) same (subst (Holds list new) (omega (arith, place))
        (holds-second texts list (length texts) refl (subst (λ (xs : List ℕ). Holds xs new (26 + length kept * 4 + (4 + sets_of old * 4))) both tables)))

    caret-read : (x : ℕ) → carets_of new x ≡ carets_covered new caret (coverage_index new (caret + word new caret) x)
    caret-read x = ap (λ n. if n == 0 then [] else carets_covered new n (coverage_index new (n + word new n) x)) caret-offset
        ∙ ap (λ (b : Bool). if b then [] else carets_covered new caret (coverage_index new (caret + word new caret) x)) (ne_eqb caret 0 (λ e. omega (arith, e, place)))

    caret-there : (x : ℕ) → x < length kept → carets_of new x ≡ carets_of old (get_or kept x 0)
    caret-there x less = caret-read x ∙ list-read (kept_carets old kept) (length kept) glyphs offsets tables_there new caret are fewer fit (omega (arith, few)) held x less

    caret-past : (x : ℕ) → length kept ≤ x → carets_of new x ≡ []
    caret-past x far = caret-read x ∙ list-none (kept_carets old kept) (length kept) glyphs offsets tables_there new caret are fewer fit (omega (arith, few)) held x far

  carets-same : IsCaretList (kept_carets old kept) (length kept) list → (x : ℕ) → x < length kept → carets_of new x ≡ carets_of old (get_or kept x 0)
  carets-same (no_list none empty) x less = no-carets (without (ap length empty)) x ∙ sym (none x less)
  carets-same (a_list glyphs offsets there are some fewer fit same) x less = caret-there glyphs offsets there are fewer fit same x less

  carets-past : IsCaretList (kept_carets old kept) (length kept) list → (x : ℕ) → length kept ≤ x → carets_of new x ≡ []
  carets-past (no_list none empty) x far = no-carets (without (ap length empty)) x
  carets-past (a_list glyphs offsets there are some fewer fit same) x far = caret-past glyphs offsets there are fewer fit same x far

  list-zero : IsCaretList (kept_carets old kept) (length kept) list → ((x : ℕ) → x < length kept → carets_of old (get_or kept x 0) ≡ []) → word new 8 ≡ 0
  list-zero (no_list none empty) never = caret-offset ∙ without (ap length empty)
  list-zero (a_list glyphs offsets there are some fewer fit same) never =
      (let empty = ap length (never (get_or glyphs 0 0) (are.fit 0 some)) in let has = (are.each 0 some).some in absurd (omega (arith, empty, has)))

  pub keeps-definitions : KeepsDefinitions old kept new
  keeps-definitions = record {
    version = (number 0 1 (omega arith) refl (omega arith), number 1 2 (omega arith) refl (omega arith));
    only = number 3 0 (omega arith) refl (omega arith);
    classes = class-same;
    no_class = class-none;
    mark_classes = mark-same;
    no_mark_class = mark-none;
    sets = sets-count;
    members = λ s k less. elim (nat_cases s (sets_of old)) [
      | inl low ↦ in-read s k low ∙ is-member-of s low k less
      | inr far ↦ out-read new s k (let same = sets-count in omega (arith, same, far)) ∙ sym (out-read old s (get_or kept k 0) far)
    ];
    no_member = λ s k far. elim (nat_cases s (sets_of old)) [
      | inl low ↦ in-read s k low ∙ no-member-of s low k far
      | inr past ↦ out-read new s k (let same = sets-count in omega (arith, same, past))
    ];
    carets = carets-same are_carets;
    no_caret = carets-past are_carets;
    no_caret_list = list-zero are_carets;
  }

pub definitions-joined : (count caret : ℕ) (classes marks : List ℕ) (sets : ℕ) (numbers bytes : List ℕ) →
    (((((array_text (1 ∷ 2 ∷ 14 ∷ 0 ∷ caret ∷ (20 + count * 2) ∷ (26 + count * 4) ∷ 1 ∷ 0 ∷ count ∷ []) ++ array_text classes)
    ++ array_text (1 ∷ 0 ∷ count ∷ [])) ++ array_text marks) ++ array_text (1 ∷ sets ∷ [])) ++ array_text numbers) ++ bytes
    ≡ definitions_text count caret classes marks sets numbers bytes
unfolding definitions_text
definitions-joined count caret classes marks sets numbers bytes = simp append_assoc
