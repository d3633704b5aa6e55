-- Glyph classes that were written are read as they were.
use Rattle.std.proofs.Common.{◌≡◌, refl, sym, ap, subst, ◌∙◌, ℕ, ◌+◌, ◌-◌, ◌*◌, ◌≤◌, ◌<◌, ◌==◌, ◌&&◌, List, [], ◌∷◌, ◌++◌, length, get_or, arith, Bool}
use Rattle.std.specs.Prelude.{nat_le, nat_lt, if◌then◌else◌}
use Rattle.std.proofs.lemmas.Bool.{eq-eqb, le-leb, le-ltb, lt-ltb}
use Rattle.postscript_layout.specs.Numbers.{word}
use Rattle.postscript_layout_write.specs.Classes.{AreClasses, KeepsClasses, glyph_class, known}
use Rattle.postscript_layout_write.specs.Holds.{Holds}
use Rattle.postscript_layout_write.specs.Ranges.{class_in, class_of, listed_class, range_of}
use Rattle.postscript_layout_write.specs.Text.{array_text}
use Rattle.postscript_layout_write.proofs.Holding.{holds-array, holds-last, length-array}

module _ (old kept new classes : List ℕ) (few : length kept < 65536) (are : AreClasses old kept classes)
    (is : new ≡ array_text (1 ∷ 0 ∷ 12 ∷ 0 ∷ 0 ∷ 0 ∷ 1 ∷ 0 ∷ length kept ∷ []) ++ array_text classes) where
  head-held : Holds (array_text (1 ∷ 0 ∷ 12 ∷ 0 ∷ 0 ∷ 0 ∷ 1 ∷ 0 ∷ length kept ∷ [])) new 0
  head-held = record { front = []; behind = array_text classes; is = is; place = refl }

  number : (k : ℕ) → k < 9 → get_or (1 ∷ 0 ∷ 12 ∷ 0 ∷ 0 ∷ 0 ∷ 1 ∷ 0 ∷ length kept ∷ []) k 0 < 65536 →
      word new (0 + k * 2) ≡ get_or (1 ∷ 0 ∷ 12 ∷ 0 ∷ 0 ∷ 0 ∷ 1 ∷ 0 ∷ length kept ∷ []) k 0
  number k less small = holds-array (1 ∷ 0 ∷ 12 ∷ 0 ∷ 0 ∷ 0 ∷ 1 ∷ 0 ∷ length kept ∷ []) 0 k less small head-held

  classes-held : Holds (array_text classes) new 18
  classes-held = subst (λ (xs : List ℕ). Holds (array_text classes) xs 18) (sym is)
      (subst (Holds (array_text classes) (array_text (1 ∷ 0 ∷ 12 ∷ 0 ∷ 0 ∷ 0 ∷ 1 ∷ 0 ∷ length kept ∷ []) ++ array_text classes))
      (length-array (1 ∷ 0 ∷ 12 ∷ 0 ∷ 0 ∷ 0 ∷ 1 ∷ 0 ∷ length kept ∷ []))
      (holds-last (array_text (1 ∷ 0 ∷ 12 ∷ 0 ∷ 0 ∷ 0 ∷ 1 ∷ 0 ∷ length kept ∷ [])) (array_text classes)))

  class-read : (x : ℕ) → glyph_class new x ≡ known (if nat_lt x (length kept) then word new (18 + x * 2) else 0)
  class-read x =
      let offset : word new 4 ≡ 12 = number 2 (omega arith) (omega arith) in
      let format : word new 12 ≡ 1 = number 6 (omega arith) (omega arith) in
      let first : word new 14 ≡ 0 = number 7 (omega arith) (omega arith) in
      let count : word new 16 ≡ length kept = number 8 (omega arith) few in
      ap (λ n. if n == 0 then 0 else known (class_of new n x)) offset
      ∙ ap (λ (b : Bool). known (if b then listed_class new 12 x else (if word new 12 == 2 then class_in new (range_of new 12 x) else 0))) (eq-eqb (word new 12) 1 format)
      ∙ ap (λ n. known (if nat_le n x && nat_lt x (n + word new 16) then word new (18 + (x - n) * 2) else 0)) first
      ∙ ap (λ (b : Bool). known (if b && nat_lt x (0 + word new 16) then word new (18 + (x - 0) * 2) else 0)) (le-leb 0 x (omega arith))
      ∙ ap (λ n. known (if nat_lt x n then word new (18 + (x - 0) * 2) else 0)) (omega (arith, count))
      ∙ ap (λ n. known (if nat_lt x (length kept) then word new n else 0)) (omega arith)

  same-class : (x : ℕ) → x < length kept → glyph_class new x ≡ glyph_class old (get_or kept x 0)
  same-class x less =
      let many = are.many in
      let within : x < length classes = omega (arith, many, less) in
      let small = are.small x within in
      class-read x ∙ ap (λ (b : Bool). known (if b then word new (18 + x * 2) else 0)) (lt-ltb x (length kept) less)
      ∙ ap known (holds-array classes 18 x within (omega (arith, small)) classes-held)
      ∙ ap (λ (b : Bool). if b then 0 else get_or classes x 0) (le-ltb 4 (get_or classes x 0) (omega (arith, small)))
      ∙ are.each x within

  no-class : (x : ℕ) → length kept ≤ x → glyph_class new x ≡ 0
  no-class x far = class-read x ∙ ap (λ (b : Bool). known (if b then word new (18 + x * 2) else 0)) (le-ltb x (length kept) far)

  pub keeps-classes : KeepsClasses old kept new
  keeps-classes = record {
    version = (number 0 (omega arith) (omega arith), number 1 (omega arith) (omega arith));
    only = (number 3 (omega arith) (omega arith), number 4 (omega arith) (omega arith), number 5 (omega arith) (omega arith));
    same = same-class;
    none = no-class;
  }
