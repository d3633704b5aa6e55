-- Rules that were written are read as they were.
use Rattle.std.proofs.Common.{◌≡◌, refl, sym, ap, subst, ◌∙◌, inl, inr, ℕ, zero, suc, ◌+◌, ◌-◌, ◌*◌, ◌%◌, ◌≤◌, ◌<◌, ◌==◌, ◌&&◌, List, [], ◌∷◌, ◌++◌, length, length-append, get_or, take, arith, add-one, Bool, true, false}
use Rattle.std.specs.Prelude.{Option, None, Some, nat_eq, nat_lt, if◌then◌else◌}
use Rattle.std.specs.List.{All}
use Rattle.std.proofs.lemmas.Bool.{eq-eqb, eqb-true, lt-ltb}
use Rattle.std.proofs.lemmas.List.{take_all, take_more}
use Rattle.std.proofs.lemmas.List.Elements.{All-get_or, All-head, All-tail}
use Rattle.postscript_layout.specs.Numbers.{word, words}
use Rattle.postscript_layout.specs.Substitutions.{coverage_of, glyphs_of, ligature_of, set_of}
use Rattle.postscript_layout_write.specs.First.{first_some}
use Rattle.postscript_layout_write.specs.Holds.{Holds}
use Rattle.postscript_layout_write.specs.Ranges.{coverage_index, index_in, range_of}
use Rattle.postscript_layout_write.specs.RuleSets.{HasRules, HasRuleSubtable, IsLigature, IsShort, PlacesFit, base_of, format_of, has_ligatures, has_several, has_single, ligature_set_text, ligature_text, ligatures_text, places_text, rules_text, several_text}
use Rattle.postscript_layout_write.specs.Rules.{ligature_rule, ligature_rules, or_none, rules_by, rules_covered, rules_in, rules_of_ligatures, rules_of_several, rules_of_single, set_at, single_of}
use Rattle.postscript_layout_write.specs.Sets.{AreOffsets}
use Rattle.postscript_layout_write.specs.Text.{array_text, coverage_text, offsets_text, uint16}
use Rattle.postscript_layout_write.proofs.Firsts.{nat_cases}
use Rattle.postscript_layout_write.proofs.Holding.{holds-array, holds-first, holds-in, holds-second, holds-word, length-array, length-uint16}
use Rattle.postscript_layout_write.proofs.Reading.{Searched, any-default, length-coverage, length-offsets, missing, offsets-read, present, searched}
use Rattle.postscript_layout_write.proofs.RuleRows.{ligatures-more, words-more}

pub not-eq : (a b : ℕ) → (a ≡ b → ⊥) → nat_eq a b ≡ false
not-eq a b never = by (nat_eq a b) refl
  where
    by : (t : Bool) → nat_eq a b ≡ t → t ≡ false
    by true e = absurd (never (eqb-true a b e))
    by false e = refl

-- arrays of glyphs
words-take : (t : List ℕ) (o : ℕ) (ns : List ℕ) (k : ℕ) → k ≤ length ns → All (λ n. n < 65536) ns → Holds (array_text ns) t o → words t o k ≡ take k ns
words-take t o ns zero less all h = refl
words-take t o ns (suc m) less all h =
    let within : m < length ns = omega (arith, less) in
    ap (words t o) (sym (add-one m)) ∙ words-more t o m ∙ ap (λ xs. xs ++ word t (o + m * 2) ∷ []) (words-take t o ns m (omega (arith, less)) all h)
    ∙ ap (λ n. take m ns ++ n ∷ []) (holds-array ns o m within (All-get_or (λ n. n < 65536) ns m 0 within all) h)
    ∙ sym (take_more ns m 0 within) ∙ ap (λ k. take k ns) (add-one m)

pub words-read : (t : List ℕ) (o : ℕ) (ns : List ℕ) (n : ℕ) → n ≡ length ns → All (λ n. n < 65536) ns → Holds (array_text ns) t o → words t o n ≡ ns
words-read t o ns n many all h = words-take t o ns n (omega (arith, many)) all h ∙ take_all n ns (omega (arith, many))

several-read : (t : List ℕ) (set : ℕ) (rule : List ℕ) → length rule < 65536 → All (λ n. n < 65536) rule → Holds (several_text rule) t set → glyphs_of t set ≡ rule
unfolding several_text
several-read t set rule short all h =
    words-read t (set + 2) rule (word t set) (holds-word (length rule) short (holds-first (uint16 (length rule)) (array_text rule) h)) all
    (holds-second (uint16 (length rule)) (array_text rule) 2 (length-uint16 (length rule)) h)

ligature-read : (t : List ℕ) (l : ℕ) (rule : List ℕ) → IsLigature rule → IsShort rule → Holds (ligature_text rule) t l → ligature_rule t l ≡ rule
unfolding ligature_text
ligature-read t l [] is short h = (let some = is.0 in absurd (omega (arith, some)))
ligature-read t l (g ∷ gs) is short h =
    let rest = holds-second (uint16 g) (uint16 (length gs + 1) ++ array_text gs) 2 (length-uint16 g) h in
    let first = holds-word g (All-head (λ n. n < 65536) g gs is.1) (holds-first (uint16 g) _ h) in
    let many = holds-word (length gs + 1) (omega (arith, short)) (holds-first (uint16 (length gs + 1)) (array_text gs) rest) in
    let others = words-read t (l + 4) gs (word t (l + 2) - 1) (omega (arith, many)) (All-tail (λ n. n < 65536) g gs is.1)
    (subst (Holds (array_text gs) t) (omega arith) (holds-second (uint16 (length gs + 1)) (array_text gs) 2 (length-uint16 (length gs + 1)) rest)) in
    ap (λ n. n ∷ words t (l + 4) (word t (l + 2) - 1)) first ∙ ap (λ xs. g ∷ xs) others

length-ligature : (rule : List ℕ) → 0 < length rule → length (ligature_text rule) ≡ 2 + length rule * 2
unfolding ligature_text
length-ligature [] some = absurd (omega (arith, some))
length-ligature (g ∷ gs) some =
    let a = length-append (uint16 g) (uint16 (length gs + 1) ++ array_text gs) in
    let b = length-append (uint16 (length gs + 1)) (array_text gs) in
    let c = length-array gs in
    omega (arith, a, b, c, length-uint16 g, length-uint16 (length gs + 1))

length-places : (start : ℕ) (rules : List (List ℕ)) → length (places_text start rules) ≡ length rules * 2
unfolding places_text
length-places start [] = refl
length-places start (rule ∷ rules) =
    let a = length-append (uint16 start) (places_text (start + 2 + length rule * 2) rules) in
    let b = length-places (start + 2 + length rule * 2) rules in
    omega (arith, a, b, length-uint16 start)

-- ligature k of a set
place-read : (t : List ℕ) (p s start : ℕ) (rules : List (List ℕ)) (k : ℕ) → k < length rules → PlacesFit start rules → All IsLigature rules → All IsShort rules →
    Holds (places_text start rules) t p → Holds (ligatures_text rules) t (s + start) → ligature_rule t (s + word t (p + k * 2)) ≡ get_or rules k []
unfolding places_text ligatures_text
place-read t p s start [] k less fit are short h g = absurd (omega (arith, less))
place-read t p s start (rule ∷ rules) zero less fit are short h g =
    ap (λ n. ligature_rule t (s + word t n)) (omega arith)
    ∙ ap (λ n. ligature_rule t (s + n)) (holds-word start fit.0 (holds-first (uint16 start) _ h))
    ∙ ligature-read t (s + start) rule (All-head IsLigature rule rules are) (All-head IsShort rule rules short) (holds-first (ligature_text rule) _ g)
place-read t p s start (rule ∷ rules) (suc k) less fit are short h g =
    let some = (All-head IsLigature rule rules are).0 in
    ap (λ n. ligature_rule t (s + word t n)) (omega arith)
    ∙ place-read t (p + 2) s (start + 2 + length rule * 2) rules k (omega (arith, less)) fit.1 (All-tail IsLigature rule rules are) (All-tail IsShort rule rules short)
    (holds-second (uint16 start) _ 2 (length-uint16 start) h)
    (subst (Holds (ligatures_text rules) t) (omega arith)
    (holds-second (ligature_text rule) (ligatures_text rules) (2 + length rule * 2) (length-ligature rule some) g))

module _ (t : List ℕ) (set : ℕ) (rules : List (List ℕ)) (few : length rules < 32767) (fit : PlacesFit (2 + length rules * 2) rules)
    (are : All IsLigature rules) (short : All IsShort rules) (h : Holds (ligature_set_text rules) t set) where
  many-read : word t set ≡ length rules
  unfolding ligature_set_text
  many-read = holds-word (length rules) (omega (arith, few)) (holds-first (uint16 (length rules)) _ h)

  set-rest : Holds (places_text (2 + length rules * 2) rules ++ ligatures_text rules) t (set + 2)
  unfolding ligature_set_text
  set-rest = holds-second (uint16 (length rules)) _ 2 (length-uint16 (length rules)) h

  each-read : (k : ℕ) → k < length rules → ligature_rule t (ligature_of t set k) ≡ get_or rules k []
  each-read k less = place-read t (set + 2) set (2 + length rules * 2) rules k less fit are short
      (holds-first (places_text (2 + length rules * 2) rules) (ligatures_text rules) set-rest)
      (subst (Holds (ligatures_text rules) t) (omega arith)
      (holds-second (places_text (2 + length rules * 2) rules) (ligatures_text rules) (length rules * 2) (length-places (2 + length rules * 2) rules) set-rest))

  ligatures-take : (k : ℕ) → k ≤ length rules → ligature_rules t set k ≡ take k rules
  ligatures-take zero less = refl
  ligatures-take (suc m) less =
      let within : m < length rules = omega (arith, less) in
      ap (ligature_rules t set) (sym (add-one m)) ∙ ligatures-more t set m
      ∙ ap (λ xs. xs ++ ligature_rule t (ligature_of t set m) ∷ []) (ligatures-take m (omega (arith, less)))
      ∙ ap (λ r. take m rules ++ r ∷ []) (each-read m within)
      ∙ sym (take_more rules m [] within) ∙ ap (λ k. take k rules) (add-one m)

  pub ligatures-read : ligature_rules t set (word t set) ≡ rules
  ligatures-read = ap (ligature_rules t set) many-read ∙ ligatures-take (length rules) (omega arith) ∙ take_all (length rules) rules (omega arith)

-- the numbers of a subtable
pub record IsRuleRead (t : List ℕ) (s type : ℕ) (firsts numbers sets : List ℕ) : Type 0 where
  pub format : word t s ≡ format_of type
  pub coverage : word t (s + 2) ≡ 6 + length firsts * 2
  pub count : word t (s + 4) ≡ length firsts
  pub number : (k : ℕ) → k < length firsts → word t (s + 6 + k * 2) ≡ base_of type (length firsts) + get_or numbers k 0
  pub list : word t (s + (6 + length firsts * 2)) ≡ 1
  pub many : word t (s + (6 + length firsts * 2) + 2) ≡ length firsts
  pub glyph : (k : ℕ) → k < length firsts → word t (s + (6 + length firsts * 2) + 4 + k * 2) ≡ get_or firsts k 0
  pub behind : Holds sets t (s + (10 + length firsts * 4))

format-small : (type : ℕ) → format_of type < 65536
format-small type = by (nat_eq type 1)
  where
    by : (b : Bool) → (if b then 2 else 1) < 65536
    by true = omega arith
    by false = omega arith

length-head : (format coverage count : ℕ) → length (uint16 format ++ (uint16 coverage ++ uint16 count)) ≡ 6
unfolding uint16
length-head format coverage count = refl

rule-numbers : (t : List ℕ) (s type : ℕ) (firsts numbers sets : List ℕ) → length numbers ≡ length firsts → length firsts ≤ 16380 →
    ((k : ℕ) → k < length firsts → get_or firsts k 0 < 65536) → AreOffsets (base_of type (length firsts)) numbers →
    Holds (rules_text type firsts numbers sets) t s → IsRuleRead t s type firsts numbers sets
unfolding rules_text coverage_text
rule-numbers t s type firsts numbers sets same few glyphs fit h =
    let m = length firsts in
    let base = base_of type (length firsts) in
    let head = holds-first (uint16 (format_of type) ++ (uint16 (6 + m * 2) ++ uint16 m)) _ h in
    let head2 = holds-second (uint16 (format_of type)) (uint16 (6 + m * 2) ++ uint16 m) 2 (length-uint16 (format_of type)) head in
    let head4 = holds-second (uint16 (6 + m * 2)) (uint16 m) 2 (length-uint16 (6 + m * 2)) head2 in
    let h6 = holds-second (uint16 (format_of type) ++ (uint16 (6 + m * 2) ++ uint16 m)) _ 6 (length-head (format_of type) (6 + m * 2) m) h in
    let offs = holds-first (offsets_text base numbers) _ h6 in
    let long = length-offsets base numbers in
    let rest = holds-second (offsets_text base numbers) (coverage_text firsts ++ sets) (m * 2) (omega (arith, long, same)) h6 in
    let cover = holds-first (coverage_text firsts) sets rest in
    let cover2 = holds-second (uint16 1) _ 2 (length-uint16 1) cover in
    let cover4 = holds-second (uint16 m) _ 2 (length-uint16 m) cover2 in
    record {
      format = holds-word (format_of type) (format-small type) (holds-first (uint16 (format_of type)) _ head);
      coverage = holds-word (6 + m * 2) (omega (arith, few)) (holds-first (uint16 (6 + m * 2)) (uint16 m) head2);
      count = ap (word t) (omega arith) ∙ holds-word m (omega (arith, few)) head4;
      number = λ k less. offsets-read t (s + 6) base numbers k (omega (arith, same, less)) fit offs;
      list = ap (word t) (omega arith) ∙ holds-word 1 (omega arith) (holds-first (uint16 1) _ cover);
      many = ap (word t) (omega arith) ∙ holds-word m (omega (arith, few)) (holds-first (uint16 m) _ cover2);
      glyph = λ k less. ap (word t) (omega arith) ∙ holds-array firsts (s + 6 + m * 2 + 2 + 2) k less (glyphs k less) cover4;
      behind = subst (Holds sets t) (omega arith) (holds-second (coverage_text firsts) sets (4 + m * 2) (length-coverage firsts) rest);
    }

-- the rules of a first glyph in a subtable
module _ (t : List ℕ) (s type : ℕ) (f : ℕ → List (List ℕ)) (has : HasRuleSubtable type f t s) where
  read : IsRuleRead t s type has.firsts has.numbers has.sets
  read = rule-numbers t s type has.firsts has.numbers has.sets has.are.same has.few has.are.fit has.fit has.there

  index-read : (x : ℕ) → Searched has.firsts x (λ i. i) (coverage_index t (coverage_of t s) x)
  index-read x =
      let c = s + (6 + length has.firsts * 2) in
      let is : coverage_index t (coverage_of t s) x ≡ first_some (λ i. if word t (c + 4 + i * 2) == x then Some i else None) (word t (c + 2)) =
      ap (λ n. coverage_index t (s + n) x) read.coverage
      ∙ ap (λ (b : Bool). if b then first_some (λ i. if word t (c + 4 + i * 2) == x then Some i else None) (word t (c + 2))
      else (if word t c == 2 then index_in t x (range_of t c x) else None)) (eq-eqb (word t c) 1 read.list) in
      subst (Searched has.firsts x (λ i. i)) (sym is) (searched (λ i. word t (c + 4 + i * 2)) has.firsts x (λ i. i) (word t (c + 2)) read.many read.glyph)

  within : (k : ℕ) → k < length has.firsts → nat_lt k (word t (s + 4)) ≡ true
  within k less = lt-ltb k (word t (s + 4)) (let count = read.count in omega (arith, count, less))

  not-one : (n : ℕ) → n ≡ 2 → nat_eq n 1 ≡ false
  not-one n is = ap (λ k. nat_eq k 1) is

  -- a result of a single substitution
  single-at : (k x : ℕ) → k < length has.firsts → type ≡ 1 → rules_by t type s k x ≡ Some ((get_or has.numbers k 0 ∷ []) ∷ [])
  single-at k x less one =
      let two : word t s ≡ 2 = read.format ∙ ap format_of one in
      let number : word t (s + 6 + k * 2) ≡ get_or has.numbers k 0 = read.number k less ∙ ap (λ n. base_of n (length has.firsts) + get_or has.numbers k 0) one ∙ omega arith in
      ap (λ n. rules_by t n s k x) one
      ∙ ap (λ (b : Bool). rules_of_single (if b then Some ((x + word t (s + 4)) % 65536)
      else (if word t s == 2 then (if nat_lt k (word t (s + 4)) then Some (word t (s + 6 + k * 2)) else None) else None))) (not-one (word t s) two)
      ∙ ap (λ (b : Bool). rules_of_single (if b then (if nat_lt k (word t (s + 4)) then Some (word t (s + 6 + k * 2)) else None) else None)) (eq-eqb (word t s) 2 two)
      ∙ ap (λ (b : Bool). rules_of_single (if b then Some (word t (s + 6 + k * 2)) else None)) (within k less)
      ∙ ap (λ n. rules_of_single (Some n)) number

  -- the offset of a set
  set-there : (k : ℕ) → k < length has.firsts → (type == 1) ≡ false → set_at t s k ≡ Some (s + (10 + length has.firsts * 4) + get_or has.numbers k 0)
  set-there k less other =
      let one : word t s ≡ 1 = read.format ∙ ap (λ (b : Bool). if b then 2 else 1) other in
      let number = read.number k less in
      let base : base_of type (length has.firsts) ≡ 10 + length has.firsts * 4 = ap (λ (b : Bool). if b then 0 else 10 + length has.firsts * 4) other in
      ap (λ (b : Bool). if b && nat_lt k (word t (s + 4)) then Some (set_of t s k) else None) (eq-eqb (word t s) 1 one)
      ∙ ap (λ (b : Bool). if b then Some (set_of t s k) else None) (within k less)
      ∙ ap (λ n. Some n) (omega (arith, number, base))

  rules-there : (k x : ℕ) (rules : List (List ℕ)) → k < length has.firsts → HasRules type rules has.sets (get_or has.numbers k 0) → rules_by t type s k x ≡ Some rules
  rules-there k x rules less (has_single one is) = single-at k x less one ∙ ap (λ xs. Some xs) (sym is)
  rules-there k x rules less (has_several rule never1 never4 is short all h) =
      ap (λ (b : Bool). if b then rules_of_single (single_of t s k x)
      else (if type == 4 then rules_of_ligatures t (set_at t s k) else rules_of_several t (set_at t s k))) (not-eq type 1 never1)
      ∙ ap (λ (b : Bool). if b then rules_of_ligatures t (set_at t s k) else rules_of_several t (set_at t s k)) (not-eq type 4 never4)
      ∙ ap (rules_of_several t) (set-there k less (not-eq type 1 never1))
      ∙ ap (λ xs. Some (xs ∷ [])) (several-read t (s + (10 + length has.firsts * 4) + get_or has.numbers k 0) rule short all (holds-in read.behind h))
      ∙ ap (λ xs. Some xs) (sym is)
  rules-there k x rules less (has_ligatures four are shorts fit few h) =
      let at = s + (10 + length has.firsts * 4) + get_or has.numbers k 0 in
      let other : (type == 1) ≡ false = ap (λ n. n == 1) four in
      ap (λ n. if n == 1 then rules_of_single (single_of t s k x)
      else (if n == 4 then rules_of_ligatures t (set_at t s k) else rules_of_several t (set_at t s k))) four
      ∙ ap (rules_of_ligatures t) (set-there k less other)
      ∙ ap (λ xs. Some xs) (ligatures-read t at rules few fit are shorts (holds-in read.behind h))

  pub subtable-rules : (x : ℕ) → or_none (rules_in t type (Some s) x) ≡ f x
  subtable-rules x = by (coverage_index t (coverage_of t s) x) (index-read x)
    where
      by : (index : Option ℕ) → Searched has.firsts x (λ i. i) index → or_none (rules_covered t type s index x) ≡ f x
      by _ (missing none) = elim (nat_cases x has.count) [
        | inl less ↦ elim (has.are.all x less) [
          | inl is ↦ sym is
          | inr c ↦ absurd (none c.0 c.1 (any-default has.firsts c.0 0 x c.1 ∙ c.2))
        ]
        | inr far ↦ sym (has.bounded x far)
      ]
      by _ (present k less is) = ap or_none (rules-there k x (f (get_or has.firsts k 0)) less (has.are.each k less)) ∙ ap f is
