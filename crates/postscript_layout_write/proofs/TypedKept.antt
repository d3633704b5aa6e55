-- Lookups that were written with a subtable for each old one are read as before.
use Rattle.std.proofs.Common.{◌≡◌, refl, sym, ap, subst, ◌∙◌, ℕ, ◌+◌, ◌*◌, ◌<◌, ◌==◌, ◌&&◌, ◌||◌, List, [], ◌++◌, length, get_or, arith, Bool, true, false}
use Rattle.std.specs.Prelude.{Option, None, Some, nat_eq, nat_lt, if◌then◌else◌}
use Rattle.std.proofs.lemmas.Bool.{eq-eqb, eqb-true}
use Rattle.postscript_layout.specs.Numbers.{word, long}
use Rattle.postscript_layout_write.specs.Attaching.{HasAttaching}
use Rattle.postscript_layout_write.specs.Cursive.{by_lookup as connection_by_lookup, by_subtable as connected_by, by_subtables as connections_by}
use Rattle.postscript_layout_write.specs.First.{first_some}
use Rattle.postscript_layout_write.specs.Flags.{set_of, uses_set}
use Rattle.postscript_layout_write.specs.Holds.{Holds}
use Rattle.postscript_layout_write.specs.Ligatures.{by_lookup as ligature_by_lookup, by_subtable as ligature_by, by_subtables as ligatures_by}
use Rattle.postscript_layout_write.specs.Marks.{Attachment, attaches, attaching_at, by_lookup, by_subtable, by_subtables, of_format1, type_at, typed_at}
use Rattle.postscript_layout_write.specs.PositionContexts.{is_context}
use Rattle.postscript_layout_write.specs.Positions.{is_kept_type}
use Rattle.postscript_layout_write.specs.RuleSets.{rule_head_text}
use Rattle.postscript_layout_write.specs.Singles.{by_lookup as single_by_lookup, by_subtable as single_by, by_subtables as singles_by}
use Rattle.postscript_layout_write.specs.Text.{offsets_text, uint16}
use Rattle.postscript_layout_write.specs.Typed.{HasPart, HasRows, HasTyped, has_ends, has_marks, has_singles, parts_text}
use Rattle.postscript_layout_write.specs.declared.anchors.Side.TheVariants.{Cursive, Singles}
use Rattle.postscript_layout_write.proofs.Firsts.{first-none, first-same}
use Rattle.postscript_layout_write.proofs.Holding.{holds-first, holds-in, holds-second, holds-word}
use Rattle.postscript_layout_write.proofs.MarkKept.{format-read, subtable-attached, subtable-component}
use Rattle.postscript_layout_write.proofs.Reading.{length-offsets, offsets-read}
use Rattle.postscript_layout_write.proofs.RowKept.{connection-kept, ends-format, single-kept}
use Rattle.postscript_layout_write.proofs.RuleKept.{IsHead, head-read, length-rule-head}
use Rattle.postscript_layout_write.proofs.TypedWriting.{part-in}

-- a type that attaches marks is no other one
pub type-not : (type other : ℕ) → is_kept_type type ≡ true → is_kept_type other ≡ false → nat_eq type other ≡ false
type-not type other is never = by (nat_eq type other) refl
  where
    by : (b : Bool) → nat_eq type other ≡ b → b ≡ false
    by true e = (let same = eqb-true type other e in let wrong : true ≡ false = sym is ∙ ap is_kept_type same ∙ never in absurd (cc))
    by false e = refl

same-if : {X : Type 0} (b : Bool) (x : Option X) → x ≡ None → x ≡ (if b then x else None)
same-if true x none = refl
same-if false x none = none

first-if : {X : Type 0} (b : Bool) (h : ℕ → Option X) (n : ℕ) → first_some (λ j. if b then h j else None) n ≡ (if b then first_some h n else None)
first-if true h n = refl
first-if false h n = first-none (λ j. None) n (λ k less. refl)

-- only a lookup of a type says something
at-type : {X : Type 0} (type n : ℕ) (b : Bool) (new old : Option X) → (type ≡ n → new ≡ (if b then old else None)) →
    (if type == n then new else None) ≡ (if b then (if type == n then old else None) else None)
at-type {X = X} type n b new old same = by (nat_eq type n) refl
  where
    by : (t : Bool) → nat_eq type n ≡ t → (if t then new else None) ≡ (if b then (if t then old else None) else None)
    by true is = same (eqb-true type n is)
    by false is = (let none : Option X = None in same-if b none refl)

-- a type that is kept is not that of contexts
pub kept-alone : (type : ℕ) → is_kept_type type ≡ true → is_context type ≡ false
kept-alone type is = by (is_context type) refl
  where
    not-seven : (n : ℕ) → is_kept_type n ≡ false → nat_eq type n ≡ false
    not-seven n never = type-not type n is never

    by : (b : Bool) → is_context type ≡ b → b ≡ false
    by true context = sym context ∙ ap (λ (b : Bool). b || (type == 8)) (not-seven 7 refl) ∙ not-seven 8 refl
    by false context = refl

-- subtables by their types
attached-part : (type : ℕ) (gpos : List ℕ) (part : Option ℕ) (kept t : List ℕ) (s : ℕ) → is_kept_type type ≡ true → (type ≡ 1 → ⊥) → (type ≡ 3 → ⊥) →
    HasPart type gpos part kept t s → HasAttaching type gpos (of_format1 gpos part) kept t s
attached-part type gpos part kept t s is a b (has_singles one h) = absurd (a one)
attached-part type gpos part kept t s is a b (has_ends three h) = absurd (b three)
attached-part type gpos part kept t s is a b (has_marks c d h) = h

single-part : (gpos : List ℕ) (part : Option ℕ) (kept t : List ℕ) (s type : ℕ) → type ≡ 1 → HasPart type gpos part kept t s → HasRows Singles gpos part kept t s
single-part gpos part kept t s type is (has_singles one h) = h
single-part gpos part kept t s type is (has_ends three h) = absurd (omega (arith, is, three))
single-part gpos part kept t s type is (has_marks c d h) = absurd (c is)

ends-part : (gpos : List ℕ) (part : Option ℕ) (kept t : List ℕ) (s type : ℕ) → type ≡ 3 → HasPart type gpos part kept t s →
    HasRows Cursive gpos (of_format1 gpos part) kept t s
ends-part gpos part kept t s type is (has_singles one h) = absurd (omega (arith, is, one))
ends-part gpos part kept t s type is (has_ends three h) = h
ends-part gpos part kept t s type is (has_marks c d h) = absurd (d is)

-- a lookup
module _ (gpos kept : List ℕ) (lookup flag : ℕ) (t : List ℕ) (l : ℕ) (has : HasTyped gpos kept lookup flag t l) where
  head : IsHead t l (type_at gpos lookup) flag (length has.offsets)
  unfolding parts_text
  head = (let few = has.few in head-read t l (type_at gpos lookup) flag (length has.offsets) has.type has.small
      (omega (arith, few)) (holds-first _ _ has.there))

  pub typed-flag : word t (l + 2) ≡ flag
  typed-flag = head.flag-is

  tail : Holds (offsets_text (6 + length has.offsets * 2) has.offsets ++ has.subtables) t (l + 6)
  unfolding parts_text
  tail = holds-second (rule_head_text (type_at gpos lookup) flag (length has.offsets)) _ 6
      (length-rule-head (type_at gpos lookup) flag (length has.offsets)) has.there

  behind : Holds has.subtables t (l + 6 + length has.offsets * 2)
  behind = holds-second (offsets_text (6 + length has.offsets * 2) has.offsets) has.subtables (length has.offsets * 2)
      (length-offsets (6 + length has.offsets * 2) has.offsets) tail

  pub typed-set : uses_set flag ≡ true → set_of t l ≡ set_of gpos lookup
  typed-set uses =
      let text : Holds (uint16 (set_of gpos lookup)) t (l + 6 + length has.offsets * 2 + 0) =
      subst (λ (b : Bool). Holds (if b then uint16 (set_of gpos lookup) else []) t (l + 6 + length has.offsets * 2 + 0)) uses (holds-in behind has.parts.set) in
      ap (λ n. word t (l + 6 + n * 2)) head.count-is ∙ ap (word t) (omega arith) ∙ holds-word (set_of gpos lookup) has.parts.set_small text

  -- the new offset of a subtable
  place : (j : ℕ) → ℕ
  place j = l + 6 + length has.offsets * 2 + get_or has.offsets j 0

  part-has : (j : ℕ) → j < word gpos (lookup + 4) → HasPart (type_at gpos lookup) gpos (typed_at gpos lookup (type_at gpos lookup) j) kept t (place j)
  unfolding place
  part-has j less = part-in (type_at gpos lookup) gpos (typed_at gpos lookup (type_at gpos lookup) j) kept t has.subtables (l + 6 + length has.offsets * 2) (get_or has.offsets j 0)
      behind (has.parts.each j less)

  part-at : (type j : ℕ) → word t l ≡ type → j < word gpos (lookup + 4) → typed_at t l type j ≡ Some (place j)
  unfolding place
  part-at type j is less =
      let many = has.parts.many in
      let part = l + word t (l + 6 + j * 2) in
      let at = offsets-read t (l + 6) (6 + length has.offsets * 2) has.offsets j (omega (arith, many, less)) has.fit
      (holds-first (offsets_text (6 + length has.offsets * 2) has.offsets) has.subtables tail) in
      ap (λ (b : Bool). if b then Some part else (if (word t l == 9) && (word t (part + 2) == type) then Some (part + long t (part + 4)) else None))
      (eq-eqb (word t l) type is)
      ∙ ap (λ n. Some n) (omega (arith, at))

  many-read : word t (l + 4) ≡ word gpos (lookup + 4)
  many-read = head.count-is ∙ has.parts.many

  -- all subtables of the new lookup, if each says the same of kept glyphs
  all-read : {X : Type 0} (b : Bool) (new old : ℕ → Option X) → ((j : ℕ) → j < word gpos (lookup + 4) → new j ≡ (if b then old j else None)) →
      first_some new (word t (l + 4)) ≡ (if b then first_some old (word gpos (lookup + 4)) else None)
  all-read b new old each = ap (first_some new) many-read
      ∙ first-same new (λ j. if b then old j else None) (word gpos (lookup + 4)) each ∙ first-if b old (word gpos (lookup + 4))

  module _ (keeps : is_kept_type (type_at gpos lookup) ≡ true) where
    pub word-type : word t l ≡ type_at gpos lookup
    word-type = head.type-is

    pub typed-type : type_at t l ≡ type_at gpos lookup
    typed-type = ap (λ (b : Bool). if b then word t (l + word t (l + 6) + 2) else word t l)
        (ap (λ k. nat_eq k 9) word-type ∙ type-not (type_at gpos lookup) 9 keeps refl) ∙ word-type

    part-read : (j : ℕ) → j < word gpos (lookup + 4) → typed_at t l (type_at gpos lookup) j ≡ Some (place j)
    part-read j less = part-at (type_at gpos lookup) j word-type less

    -- the same, if it has format 1
    format1-read : (j : ℕ) → j < word gpos (lookup + 4) → word t (place j) ≡ 1 → attaching_at t l (type_at gpos lookup) j ≡ Some (place j)
    format1-read j less is = ap (of_format1 t) (part-read j less) ∙ ap (λ (b : Bool). if b then Some (place j) else None) (eq-eqb (word t (place j)) 1 is)

    attached : (type_at gpos lookup ≡ 1 → ⊥) → (type_at gpos lookup ≡ 3 → ⊥) → (j : ℕ) → j < word gpos (lookup + 4) →
        HasAttaching (type_at gpos lookup) gpos (attaching_at gpos lookup (type_at gpos lookup) j) kept t (place j)
    attached a b j less = attached-part (type_at gpos lookup) gpos (typed_at gpos lookup (type_at gpos lookup) j) kept t (place j) keeps a b (part-has j less)

    attached-at : (a : type_at gpos lookup ≡ 1 → ⊥) (b : type_at gpos lookup ≡ 3 → ⊥) (j : ℕ) → j < word gpos (lookup + 4) →
        attaching_at t l (type_at gpos lookup) j ≡ Some (place j)
    attached-at a b j less = format1-read j less
        (format-read (type_at gpos lookup) gpos (attaching_at gpos lookup (type_at gpos lookup) j) kept t (place j) (attached a b j less))

    -- marks
    subtables-read : (type_at gpos lookup ≡ 5 → ⊥) → (type_at gpos lookup ≡ 1 → ⊥) → (type_at gpos lookup ≡ 3 → ⊥) → (x y : ℕ) →
        by_subtables t l (type_at gpos lookup) x y
        ≡ (if nat_lt x (length kept) && nat_lt y (length kept) then by_subtables gpos lookup (type_at gpos lookup) (get_or kept x 0) (get_or kept y 0) else None)
    subtables-read not a b x y = all-read (nat_lt x (length kept) && nat_lt y (length kept)) (λ j. by_subtable t (attaching_at t l (type_at gpos lookup) j) x y)
        (λ j. by_subtable gpos (attaching_at gpos lookup (type_at gpos lookup) j) (get_or kept x 0) (get_or kept y 0))
        (λ j less. ap (λ (p : Option ℕ). by_subtable t p x y) (attached-at a b j less)
        ∙ subtable-attached (type_at gpos lookup) gpos (attaching_at gpos lookup (type_at gpos lookup) j) kept t (place j) (attached a b j less) not x y)

    pub marks-attached : (x y : ℕ) → by_lookup t l x y
        ≡ (if nat_lt x (length kept) && nat_lt y (length kept) then by_lookup gpos lookup (get_or kept x 0) (get_or kept y 0) else None)
    marks-attached x y = ap (λ k. if attaches k then by_subtables t l k x y else None) typed-type ∙ by (attaches (type_at gpos lookup)) refl
      where
        never : attaches (type_at gpos lookup) ≡ true → (n : ℕ) → attaches n ≡ false → type_at gpos lookup ≡ n → ⊥
        never is n other same = (let wrong : true ≡ false = sym is ∙ ap attaches same ∙ other in absurd (cc))

        by : (b : Bool) → attaches (type_at gpos lookup) ≡ b → (if b then by_subtables t l (type_at gpos lookup) x y else None)
            ≡ (if nat_lt x (length kept) && nat_lt y (length kept)
            then (if b then by_subtables gpos lookup (type_at gpos lookup) (get_or kept x 0) (get_or kept y 0) else None) else None)
        by true is = subtables-read (never is 5 refl) (never is 1 refl) (never is 3 refl) x y
        by false is = (let none : Option Attachment = None in same-if (nat_lt x (length kept) && nat_lt y (length kept)) none refl)

    -- components of ligatures
    components-read : type_at gpos lookup ≡ 5 → (x y component : ℕ) → ligatures_by t l x y component
        ≡ (if nat_lt x (length kept) && nat_lt y (length kept) then ligatures_by gpos lookup (get_or kept x 0) (get_or kept y 0) component else None)
    components-read five x y component =
        let a : type_at gpos lookup ≡ 1 → ⊥ = λ one. omega (arith, five, one) in
        let b : type_at gpos lookup ≡ 3 → ⊥ = λ three. omega (arith, five, three) in
        all-read (nat_lt x (length kept) && nat_lt y (length kept)) (λ j. ligature_by t (attaching_at t l 5 j) x y component)
        (λ j. ligature_by gpos (attaching_at gpos lookup 5 j) (get_or kept x 0) (get_or kept y 0) component)
        (λ j less. ap (λ k. ligature_by t (attaching_at t l k j) x y component) (sym five)
        ∙ ap (λ (p : Option ℕ). ligature_by t p x y component) (attached-at a b j less)
        ∙ subtable-component (type_at gpos lookup) gpos (attaching_at gpos lookup (type_at gpos lookup) j) kept t (place j) (attached a b j less) five x y component
        ∙ ap (λ k. if nat_lt x (length kept) && nat_lt y (length kept) then ligature_by gpos (attaching_at gpos lookup k j) (get_or kept x 0) (get_or kept y 0) component else None) five)

    pub components-attached : (x y component : ℕ) → ligature_by_lookup t l x y component
        ≡ (if nat_lt x (length kept) && nat_lt y (length kept) then ligature_by_lookup gpos lookup (get_or kept x 0) (get_or kept y 0) component else None)
    components-attached x y component = ap (λ k. if k == 5 then ligatures_by t l x y component else None) typed-type
        ∙ at-type (type_at gpos lookup) 5 (nat_lt x (length kept) && nat_lt y (length kept)) (ligatures_by t l x y component)
        (ligatures_by gpos lookup (get_or kept x 0) (get_or kept y 0) component) (λ five. components-read five x y component)

    -- single adjustments
    singles-read : type_at gpos lookup ≡ 1 → (x : ℕ) → singles_by t l x ≡ (if nat_lt x (length kept) then singles_by gpos lookup (get_or kept x 0) else None)
    singles-read one x = all-read (nat_lt x (length kept)) (λ j. single_by t (typed_at t l 1 j) x) (λ j. single_by gpos (typed_at gpos lookup 1 j) (get_or kept x 0))
        (λ j less. ap (λ k. single_by t (typed_at t l k j) x) (sym one)
        ∙ ap (λ (p : Option ℕ). single_by t p x) (part-read j less)
        ∙ single-kept gpos (typed_at gpos lookup (type_at gpos lookup) j) kept t (place j)
        (single-part gpos (typed_at gpos lookup (type_at gpos lookup) j) kept t (place j) (type_at gpos lookup) one (part-has j less)) x
        ∙ ap (λ k. if nat_lt x (length kept) then single_by gpos (typed_at gpos lookup k j) (get_or kept x 0) else None) one)

    pub singles-kept : (x : ℕ) → single_by_lookup t l x ≡ (if nat_lt x (length kept) then single_by_lookup gpos lookup (get_or kept x 0) else None)
    singles-kept x = ap (λ k. if k == 1 then singles_by t l x else None) typed-type
        ∙ at-type (type_at gpos lookup) 1 (nat_lt x (length kept)) (singles_by t l x) (singles_by gpos lookup (get_or kept x 0)) (λ one. singles-read one x)

    -- connections
    ends-has : type_at gpos lookup ≡ 3 → (j : ℕ) → j < word gpos (lookup + 4) → HasRows Cursive gpos (attaching_at gpos lookup (type_at gpos lookup) j) kept t (place j)
    ends-has three j less = ends-part gpos (typed_at gpos lookup (type_at gpos lookup) j) kept t (place j) (type_at gpos lookup) three (part-has j less)

    connections-read : type_at gpos lookup ≡ 3 → (x y : ℕ) → connections_by t l x y
        ≡ (if nat_lt x (length kept) && nat_lt y (length kept) then connections_by gpos lookup (get_or kept x 0) (get_or kept y 0) else None)
    connections-read three x y = all-read (nat_lt x (length kept) && nat_lt y (length kept)) (λ j. connected_by t (attaching_at t l 3 j) x y)
        (λ j. connected_by gpos (attaching_at gpos lookup 3 j) (get_or kept x 0) (get_or kept y 0))
        (λ j less. ap (λ k. connected_by t (attaching_at t l k j) x y) (sym three)
        ∙ ap (λ (p : Option ℕ). connected_by t p x y) (format1-read j less
        (ends-format gpos (attaching_at gpos lookup (type_at gpos lookup) j) kept t (place j) (ends-has three j less)))
        ∙ connection-kept gpos (attaching_at gpos lookup (type_at gpos lookup) j) kept t (place j) (ends-has three j less) x y
        ∙ ap (λ k. if nat_lt x (length kept) && nat_lt y (length kept) then connected_by gpos (attaching_at gpos lookup k j) (get_or kept x 0) (get_or kept y 0) else None) three)

    pub connections-kept : (x y : ℕ) → connection_by_lookup t l x y
        ≡ (if nat_lt x (length kept) && nat_lt y (length kept) then connection_by_lookup gpos lookup (get_or kept x 0) (get_or kept y 0) else None)
    connections-kept x y = ap (λ k. if k == 3 then connections_by t l x y else None) typed-type
        ∙ at-type (type_at gpos lookup) 3 (nat_lt x (length kept) && nat_lt y (length kept)) (connections_by t l x y)
        (connections_by gpos lookup (get_or kept x 0) (get_or kept y 0)) (λ three. connections-read three x y)
