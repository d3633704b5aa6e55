-- Rules that are read one after the other, and rules of a type.
use Rattle.std.proofs.Common.{◌≡◌, refl, sym, ap, subst, ◌∙◌, inl, inr, ℕ, zero, suc, ◌+◌, ◌*◌, ◌<◌, ◌==◌, List, [], ◌∷◌, ◌++◌, length, arith, add-one, Bool, true, false}
use Rattle.std.specs.Prelude.{Option, None, Some, ◌⊎◌, is_some, nat_eq, if◌then◌else◌}
use Rattle.std.specs.List.{All, cons_option}
use Rattle.std.proofs.lemmas.Bool.{eq-eqb, eqb-true}
use Rattle.std.proofs.lemmas.List.{append_assoc}
use Rattle.std.proofs.lemmas.List.FromFn.{map-range_with_len_more}
use Rattle.std.proofs.lemmas.List.Elements.{All-append, All-cons, All-head, All-nil, All-tail}
use Rattle.postscript_layout.specs.Numbers.{word, words}
use Rattle.postscript_layout.specs.Substitutions.{coverage_of, glyphs_of, ligature_of}
use Rattle.postscript_layout_write.specs.First.{all_below, first_some}
use Rattle.postscript_layout_write.specs.Ranges.{coverage_index}
use Rattle.postscript_layout_write.specs.Renumbering.{kept_rules, renumbered}
use Rattle.postscript_layout_write.specs.Rules.{all_rules, first_rules, ligature_rule, ligature_rules, or_none, part_at, rules_by, rules_covered, rules_in, rules_of_ligatures, rules_of_several, rules_of_single, rules_of_type, set_at, single_of}
use Rattle.postscript_layout_write.specs.RuleSets.{AreOfType, IsLigature, are_ligatures, are_several, are_single}
use Rattle.postscript_layout_write.proofs.Firsts.{Found, first-cases, first-found, none_found, option_cases, some_found}
use Rattle.postscript_layout_write.proofs.Renumbered.{all-small, kept-append}

pub words-more : (table : List ℕ) (offset i : ℕ) → words table offset (i + 1) ≡ words table offset i ++ word table (offset + i * 2) ∷ []
words-more table offset i = map-range_with_len_more (λ k. word table (offset + k * 2)) 0 i i (omega arith)

pub ligatures-more : (gsub : List ℕ) (set i : ℕ) →
    ligature_rules gsub set (i + 1) ≡ ligature_rules gsub set i ++ ligature_rule gsub (ligature_of gsub set i) ∷ []
ligatures-more gsub set i = map-range_with_len_more (λ k. ligature_rule gsub (ligature_of gsub set k)) 0 i i (omega arith)

pub below-more : {X : Type 0} (f : ℕ → List X) (i : ℕ) → all_below f (i + 1) ≡ all_below f i ++ f i
below-more f i = rw add-one refl

-- kept rules of a list, with the rules after it
pub kept-more : (kept : List ℕ) (before rules more : List (List ℕ)) → before ≡ kept_rules kept rules →
    before ++ kept_rules kept more ≡ kept_rules kept (rules ++ more)
kept-more kept before rules more is = ap (λ xs. xs ++ kept_rules kept more) is ∙ sym (kept-append kept rules more)

-- more rules, and those of them that are kept
pub kept-step : (kept : List ℕ) (now new rules more all : List (List ℕ)) → now ≡ kept_rules kept rules → new ≡ now ++ kept_rules kept more →
    all ≡ rules ++ more → new ≡ kept_rules kept all
kept-step kept now new rules more all is next sum =
    next ∙ kept-more kept now rules more is ∙ ap (kept_rules kept) (sym sum)

pub kept-on : (kept : List ℕ) (old now new rules more all : List (List ℕ)) → now ≡ old ++ kept_rules kept rules → new ≡ now ++ kept_rules kept more →
    all ≡ rules ++ more → new ≡ old ++ kept_rules kept all
kept-on kept old now new rules more all is next sum =
    next ∙ ap (λ xs. xs ++ kept_rules kept more) is ∙ append_assoc old (kept_rules kept rules) (kept_rules kept more)
    ∙ ap (λ xs. old ++ xs) (sym (kept-append kept rules more) ∙ ap (kept_rules kept) (sym sum))

-- the first subtable with an entry
pub first-there : (f : ℕ → Option (List (List ℕ))) (i n : ℕ) → first_some f i ≡ None → is_some (f i) ≡ true → i < n → or_none (f i) ≡ or_none (first_some f n)
first-there f i n before there less = elim (option_cases (f i)) [
  | inl none ↦ (let never = ap is_some none in absurd (cc))
  | inr some ↦ ap or_none (some.1 ∙ sym (first-found f i n some.0 before some.1 less))
]

pub not-some : (x : Option (List (List ℕ))) → is_some x ≡ false → x ≡ None
not-some None never = refl
not-some (Some y) never = absurd (cc)

-- the rules of a subtable of another type than ligatures: one, and one glyph in a single substitution
pub record IsOne (type : ℕ) (rules : List (List ℕ)) : Type 0 where
  pub rule : List ℕ
  pub is : rules ≡ rule ∷ []
  pub single : type ≡ 1 → length rule ≡ 1

module _ (gsub : List ℕ) (type : ℕ) (other : (type == 4) ≡ false) where
  one-single : (result : Option ℕ) (rules : List (List ℕ)) → rules_of_single result ≡ Some rules → IsOne type rules
  one-single None rules is = absurd (cc)
  one-single (Some g) rules is = record { rule = g ∷ []; is = cc; single = λ t. refl }

  one-several : (set : Option ℕ) (rules : List (List ℕ)) → (type ≡ 1 → ⊥) → rules_of_several gsub set ≡ Some rules → IsOne type rules
  one-several None rules never is = absurd (cc)
  one-several (Some set) rules never is = record { rule = glyphs_of gsub set; is = cc; single = λ t. absurd (never t) }

  one-by : (subtable i glyph : ℕ) (rules : List (List ℕ)) → rules_by gsub type subtable i glyph ≡ Some rules → IsOne type rules
  one-by subtable i glyph rules is = by (type == 1) refl (sym (ap (λ (b : Bool). if type == 1 then rules_of_single (single_of gsub subtable i glyph)
      else (if b then rules_of_ligatures gsub (set_at gsub subtable i) else rules_of_several gsub (set_at gsub subtable i))) other) ∙ is)
    where
      by : (b : Bool) → (type == 1) ≡ b → (if b then rules_of_single (single_of gsub subtable i glyph) else rules_of_several gsub (set_at gsub subtable i)) ≡ Some rules → IsOne type rules
      by true e h = one-single (single_of gsub subtable i glyph) rules h
      by false e h = one-several (set_at gsub subtable i) rules (λ t. (let yes = eq-eqb type 1 t in absurd (cc))) h

  one-covered : (subtable : ℕ) (index : Option ℕ) (glyph : ℕ) (rules : List (List ℕ)) → rules_covered gsub type subtable index glyph ≡ Some rules → IsOne type rules
  one-covered subtable None glyph rules is = absurd (cc)
  one-covered subtable (Some i) glyph rules is = one-by subtable i glyph rules is

  one-in : (part : Option ℕ) (glyph : ℕ) (rules : List (List ℕ)) → rules_in gsub type part glyph ≡ Some rules → IsOne type rules
  one-in None glyph rules is = absurd (cc)
  one-in (Some subtable) glyph rules is = one-covered subtable (coverage_index gsub (coverage_of gsub subtable) glyph) glyph rules is

-- rules of kept glyphs
OfType : (type : ℕ) (rules : List (List ℕ)) → Type 0
OfType type rules = (rules ≡ []) ⊎ AreOfType type rules

single-is : (rule : List ℕ) → length rule ≡ 1 → (g : ℕ) × (rule ≡ g ∷ [])
single-is [] one = absurd (omega (arith, one))
single-is (g ∷ []) one = (g, refl)
single-is (g ∷ h ∷ rest) one = absurd (omega (arith, one))

module _ (kept : List ℕ) (few : length kept < 65536) where
  one-kept : (type : ℕ) (rules : List (List ℕ)) → (type == 4) ≡ false → IsOne type rules → OfType type (kept_rules kept rules)
  unfolding OfType
  one-kept type rules other one = subst (λ (xs : List (List ℕ)). (kept_rules kept xs ≡ []) ⊎ AreOfType type (kept_rules kept xs)) (sym one.is)
      (by (renumbered kept one.rule) refl)
    where
      not-four : type ≡ 4 → ⊥
      not-four t = (let yes = eq-eqb type 4 t in absurd (cc))

      by : (new : Option (List ℕ)) → renumbered kept one.rule ≡ new →
          (kept_rules kept (one.rule ∷ []) ≡ []) ⊎ AreOfType type (kept_rules kept (one.rule ∷ []))
      by None e = inl (rw e refl)
      by (Some new) e = (let small = all-small kept one.rule new few e in
          let is : kept_rules kept (one.rule ∷ []) ≡ new ∷ [] = rw e refl in
          inr (subst (AreOfType type) (sym is) (cases (type == 1) refl small.0 small.1)))
        where
          cases : (b : Bool) → (type == 1) ≡ b → length new ≡ length one.rule → All (λ glyph. glyph < 65536) new → AreOfType type (new ∷ [])
          cases true t long all = (let first = eqb-true type 1 t in
              let g = single-is new (long ∙ one.single first) in
              are_single g.0 first (ap (λ xs. xs ∷ []) g.1))
          cases false t long all = are_several new (λ h. (let yes = eq-eqb type 1 h in absurd (cc))) not-four refl all

  -- ligatures
  some-more : (rule : List ℕ) (new : Option (List ℕ)) (rest : List (List ℕ)) → renumbered kept rule ≡ new → 0 < length rule → All IsLigature rest →
      All IsLigature (cons_option new rest)
  some-more rule None rest e some all = all
  some-more rule (Some new) rest e some all = (let small = all-small kept rule new few e in
      let long = small.0 in
      All-cons IsLigature new rest (omega (arith, long, some), small.1) all)

  some-kept : (rules : List (List ℕ)) → All (λ rule. 0 < length rule) rules → All IsLigature (kept_rules kept rules)
  some-kept [] all = All-nil IsLigature
  some-kept (rule ∷ rules) all = some-more rule (renumbered kept rule) (kept_rules kept rules) refl
      (All-head (λ rule. 0 < length rule) rule rules all) (some-kept rules (All-tail (λ rule. 0 < length rule) rule rules all))

-- ligatures and their components
some-row : (gsub : List ℕ) (set count : ℕ) → All (λ rule. 0 < length rule) (ligature_rules gsub set count)
some-row gsub set zero = All-nil (λ rule. 0 < length rule)
some-row gsub set (suc n) = subst (λ k. All (λ rule. 0 < length rule) (ligature_rules gsub set k)) {x = n + 1} {y = suc n} (add-one n)
    (subst (All (λ rule. 0 < length rule)) (sym (ligatures-more gsub set n))
    (All-append (λ rule. 0 < length rule) (ligature_rules gsub set n) (ligature_rule gsub (ligature_of gsub set n) ∷ []) (some-row gsub set n)
    (All-cons (λ rule. 0 < length rule) (ligature_rule gsub (ligature_of gsub set n)) [] (omega arith) (All-nil (λ rule. 0 < length rule)))))

some-set : (gsub : List ℕ) (set : Option ℕ) → All (λ rule. 0 < length rule) (or_none (rules_of_ligatures gsub set))
some-set gsub None = All-nil (λ rule. 0 < length rule)
some-set gsub (Some set) = some-row gsub set (word gsub set)

some-covered : (gsub : List ℕ) (subtable : ℕ) (index : Option ℕ) (glyph : ℕ) → All (λ rule. 0 < length rule) (or_none (rules_covered gsub 4 subtable index glyph))
some-covered gsub subtable None glyph = All-nil (λ rule. 0 < length rule)
some-covered gsub subtable (Some i) glyph = some-set gsub (set_at gsub subtable i)

some-in : (gsub : List ℕ) (part : Option ℕ) (glyph : ℕ) → All (λ rule. 0 < length rule) (or_none (rules_in gsub 4 part glyph))
some-in gsub None glyph = All-nil (λ rule. 0 < length rule)
some-in gsub (Some subtable) glyph = some-covered gsub subtable (coverage_index gsub (coverage_of gsub subtable) glyph) glyph

some-all : (gsub : List ℕ) (lookup glyph count : ℕ) → All (λ rule. 0 < length rule) (all_rules gsub lookup 4 glyph count)
some-all gsub lookup glyph zero = All-nil (λ rule. 0 < length rule)
some-all gsub lookup glyph (suc n) = All-append (λ rule. 0 < length rule) (all_rules gsub lookup 4 glyph n) (or_none (rules_in gsub 4 (part_at gsub lookup 4 n) glyph))
    (some-all gsub lookup glyph n) (some-in gsub (part_at gsub lookup 4 n) glyph)

first-kept : (gsub kept : List ℕ) (type glyph : ℕ) (f : ℕ → Option (List (List ℕ))) (n : ℕ) (x : Option (List (List ℕ))) → length kept < 65536 → (type == 4) ≡ false →
    ((j : ℕ) (rules : List (List ℕ)) → f j ≡ Some rules → IsOne type rules) → Found f n x → OfType type (kept_rules kept (or_none x))
unfolding OfType
first-kept gsub kept type glyph f n _ few other one (none_found none) = inl refl
first-kept gsub kept type glyph f n _ few other one (some_found j rules less is) = one-kept kept few type rules other (one j rules is)

-- the kept rules of a lookup are of its type
pub of-type : (gsub kept : List ℕ) (lookup type glyph : ℕ) → length kept < 65536 →
    (kept_rules kept (rules_of_type gsub lookup type glyph) ≡ []) ⊎ AreOfType type (kept_rules kept (rules_of_type gsub lookup type glyph))
unfolding OfType
of-type gsub kept lookup type glyph few = by (nat_eq type 4) refl
  where
    by : (b : Bool) → nat_eq type 4 ≡ b → (kept_rules kept (rules_of_type gsub lookup type glyph) ≡ []) ⊎ AreOfType type (kept_rules kept (rules_of_type gsub lookup type glyph))
    by true e = (let four : 4 ≡ type = sym (eqb-true type 4 e) in
        subst (λ t. (kept_rules kept (rules_of_type gsub lookup t glyph) ≡ []) ⊎ AreOfType t (kept_rules kept (rules_of_type gsub lookup t glyph))) four
        (inr (are_ligatures refl (some-kept kept few (all_rules gsub lookup 4 glyph (word gsub (lookup + 4)))
        (some-all gsub lookup glyph (word gsub (lookup + 4)))))))
    by false e = subst (λ (xs : List (List ℕ)). (kept_rules kept xs ≡ []) ⊎ AreOfType type (kept_rules kept xs))
        (sym (ap (λ (b : Bool). if b then all_rules gsub lookup type glyph (word gsub (lookup + 4)) else first_rules gsub lookup type glyph) e))
        (first-kept gsub kept type glyph (λ j. rules_in gsub type (part_at gsub lookup type j) glyph) (word gsub (lookup + 4)) _ few e
        (λ j rules is. one-in gsub type e (part_at gsub lookup type j) glyph rules is)
        (first-cases (λ j. rules_in gsub type (part_at gsub lookup type j) glyph) (word gsub (lookup + 4))))
