-- Rules that are collected: sets, subtables and lookups.
use Rattle.std.proofs.Common.{◌≡◌, refl, sym, ap, subst, ◌∙◌, inl, inr, ℕ, ◌+◌, ◌≤◌, ◌<◌, ◌&&◌, List, [], ◌∷◌, ◌++◌, length, length-append, get_or, arith, Bool, true, false}
use Rattle.std.specs.Prelude.{◌⊎◌, if◌then◌else◌}
use Rattle.std.specs.List.{Contains}
use Rattle.std.proofs.lemmas.Bool.{le-ltb, lt-ltb}
use Rattle.std.proofs.lemmas.List.{get_or_append_left, get_or_push}
use Rattle.std.proofs.lemmas.List.Elements.{Contains-append_left, Contains-push}
use Rattle.postscript_layout_write.specs.Contexts.{contexts_at}
use Rattle.postscript_layout_write.specs.Flags.{set_of, uses_set}
use Rattle.postscript_layout_write.specs.Holds.{Holds}
use Rattle.postscript_layout_write.specs.Pairs.{flag_of, lookup_at}
use Rattle.postscript_layout_write.specs.Renumbering.{kept_rules}
use Rattle.postscript_layout_write.specs.RuleLookups.{HasNewLookup, HasRuleLookups, PutsNext, has_contexts, has_reverses, has_rules, new_type, puts_contexts, puts_reverses, puts_rules}
use Rattle.postscript_layout_write.specs.Reverses.{reverses_at}
use Rattle.postscript_layout_write.specs.RuleSets.{AddsRules, AreRuleSets, HasRuleLookup, HasRules, HasRuleSubtable, PutsRules, has_ligatures, has_none, has_one, has_several, has_single, bare_text, no_rules, puts_none, puts_one, rule_front_text, rule_head_text, rules_text, some_rules, subtable_offset}
use Rattle.postscript_layout_write.specs.Rules.{is_kept, rules_of_type, type_at}
use Rattle.postscript_layout_write.specs.Substituting.{is_taken, keeps, new_flag, new_rules, rules_at}
use Rattle.postscript_layout_write.specs.Sets.{Places}
use Rattle.postscript_layout_write.specs.Text.{uint16}
use Rattle.postscript_layout_write.proofs.Firsts.{nat_cases}
use Rattle.postscript_layout_write.proofs.ContextCollecting.{chained-added, chained-in, chained-on}
use Rattle.postscript_layout_write.proofs.Holding.{holds-first, holds-in, holds-last, holds-on, holds-second}

-- rules with more bytes after them
rules-on : (type : ℕ) (rules : List (List ℕ)) (bytes more : List ℕ) (number : ℕ) → HasRules type rules bytes number → HasRules type rules (bytes ++ more) number
rules-on type rules bytes more number (has_single one is) = has_single one is
rules-on type rules bytes more number (has_several rule a b is short all h) = has_several rule a b is short all (holds-on more h)
rules-on type rules bytes more number (has_ligatures four are shorts fit few h) = has_ligatures four are shorts fit few (holds-on more h)

-- the sets of no first glyphs
pub sets-none : (type : ℕ) (f : ℕ → List (List ℕ)) (count : ℕ) (firsts numbers bytes : List ℕ) → firsts ≡ [] → numbers ≡ [] →
    ((x : ℕ) → x < count → f x ≡ []) → AreRuleSets type f count firsts numbers bytes
sets-none type f count firsts numbers bytes a b none =
    let no : length firsts ≡ 0 = ap length a in
    let same : length numbers ≡ 0 = ap length b in
    record {
      same = omega (arith, no, same);
      fit = λ k less. absurd (omega (arith, less, no));
      each = λ k less. absurd (omega (arith, less, no));
      all = λ x less. inl (none x less);
    }

module _ (type : ℕ) (f : ℕ → List (List ℕ)) (x : ℕ) where
  all-less : (firsts : List ℕ) → ((z : ℕ) → z < x → (f z ≡ []) ⊎ Contains firsts z) → (f x ≡ []) ⊎ Contains firsts x →
      (z : ℕ) → z < x + 1 → (f z ≡ []) ⊎ Contains firsts z
  all-less firsts old here z less = elim (nat_cases z x) [
    | inl early ↦ old z early
    | inr late ↦ (let same : x ≡ z = omega (arith, less, late) in subst (λ w. (f w ≡ []) ⊎ Contains firsts w) same here)
  ]

  longer : (firsts : List ℕ) (z y : ℕ) → (f z ≡ []) ⊎ Contains firsts z → (f z ≡ []) ⊎ Contains (firsts ++ y ∷ []) z
  longer firsts z y h = elim h [
    | inl none ↦ inl none
    | inr there ↦ inr (Contains-append_left firsts (y ∷ []) z there)
  ]

  -- the sets with the rules of one more first glyph
  pub rule-sets-more : (firsts numbers bytes newfirsts newnumbers newbytes : List ℕ) → AddsRules type x (f x) firsts numbers bytes newfirsts newnumbers newbytes →
      AreRuleSets type f x firsts numbers bytes → AreRuleSets type f (x + 1) newfirsts newnumbers newbytes
  rule-sets-more firsts numbers bytes newfirsts newnumbers newbytes (no_rules none a b c) s =
      subst (λ (xs : List ℕ). AreRuleSets type f (x + 1) xs newnumbers newbytes) (sym a)
      (subst (λ (xs : List ℕ). AreRuleSets type f (x + 1) firsts xs newbytes) (sym b)
      (subst (λ (xs : List ℕ). AreRuleSets type f (x + 1) firsts numbers xs) (sym c) (record {
        same = s.same;
        fit = s.fit;
        each = s.each;
        all = all-less firsts s.all (inl none);
      })))
  rule-sets-more firsts numbers bytes newfirsts newnumbers newbytes (some_rules number more small a b c has) s =
      subst (λ (xs : List ℕ). AreRuleSets type f (x + 1) xs newnumbers newbytes) (sym a)
      (subst (λ (xs : List ℕ). AreRuleSets type f (x + 1) (firsts ++ x ∷ []) xs newbytes) (sym b)
      (record {
        same = (let same = s.same in omega (arith, same, length-append firsts (x ∷ []), length-append numbers (number ∷ [])));
        fit = λ k less. elim (nat_cases k (length firsts)) [
          | inl early ↦ subst (λ w. w < 65536) (sym (get_or_append_left firsts (x ∷ []) 0 k early)) (s.fit k early)
          | inr late ↦ subst (λ w. w < 65536) (sym (get_or_push firsts x 0 k (last k less late))) small
        ];
        each = λ k less. elim (nat_cases k (length firsts)) [
          | inl early ↦ subst (λ w. HasRules type (f w) newbytes (get_or (numbers ++ number ∷ []) k 0)) (sym (get_or_append_left firsts (x ∷ []) 0 k early))
              (subst (λ w. HasRules type (f (get_or firsts k 0)) newbytes w)
              (sym (get_or_append_left numbers (number ∷ []) 0 k (let same = s.same in omega (arith, same, early))))
              (subst (λ (xs : List ℕ). HasRules type (f (get_or firsts k 0)) xs (get_or numbers k 0)) (sym c)
              (rules-on type (f (get_or firsts k 0)) bytes more (get_or numbers k 0) (s.each k early))))
          | inr late ↦ subst (λ w. HasRules type (f w) newbytes (get_or (numbers ++ number ∷ []) k 0)) (sym (get_or_push firsts x 0 k (last k less late)))
              (subst (λ w. HasRules type (f x) newbytes w)
              (sym (get_or_push numbers number 0 k (let same = s.same in let l = last k less late in omega (arith, same, l)))) has)
        ];
        all = all-less (firsts ++ x ∷ []) (λ z less. longer firsts z x (s.all z less)) (inr (Contains-push firsts x));
      }))
    where
      last : (k : ℕ) → k < length (firsts ++ x ∷ []) → length firsts ≤ k → length firsts ≡ k
      last k less late = omega (arith, less, late, length-append firsts (x ∷ []))

-- rules of kept glyphs
pub rules-kept : (gsub kept : List ℕ) (lookup x : ℕ) → x < length kept →
    rules_at gsub kept lookup x ≡ kept_rules kept (rules_of_type gsub lookup (type_at gsub lookup) (get_or kept x 0))
rules-kept gsub kept lookup x less =
    ap (λ (t : Bool). if t then kept_rules kept (rules_of_type gsub lookup (type_at gsub lookup) (get_or kept x 0)) else []) (lt-ltb x (length kept) less)

rules-far : (gsub kept : List ℕ) (lookup x : ℕ) → length kept ≤ x → rules_at gsub kept lookup x ≡ []
rules-far gsub kept lookup x far =
    ap (λ (t : Bool). if t then kept_rules kept (rules_of_type gsub lookup (type_at gsub lookup) (get_or kept x 0)) else []) (le-ltb x (length kept) far)

new-far : (whole : Bool) (gsub chosen kept : List ℕ) (i x : ℕ) → length kept ≤ x → new_rules whole gsub chosen kept i x ≡ []
new-far whole gsub chosen kept i x far = by (keeps whole gsub chosen i (lookup_at gsub i))
  where
    by : (t : Bool) → (if t then rules_at gsub kept (lookup_at gsub i) x else []) ≡ []
    by true = rules-far gsub kept (lookup_at gsub i) x far
    by false = refl

-- lookups
subtable-on : (type : ℕ) (f : ℕ → List (List ℕ)) (bytes more : List ℕ) (at : ℕ) → HasRuleSubtable type f bytes at → HasRuleSubtable type f (bytes ++ more) at
subtable-on type f bytes more at s = record {
  firsts = s.firsts;
  numbers = s.numbers;
  sets = s.sets;
  count = s.count;
  are = s.are;
  bounded = s.bounded;
  fit = s.fit;
  few = s.few;
  there = holds-on more s.there;
}

lookup-on : (type flag set : ℕ) (f : ℕ → List (List ℕ)) (bytes more : List ℕ) (at : ℕ) → HasRuleLookup type flag set f bytes at →
    HasRuleLookup type flag set f (bytes ++ more) at
lookup-on type flag set f bytes more at (has_none none small h) = has_none none small (holds-on more h)
lookup-on type flag set f bytes more at (has_one small h s) = has_one small (holds-on more h) (subtable-on type f bytes more (at + subtable_offset flag) s)

length-rule-front : (type flag set : ℕ) → length (rule_front_text type flag set) ≡ subtable_offset flag
unfolding rule_front_text rule_head_text uint16
length-rule-front type flag set = by (uses_set flag)
  where
    by : (b : Bool) → length (rule_head_text type flag 1 ++ (uint16 (if b then 10 else 8) ++ (if b then uint16 set else []))) ≡ (if b then 10 else 8)
    by true = refl
    by false = refl

lookup-made : (type flag set : ℕ) (f : ℕ → List (List ℕ)) (n : ℕ) (firsts numbers sets old new : List ℕ) → ((x : ℕ) → n ≤ x → f x ≡ []) →
    PutsRules type flag set firsts numbers sets old new → AreRuleSets type f n firsts numbers sets → HasRuleLookup type flag set f new (length old)
lookup-made type flag set f n firsts numbers sets old new far (puts_none none small is) are =
    has_none nothing small (subst (λ (xs : List ℕ). Holds (bare_text type flag set) xs (length old)) (sym is) (holds-last old (bare_text type flag set)))
  where
    nothing : (x : ℕ) → f x ≡ []
    nothing x = elim (nat_cases x n) [
      | inl less ↦ elim (are.all x less) [
        | inl empty ↦ empty
        | inr c ↦ (let within = c.1 in let long = ap length none in absurd (omega (arith, within, long)))
      ]
      | inr past ↦ far x past
    ]
lookup-made type flag set f n firsts numbers sets old new far (puts_one small fit few is) are =
    has_one small (holds-first (rule_front_text type flag set) (rules_text type firsts numbers sets) whole) (record {
      firsts = firsts;
      numbers = numbers;
      sets = sets;
      count = n;
      are = are;
      bounded = far;
      fit = fit;
      few = few;
      there = holds-second (rule_front_text type flag set) (rules_text type firsts numbers sets) (subtable_offset flag) (length-rule-front type flag set) whole;
    })
  where
    whole : Holds (rule_front_text type flag set ++ rules_text type firsts numbers sets) new (length old)
    whole = subst (λ (xs : List ℕ). Holds (rule_front_text type flag set ++ rules_text type firsts numbers sets) xs (length old)) (sym is)
        (holds-last old (rule_front_text type flag set ++ rules_text type firsts numbers sets))

new-on : (whole : Bool) (gsub chosen kept : List ℕ) (i : ℕ) (bytes more : List ℕ) (at : ℕ) → HasNewLookup whole gsub chosen kept i bytes at →
    HasNewLookup whole gsub chosen kept i (bytes ++ more) at
new-on whole gsub chosen kept i bytes more at (has_rules is never h) =
    has_rules is never (lookup-on (new_type gsub (lookup_at gsub i)) (new_flag whole (flag_of gsub i)) (set_of gsub (lookup_at gsub i)) (new_rules whole gsub chosen kept i) bytes more at h)
new-on whole gsub chosen kept i bytes more at (has_contexts is h) = has_contexts is
    (chained-on 6 (new_flag whole (flag_of gsub i)) (set_of gsub (lookup_at gsub i)) (contexts_at gsub kept (lookup_at gsub i) (type_at gsub (lookup_at gsub i))) bytes more at h)
new-on whole gsub chosen kept i bytes more at (has_reverses is h) = has_reverses is
    (chained-on 8 (new_flag whole (flag_of gsub i)) (set_of gsub (lookup_at gsub i)) (reverses_at gsub kept (lookup_at gsub i)) bytes more at h)

-- lookup i is appended
next-made : (whole : Bool) (gsub chosen kept : List ℕ) (i : ℕ) (old new : List ℕ) → PutsNext whole gsub chosen kept (lookup_at gsub i) i old new →
    HasNewLookup whole gsub chosen kept i new (length old)
next-made whole gsub chosen kept i old new (puts_rules is never p) = has_rules is never
    (lookup-made (new_type gsub (lookup_at gsub i)) (new_flag whole (flag_of gsub i)) (set_of gsub (lookup_at gsub i)) (new_rules whole gsub chosen kept i) (length kept)
    p.firsts p.numbers p.sets old new (λ x far. new-far whole gsub chosen kept i x far) p.puts p.are)
next-made whole gsub chosen kept i old new (puts_contexts is p) = has_contexts is
    (chained-added 6 (new_flag whole (flag_of gsub i)) (set_of gsub (lookup_at gsub i)) (contexts_at gsub kept (lookup_at gsub i) (type_at gsub (lookup_at gsub i)))
    p.offsets p.subtables old new (omega arith) p.set_small p.have p.begins p.puts).has
next-made whole gsub chosen kept i old new (puts_reverses is p) = has_reverses is
    (chained-added 8 (new_flag whole (flag_of gsub i)) (set_of gsub (lookup_at gsub i)) (reverses_at gsub kept (lookup_at gsub i))
    p.offsets p.subtables old new (omega arith) p.set_small p.have p.begins p.puts).has

pub subtable-in : (type : ℕ) (f : ℕ → List (List ℕ)) (t bytes : List ℕ) (at offset : ℕ) → Holds bytes t at → HasRuleSubtable type f bytes offset →
    HasRuleSubtable type f t (at + offset)
subtable-in type f t bytes at offset h s = record {
  firsts = s.firsts;
  numbers = s.numbers;
  sets = s.sets;
  count = s.count;
  are = s.are;
  bounded = s.bounded;
  fit = s.fit;
  few = s.few;
  there = holds-in h s.there;
}

pub lookup-in : (type flag set : ℕ) (f : ℕ → List (List ℕ)) (t bytes : List ℕ) (at offset : ℕ) → Holds bytes t at → HasRuleLookup type flag set f bytes offset →
    HasRuleLookup type flag set f t (at + offset)
lookup-in type flag set f t bytes at offset h (has_none none small k) = has_none none small (holds-in h k)
lookup-in type flag set f t bytes at offset h (has_one small k s) =
    has_one small (holds-in h k) (subst (λ n. HasRuleSubtable type f t n) (omega arith) (subtable-in type f t bytes at (offset + subtable_offset flag) h s))

pub new-in : (whole : Bool) (gsub chosen kept : List ℕ) (i : ℕ) (t bytes : List ℕ) (at offset : ℕ) → Holds bytes t at →
    HasNewLookup whole gsub chosen kept i bytes offset → HasNewLookup whole gsub chosen kept i t (at + offset)
new-in whole gsub chosen kept i t bytes at offset h (has_rules is never k) = has_rules is never
    (lookup-in (new_type gsub (lookup_at gsub i)) (new_flag whole (flag_of gsub i)) (set_of gsub (lookup_at gsub i)) (new_rules whole gsub chosen kept i) t bytes at offset h k)
new-in whole gsub chosen kept i t bytes at offset h (has_contexts is k) = has_contexts is
    (chained-in 6 (new_flag whole (flag_of gsub i)) (set_of gsub (lookup_at gsub i)) (contexts_at gsub kept (lookup_at gsub i) (type_at gsub (lookup_at gsub i)))
    t bytes at offset h k)
new-in whole gsub chosen kept i t bytes at offset h (has_reverses is k) = has_reverses is
    (chained-in 8 (new_flag whole (flag_of gsub i)) (set_of gsub (lookup_at gsub i)) (reverses_at gsub kept (lookup_at gsub i)) t bytes at offset h k)

-- the text of lookup i is placed
pub rule-lookups-more : (whole : Bool) (gsub chosen kept : List ℕ) (i offset : ℕ) (text offsets bytes newoffsets newbytes : List ℕ) →
    HasRuleLookups whole gsub chosen kept i offsets bytes → PutsNext whole gsub chosen kept (lookup_at gsub i) i [] text → Places text bytes newbytes offset →
    newoffsets ≡ offsets ++ offset ∷ [] → HasRuleLookups whole gsub chosen kept (i + 1) newoffsets newbytes
rule-lookups-more whole gsub chosen kept i offset text offsets bytes newoffsets newbytes has puts places is =
    subst (λ (xs : List ℕ). HasRuleLookups whole gsub chosen kept (i + 1) xs newbytes) (sym is) (record {
      many = (let many = has.many in omega (arith, many, length-append offsets (offset ∷ [])));
      each = λ k less. elim (nat_cases k i) [
        | inl early ↦ subst (λ w. HasNewLookup whole gsub chosen kept k newbytes w)
            (sym (get_or_append_left offsets (offset ∷ []) 0 k (let many = has.many in omega (arith, many, early))))
            (subst (λ (xs : List ℕ). HasNewLookup whole gsub chosen kept k xs (get_or offsets k 0)) (sym places.bytes)
            (new-on whole gsub chosen kept k bytes places.more (get_or offsets k 0) (has.each k early)))
        | inr late ↦ (let same : i ≡ k = omega (arith, less, late) in
            subst (λ j. HasNewLookup whole gsub chosen kept j newbytes (get_or (offsets ++ offset ∷ []) j 0)) same
            (subst (λ w. HasNewLookup whole gsub chosen kept i newbytes w) {x = offset + 0} (let last = get_or_push offsets offset 0 i has.many in omega (arith, last))
            (new-in whole gsub chosen kept i newbytes text offset 0 places.there (next-made whole gsub chosen kept i [] text puts))))
      ];
    })

-- the rules of a lookup that keeps them, or none
and-first : (a b : Bool) → (a && b) ≡ true → a ≡ true
and-first true b is = refl
and-first false b is = absurd (cc)

pub then-sets : (whole : Bool) (gsub chosen kept : List ℕ) (i lookup type n : ℕ) (firsts numbers bytes : List ℕ) → keeps whole gsub chosen i lookup ≡ true → type ≡ type_at gsub lookup →
    AreRuleSets type (rules_at gsub kept lookup) n firsts numbers bytes →
    AreRuleSets (new_type gsub lookup) (λ x. if keeps whole gsub chosen i lookup then rules_at gsub kept lookup x else []) n firsts numbers bytes
then-sets whole gsub chosen kept i lookup type n firsts numbers bytes there is are =
    let kind : is_kept (type_at gsub lookup) ≡ true = and-first _ (is_taken whole gsub chosen i lookup) there in
    let same : type ≡ new_type gsub lookup = is ∙ sym (ap (λ (b : Bool). if b then type_at gsub lookup else 1) kind) in
    subst (λ (b : Bool). AreRuleSets (new_type gsub lookup) (λ x. if b then rules_at gsub kept lookup x else []) n firsts numbers bytes) (sym there)
    (subst (λ t. AreRuleSets t (rules_at gsub kept lookup) n firsts numbers bytes) same are)

pub else-sets : (whole : Bool) (gsub chosen kept : List ℕ) (i lookup n : ℕ) (firsts numbers bytes : List ℕ) → keeps whole gsub chosen i lookup ≡ false → firsts ≡ [] → numbers ≡ [] →
    AreRuleSets (new_type gsub lookup) (λ x. if keeps whole gsub chosen i lookup then rules_at gsub kept lookup x else []) n firsts numbers bytes
else-sets whole gsub chosen kept i lookup n firsts numbers bytes never a b =
    sets-none (new_type gsub lookup) (λ x. if keeps whole gsub chosen i lookup then rules_at gsub kept lookup x else []) n firsts numbers bytes a b
    (λ x less. ap (λ (t : Bool). if t then rules_at gsub kept lookup x else []) never)
