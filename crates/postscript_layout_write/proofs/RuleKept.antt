-- Lookups of rules that were written are read as they were, and the whole table.
use Rattle.std.proofs.Common.{◌≡◌, refl, sym, ap, subst, ◌∙◌, inl, inr, ℕ, ◌+◌, ◌*◌, ◌≤◌, ◌<◌, ◌==◌, ◌&&◌, ◌||◌, List, [], ◌++◌, length, get_or, arith, Bool, true, false}
use Rattle.std.specs.Prelude.{Option, None, Some, ◌⊎◌, nat_eq, if◌then◌else◌}
use Rattle.std.specs.List.{range_with_len}
use Rattle.std.proofs.lemmas.Bool.{eq-eqb, eqb-true}
use Rattle.postscript_layout.specs.Numbers.{word, long}
use Rattle.postscript_layout_write.specs.Contexts.{all_have_formats, contexts_at, contexts_of, is_contextual}
use Rattle.postscript_layout_write.specs.Coverages.{HasChained}
use Rattle.postscript_layout_write.specs.First.{first_some}
use Rattle.postscript_layout_write.specs.Flags.{set_of, uses_set}
use Rattle.postscript_layout_write.specs.Holds.{Holds}
use Rattle.postscript_layout_write.specs.Pairs.{flag_of, lookup_at, lookups_of}
use Rattle.postscript_layout_write.specs.RuleLookups.{HasNewLookup, HasRuleLookups, has_contexts, has_reverses, has_rules, new_type}
use Rattle.postscript_layout_write.specs.Reverses.{reverses_at, reverses_of}
use Rattle.postscript_layout_write.specs.Rules.{is_kept, all_rules, first_rules, or_none, part_at, rules_in, rules_of, rules_of_type, type_at, type_of}
use Rattle.postscript_layout_write.specs.RuleSets.{HasRuleLookup, bare_text, has_none, has_one, rule_front_text, rule_head_text, subtable_offset}
use Rattle.postscript_layout_write.specs.Scopes.{mark_set_text}
use Rattle.postscript_layout_write.specs.ScriptLists.{ListsEnd}
use Rattle.postscript_layout_write.specs.Sets.{AreOffsets}
use Rattle.postscript_layout_write.specs.Substituting.{KeepsRules, is_taken, keeps, keeps_contexts, keeps_reverses, new_contexts, new_flag, new_reverses, new_rules, rules_at}
use Rattle.postscript_layout_write.specs.Text.{front_text, list_text, uint16}
use Rattle.postscript_layout_write.proofs.Holding.{holds-first, holds-second, holds-word, length-uint16}
use Rattle.postscript_layout_write.proofs.Kept.{count-held, keeps-lists, lookups-held, place-read}
use Rattle.postscript_layout_write.proofs.ContextReading.{applying-context, contexts-read, flag-read, have-sets, kept-context, set-read as chained-set, type-read}
use Rattle.postscript_layout_write.proofs.Reversing.{good-reverse, reverses-read}
use Rattle.postscript_layout_write.proofs.RuleCollecting.{new-in}
use Rattle.postscript_layout_write.proofs.RuleReading.{subtable-rules}

-- the numbers of a lookup
pub record IsHead (t : List ℕ) (l type flag count : ℕ) : Type 0 where
  pub type-is : word t l ≡ type
  pub flag-is : word t (l + 2) ≡ flag
  pub count-is : word t (l + 4) ≡ count

pub head-read : (t : List ℕ) (l type flag count : ℕ) → type < 65536 → flag < 65536 → count < 65536 → Holds (rule_head_text type flag count) t l → IsHead t l type flag count
unfolding rule_head_text
head-read t l type flag count a b c h =
    let h2 = holds-second (uint16 type) (uint16 flag ++ uint16 count) 2 (length-uint16 type) h in
    let h4 = holds-second (uint16 flag) (uint16 count) 2 (length-uint16 flag) h2 in
    record {
      type-is = holds-word type a (holds-first (uint16 type) _ h);
      flag-is = holds-word flag b (holds-first (uint16 flag) (uint16 count) h2);
      count-is = ap (word t) (omega arith) ∙ holds-word count c h4;
    }

pub length-rule-head : (type flag count : ℕ) → length (rule_head_text type flag count) ≡ 6
unfolding rule_head_text uint16
length-rule-head type flag count = refl

-- what a lookup says
record IsLookupRead (t : List ℕ) (l type flag set : ℕ) (f : ℕ → List (List ℕ)) : Type 0 where
  type-is : word t l ≡ type
  flag-is : word t (l + 2) ≡ flag
  set-is : uses_set flag ≡ true → set_of t l ≡ set
  rules-are : (x : ℕ) → rules_of_type t l type x ≡ f x

no-rules : (t : List ℕ) (l type x : ℕ) → word t (l + 4) ≡ 0 → rules_of_type t l type x ≡ []
no-rules t l type x none = by (type == 4)
  where
    by : (b : Bool) → (if b then all_rules t l type x (word t (l + 4)) else first_rules t l type x) ≡ []
    by true = ap (λ n. all_rules t l type x n) none
    by false = ap (λ n. or_none (first_some (λ j. rules_in t type (part_at t l type j) x) n)) none

one-rules : (t : List ℕ) (l type x : ℕ) → word t (l + 4) ≡ 1 → rules_of_type t l type x ≡ or_none (rules_in t type (part_at t l type 0) x)
one-rules t l type x one = by (type == 4)
  where
    by : (b : Bool) → (if b then all_rules t l type x (word t (l + 4)) else first_rules t l type x) ≡ or_none (rules_in t type (part_at t l type 0) x)
    by true = ap (λ n. all_rules t l type x n) one
    by false = ap (λ n. or_none (first_some (λ j. rules_in t type (part_at t l type j) x) n)) one

offset-small : (flag : ℕ) → subtable_offset flag < 65536
offset-small flag = by (uses_set flag)
  where
    by : (b : Bool) → (if b then 10 else 8) < 65536
    by true = omega arith
    by false = omega arith

part-read : (t : List ℕ) (l type offset : ℕ) → word t l ≡ type → word t (l + 6) ≡ offset → part_at t l type 0 ≡ Some (l + offset)
part-read t l type offset is at =
    let part = l + word t (l + 6 + 0 * 2) in
    let place : part ≡ l + offset = ap (λ n. l + word t n) {x = l + 6 + 0 * 2} {y = l + 6} (omega arith) ∙ ap (λ n. l + n) at in
    ap (λ (b : Bool). if b then Some part else (if (word t l == 7) && (word t (part + 2) == type) then Some (part + long t (part + 4)) else None)) (eq-eqb (word t l) type is)
    ∙ ap (λ n. Some n) place

-- the set of marks after the offsets of the subtables
set-read : (t : List ℕ) (l flag set count at : ℕ) → set < 65536 → word t (l + 4) ≡ count → l + 6 + count * 2 ≡ at → Holds (mark_set_text flag set) t at →
    uses_set flag ≡ true → set_of t l ≡ set
set-read t l flag set count at small many place h uses =
    ap (λ n. word t (l + 6 + n * 2)) many ∙ ap (word t) place
    ∙ holds-word set small (subst (λ (b : Bool). Holds (if b then uint16 set else []) t at) uses h)

lookup-read : (t : List ℕ) (l type flag set : ℕ) (f : ℕ → List (List ℕ)) → HasRuleLookup type flag set f t l → IsLookupRead t l type flag set f
unfolding bare_text rule_front_text
lookup-read t l type flag set f (has_none none small h) =
    let front = rule_head_text type flag 0 in
    let head = head-read t l type flag 0 small.type_small small.flag_small (omega arith) (holds-first front (mark_set_text flag set) h) in
    record {
      type-is = head.type-is;
      flag-is = head.flag-is;
      set-is = set-read t l flag set 0 (l + 6) small.set_small head.count-is (omega arith)
          (holds-second front (mark_set_text flag set) 6 (length-rule-head type flag 0) h);
      rules-are = λ x. no-rules t l type x head.count-is ∙ sym (none x);
    }
lookup-read t l type flag set f (has_one small h s) =
    let front = rule_head_text type flag 1 in
    let offset = uint16 (subtable_offset flag) in
    let head = head-read t l type flag 1 small.type_small small.flag_small (omega arith) (holds-first front (offset ++ mark_set_text flag set) h) in
    let rest = holds-second front (offset ++ mark_set_text flag set) 6 (length-rule-head type flag 1) h in
    let at = holds-word (subtable_offset flag) (offset-small flag) (holds-first offset (mark_set_text flag set) rest) in
    record {
      type-is = head.type-is;
      flag-is = head.flag-is;
      set-is = set-read t l flag set 1 (l + 6 + 2) small.set_small head.count-is (omega arith)
          (holds-second offset (mark_set_text flag set) 2 (length-uint16 (subtable_offset flag)) rest);
      rules-are = λ x. one-rules t l type x head.count-is
          ∙ ap (λ (p : Option ℕ). or_none (rules_in t type p x)) (part-read t l type (subtable_offset flag) head.type-is at)
          ∙ subtable-rules t (l + subtable_offset flag) type f s x;
    }

-- the type that is written is a type that is kept
module _ (gsub : List ℕ) (lookup : ℕ) where
  other : (n : ℕ) → is_kept n ≡ false → (1 ≡ n → ⊥) → nat_eq (new_type gsub lookup) n ≡ false
  other n never one = by (is_kept (type_at gsub lookup)) refl
    where
      kept : (b : Bool) → nat_eq (type_at gsub lookup) n ≡ b → is_kept (type_at gsub lookup) ≡ true → b ≡ false
      kept true e k = (let same = eqb-true (type_at gsub lookup) n e in let no = sym (ap is_kept same) ∙ k in absurd (cc))
      kept false e k = refl

      first : (b : Bool) → nat_eq 1 n ≡ b → b ≡ false
      first true e = absurd (one (eqb-true 1 n e))
      first false e = refl

      by : (b : Bool) → is_kept (type_at gsub lookup) ≡ b → nat_eq (if b then type_at gsub lookup else 1) n ≡ false
      by true k = kept (nat_eq (type_at gsub lookup) n) refl k
      by false k = first (nat_eq 1 n) refl

  pub not-seven : nat_eq (new_type gsub lookup) 7 ≡ false
  not-seven = other 7 refl (λ is. absurd (omega (arith, is)))

  pub not-five : nat_eq (new_type gsub lookup) 5 ≡ false
  not-five = other 5 refl (λ is. absurd (omega (arith, is)))

  pub not-six : nat_eq (new_type gsub lookup) 6 ≡ false
  not-six = other 6 refl (λ is. absurd (omega (arith, is)))

  pub not-eight : nat_eq (new_type gsub lookup) 8 ≡ false
  not-eight = other 8 refl (λ is. absurd (omega (arith, is)))

  pub has-rules : is_kept (new_type gsub lookup) ≡ true
  has-rules = by (is_kept (type_at gsub lookup)) refl
    where
      by : (b : Bool) → is_kept (type_at gsub lookup) ≡ b → is_kept (if b then type_at gsub lookup else 1) ≡ true
      by true k = k
      by false k = refl

first-true : (a b : Bool) → (a && b) ≡ true → a ≡ true
first-true true b is = refl
first-true false b is = absurd (cc)

-- a lookup that keeps contexts has a type that is not kept
module _ (whole : Bool) (gsub chosen : List ℕ) (i lookup : ℕ) (keeps-them : keeps_contexts whole gsub chosen i lookup ≡ true) where
  either-type : (a b : Bool) → (a || b) ≡ true → (a ≡ true) ⊎ (b ≡ true)
  either-type true b is = inl refl
  either-type false b is = inr is

  pub contextual : is_contextual gsub lookup ≡ true
  contextual = first-true _ (is_taken whole gsub chosen i lookup) keeps-them

  pub not-kept : is_kept (type_at gsub lookup) ≡ false
  not-kept = elim (either-type _ _ (first-true _ _ contextual)) [
    | inl five ↦ ap is_kept (eqb-true (type_at gsub lookup) 5 five)
    | inr six ↦ ap is_kept (eqb-true (type_at gsub lookup) 6 six)
  ]

  pub keeps-none : keeps whole gsub chosen i lookup ≡ false
  keeps-none = ap (λ (b : Bool). b && is_taken whole gsub chosen i lookup) not-kept

  pub no-reverses : keeps_reverses whole gsub chosen i lookup ≡ false
  no-reverses = ap (λ (b : Bool). b && is_taken whole gsub chosen i lookup) (elim (either-type _ _ (first-true _ _ contextual)) [
    | inl five ↦ ap (λ n. nat_eq n 8) (eqb-true (type_at gsub lookup) 5 five)
    | inr six ↦ ap (λ n. nat_eq n 8) (eqb-true (type_at gsub lookup) 6 six)
  ])

-- a lookup that keeps reverse chaining subtables
module _ (whole : Bool) (gsub chosen : List ℕ) (i lookup : ℕ) (keeps-them : keeps_reverses whole gsub chosen i lookup ≡ true) where
  pub eight : type_at gsub lookup ≡ 8
  eight = eqb-true (type_at gsub lookup) 8 (first-true _ (is_taken whole gsub chosen i lookup) keeps-them)

  pub keeps-no-rules : keeps whole gsub chosen i lookup ≡ false
  keeps-no-rules = ap (λ n. is_kept n && is_taken whole gsub chosen i lookup) eight

  pub no-contexts : keeps_contexts whole gsub chosen i lookup ≡ false
  no-contexts = ap (λ n. (((n == 5) || (n == 6)) && all_have_formats gsub lookup n (word gsub (lookup + 4))) && is_taken whole gsub chosen i lookup) eight

-- what a new lookup says
record IsNewRead (whole : Bool) (old chosen kept new : List ℕ) (i : ℕ) : Type 0 where
  flag-is : flag_of new i ≡ new_flag whole (flag_of old i)
  set-is : uses_set (new_flag whole (flag_of old i)) ≡ true → set_of new (lookup_at new i) ≡ set_of old (lookup_at old i)
  type-is : is_kept (type_of old i) ≡ true → type_of new i ≡ type_of old i
  rules-are : (x : ℕ) → rules_of new i x ≡ new_rules whole old chosen kept i x
  contexts-are : contexts_of new (range_with_len 0 (length kept)) i ≡ new_contexts whole old chosen kept i
  reverses-are : reverses_of new (range_with_len 0 (length kept)) i ≡ new_reverses whole old chosen kept i

rules-new-read : (whole : Bool) (old chosen kept new : List ℕ) (i : ℕ) → keeps_contexts whole old chosen i (lookup_at old i) ≡ false →
    keeps_reverses whole old chosen i (lookup_at old i) ≡ false →
    IsLookupRead new (lookup_at new i) (new_type old (lookup_at old i)) (new_flag whole (flag_of old i)) (set_of old (lookup_at old i)) (new_rules whole old chosen kept i) → IsNewRead whole old chosen kept new i
rules-new-read whole old chosen kept new i none never r =
    let l = lookup_at new i in
    let t = r.type-is in
    let type : type_of new i ≡ new_type old (lookup_at old i) =
    ap (λ (b : Bool). if b then word new (l + word new (l + 6) + 2) else word new l) (ap (λ n. nat_eq n 7) t ∙ not-seven old (lookup_at old i)) ∙ t in
    record {
      flag-is = r.flag-is;
      set-is = r.set-is;
      type-is = λ k. type ∙ ap (λ (b : Bool). if b then type_of old i else 1) k;
      rules-are = λ x. ap (λ n. if is_kept n then rules_of_type new l n x else []) type
          ∙ ap (λ (b : Bool). if b then rules_of_type new l (new_type old (lookup_at old i)) x else []) (has-rules old (lookup_at old i)) ∙ r.rules-are x;
      contexts-are = ap (λ (b : Bool). if (b || (type_at new l == 6)) && all_have_formats new l (type_at new l) (word new (l + 4)) then
          contexts_at new (range_with_len 0 (length kept)) l (type_of new i) else []) (ap (λ n. nat_eq n 5) type ∙ not-five old (lookup_at old i))
          ∙ ap (λ (b : Bool). if b && all_have_formats new l (type_at new l) (word new (l + 4)) then
          contexts_at new (range_with_len 0 (length kept)) l (type_of new i) else []) (ap (λ n. nat_eq n 6) type ∙ not-six old (lookup_at old i))
          ∙ sym (ap (λ (b : Bool). if b then contexts_at old kept (lookup_at old i) (type_of old i) else []) none);
      reverses-are = ap (λ (b : Bool). if b then reverses_at new (range_with_len 0 (length kept)) l else [])
          (ap (λ n. nat_eq n 8) type ∙ not-eight old (lookup_at old i))
          ∙ sym (ap (λ (b : Bool). if b then reverses_at old kept (lookup_at old i) else []) never);
    }

contexts-new-read : (whole : Bool) (old chosen kept new : List ℕ) (i : ℕ) → keeps_contexts whole old chosen i (lookup_at old i) ≡ true →
    HasChained false 6 (new_flag whole (flag_of old i)) (set_of old (lookup_at old i)) (contexts_at old kept (lookup_at old i) (type_at old (lookup_at old i))) new (lookup_at new i) → IsNewRead whole old chosen kept new i
contexts-new-read whole old chosen kept new i keeps-them has =
    let l = lookup_at new i in
    let contexts = contexts_at old kept (lookup_at old i) (type_of old i) in
    let six : word new l ≡ 6 = type-read new l 6 (new_flag whole (flag_of old i)) (set_of old (lookup_at old i)) contexts has in
    let type : type_of new i ≡ 6 = ap (λ n. if nat_eq n 7 then word new (l + word new (l + 6) + 2) else n) six in
    let sets : all_have_formats new l (type_at new l) (word new (l + 4)) ≡ true =
    ap (λ n. all_have_formats new l n (word new (l + 4))) type ∙ have-sets new l (new_flag whole (flag_of old i)) (set_of old (lookup_at old i)) contexts has in
    record {
      flag-is = flag-read new l 6 (new_flag whole (flag_of old i)) (set_of old (lookup_at old i)) contexts has;
      set-is = chained-set new l 6 (new_flag whole (flag_of old i)) (set_of old (lookup_at old i)) contexts has;
      type-is = λ k. absurd (let no = sym k ∙ not-kept whole old chosen i (lookup_at old i) keeps-them in cc);
      rules-are = λ x. ap (λ n. if is_kept n then rules_of_type new l n x else []) type
          ∙ sym (ap (λ (b : Bool). if b then rules_at old kept (lookup_at old i) x else []) (keeps-none whole old chosen i (lookup_at old i) keeps-them));
      contexts-are = ap (λ n. if ((n == 5) || (n == 6)) && all_have_formats new l n (word new (l + 4)) then
          contexts_at new (range_with_len 0 (length kept)) l n else []) type
          ∙ ap (λ (b : Bool). if b then contexts_at new (range_with_len 0 (length kept)) l 6 else []) (have-sets new l (new_flag whole (flag_of old i)) (set_of old (lookup_at old i)) contexts has)
          ∙ contexts-read new l (new_flag whole (flag_of old i)) (set_of old (lookup_at old i)) contexts has (length kept)
          (kept-context old kept (type_of old i) (part_at old (lookup_at old i) (type_of old i)) (word old (lookup_at old i + 4)))
          (applying-context old kept (type_of old i) (part_at old (lookup_at old i) (type_of old i)) (word old (lookup_at old i + 4)))
          ∙ sym (ap (λ (b : Bool). if b then contexts else []) keeps-them);
      reverses-are = ap (λ n. if n == 8 then reverses_at new (range_with_len 0 (length kept)) l else []) type
          ∙ sym (ap (λ (b : Bool). if b then reverses_at old kept (lookup_at old i) else []) (no-reverses whole old chosen i (lookup_at old i) keeps-them));
    }

reverses-new-read : (whole : Bool) (old chosen kept new : List ℕ) (i : ℕ) → keeps_reverses whole old chosen i (lookup_at old i) ≡ true →
    HasChained true 8 (new_flag whole (flag_of old i)) (set_of old (lookup_at old i)) (reverses_at old kept (lookup_at old i)) new (lookup_at new i) → IsNewRead whole old chosen kept new i
reverses-new-read whole old chosen kept new i keeps-them has =
    let l = lookup_at new i in
    let flag = new_flag whole (flag_of old i) in
    let set = set_of old (lookup_at old i) in
    let contexts = reverses_at old kept (lookup_at old i) in
    let type : type_of new i ≡ 8 = ap (λ n. if nat_eq n 7 then word new (l + word new (l + 6) + 2) else n) (type-read new l 8 flag set contexts has) in
    record {
      flag-is = flag-read new l 8 flag set contexts has;
      set-is = chained-set new l 8 flag set contexts has;
      type-is = λ k. absurd (let no = sym k ∙ ap is_kept (eight whole old chosen i (lookup_at old i) keeps-them) in cc);
      rules-are = λ x. ap (λ n. if is_kept n then rules_of_type new l n x else []) type
          ∙ sym (ap (λ (b : Bool). if b then rules_at old kept (lookup_at old i) x else []) (keeps-no-rules whole old chosen i (lookup_at old i) keeps-them));
      contexts-are = ap (λ n. if ((n == 5) || (n == 6)) && all_have_formats new l n (word new (l + 4)) then
          contexts_at new (range_with_len 0 (length kept)) l n else []) type
          ∙ sym (ap (λ (b : Bool). if b then contexts_at old kept (lookup_at old i) (type_of old i) else []) (no-contexts whole old chosen i (lookup_at old i) keeps-them));
      reverses-are = ap (λ n. if n == 8 then reverses_at new (range_with_len 0 (length kept)) l else []) type
          ∙ reverses-read new l flag set contexts has (length kept) (λ k less. good-reverse old kept (part_at old (lookup_at old i) 8) (word old (lookup_at old i + 4)) k less)
          ∙ sym (ap (λ (b : Bool). if b then contexts else []) keeps-them);
    }

new-read : (whole : Bool) (old chosen kept new : List ℕ) (i : ℕ) → HasNewLookup whole old chosen kept i new (lookup_at new i) → IsNewRead whole old chosen kept new i
new-read whole old chosen kept new i (has_rules none never h) =
    rules-new-read whole old chosen kept new i none never (lookup-read new (lookup_at new i) (new_type old (lookup_at old i)) (new_flag whole (flag_of old i)) (set_of old (lookup_at old i)) (new_rules whole old chosen kept i) h)
new-read whole old chosen kept new i (has_contexts keeps-them h) = contexts-new-read whole old chosen kept new i keeps-them h
new-read whole old chosen kept new i (has_reverses keeps-them h) = reverses-new-read whole old chosen kept new i keeps-them h

module _ (whole : Bool) (old chosen kept new offsets bytes : List ℕ) (end : ℕ) (lists : ListsEnd old end) (small : end < 65536) (within : end ≤ length old)
    (is : new ≡ front_text old end ++ list_text offsets bytes) (few : length offsets ≤ 32766) (fit : AreOffsets (2 + length offsets * 2) offsets)
    (has : HasRuleLookups whole old chosen kept (lookups_of old) offsets bytes) where
  each-read : (i : ℕ) → i < lookups_of old → IsNewRead whole old chosen kept new i
  each-read i less = new-read whole old chosen kept new i
      (subst (HasNewLookup whole old chosen kept i new)
      (sym (place-read old new offsets bytes end lists small within is few fit i (let many = has.many in omega (arith, less, many))))
      (new-in whole old chosen kept i new bytes (end + 2 + length offsets * 2) (get_or offsets i 0)
      (lookups-held old new offsets bytes end lists small within is few fit) (has.each i less)))

  pub keeps-rules : KeepsRules whole old chosen kept new
  keeps-rules = record {
    lists = keeps-lists old new offsets bytes end lists small within is few fit;
    lookups = count-held old new offsets bytes end lists small within is few fit ∙ has.many;
    flags = λ i less. (each-read i less).flag-is;
    sets = λ i less uses. (each-read i less).set-is uses;
    types = λ i less k. (each-read i less).type-is k;
    rules = λ i x less. (each-read i less).rules-are x;
    contexts = λ i less. (each-read i less).contexts-are;
    reverses = λ i less. (each-read i less).reverses-are;
  }
