-- The pairs of kept glyphs of a subtable.
use Rattle.std.proofs.Common.{◌≡◌, refl, ◌∙◌, sym, ap, inl, inr, ℕ, ◌<◌, ◌==◌, ◌&&◌, List, [], ◌∷◌, length, get_or, arith, Bool, true, false}
use Rattle.std.specs.Prelude.{Option, None, Some, nat_eq, if◌then◌else◌}
use Rattle.std.specs.BTreeMap.{BTreeMap, IsOrdered, is_at}
use Rattle.std.specs.Cmp.{nat_cmp_total}
use Rattle.std.specs.Map.{keys_of, lookup}
use Rattle.std.specs.Ordering.{nat_cmp}
use Rattle.std.proofs.lemmas.Bool.{eq-eqb, eqb-true}
use Rattle.std.proofs.lemmas.Bool.Decides.{nat_tests}
use Rattle.std.proofs.lemmas.Option.{slice_get-get_or}
use Rattle.std.proofs.lemmas.Map.Entries.{btree_map_get_place}
use Rattle.std.proofs.lemmas.Map.Keys.{IsStrictlyIncreasing-from_sorted}
use Rattle.postscript_kern.specs.First.{first_some}
use Rattle.postscript_kern.specs.Kept.{AreCollected, IsKept, IsKeptPair, is_pair, kept_by}
use Rattle.postscript_kern.specs.Pairs.{left_of, pairs_in, right_of, value_at, value_by}
use Rattle.postscript_kern.specs.Renumbering.{both, new_number, new_pair, pair}
use Rattle.postscript_kern.proofs.Firsts.{Found, first-cases, first-same, nat_cases, none_found, some_found}
use Rattle.postscript_kern.proofs.Renumbered.{number-is}

-- two tests with the same answer
alike : (p q : Bool) → (p ≡ true → q ≡ true) → (q ≡ true → p ≡ true) → p ≡ q
alike true q f g = sym (f refl)
alike false true f g = g refl
alike false false f g = refl

is-pair : (n : Option ℕ) (number : ℕ) → is_pair n number ≡ true → n ≡ Some number
is-pair None number h = absurd (cc)
is-pair (Some x) number h = ap (λ (k : ℕ). Some k) (eqb-true x number h)

both-some : (a b : Option ℕ) (number : ℕ) → both a b ≡ Some number →
    (x : ℕ) × (y : ℕ) × (a ≡ Some x) × (b ≡ Some y) × (pair x y ≡ number)
both-some None b number h = absurd (cc)
both-some (Some x) None number h = absurd (cc)
both-some (Some x) (Some y) number h = (x, y, refl, refl, cc)

true-if : (a b : ℕ) → a ≡ b → (a == b) ≡ true
true-if a b e = eq-eqb a b e

and-parts : (p q : Bool) → (p && q) ≡ true → (p ≡ true) × (q ≡ true)
and-parts true true h = (refl, refl)
and-parts true false h = absurd (cc)
and-parts false q h = absurd (cc)

-- the glyphs of a record are those of a pair exactly if its new number is that of the pair
same-pair : (kept : List ℕ) (a b left right x y : ℕ) → length kept < 65536 → new_number kept left ≡ Some x → new_number kept right ≡ Some y →
    is_pair (new_pair kept a b) (pair x y) ≡ (a == left) && (b == right)
same-pair kept a b left right x y few l r = alike _ _ there back
  where
    there : is_pair (new_pair kept a b) (pair x y) ≡ true → ((a == left) && (b == right)) ≡ true
    there h =
        let n = both-some (new_number kept a) (new_number kept b) (pair x y) (is-pair (new_pair kept a b) (pair x y) h) in
        let first = number-is kept a n.0 n.2 in
        let second = number-is kept b n.1 n.3 in
        let third = number-is kept left x l in
        let fourth = number-is kept right y r in
        let e = n.4 in
        let ex : n.0 ≡ x = omega (arith, few, first.0, second.0, third.0, fourth.0, e) in
        let ey : n.1 ≡ y = omega (arith, few, first.0, second.0, third.0, fourth.0, e) in
        let same_left : a ≡ left = sym first.1 ∙ ap (λ (k : ℕ). get_or kept k 0) ex ∙ third.1 in
        let same_right : b ≡ right = sym second.1 ∙ ap (λ (k : ℕ). get_or kept k 0) ey ∙ fourth.1 in
        let p = true-if a left same_left in
        let q = true-if b right same_right in
        ap (λ (t : Bool). t && (b == right)) p ∙ q

    back : ((a == left) && (b == right)) ≡ true → is_pair (new_pair kept a b) (pair x y) ≡ true
    back h =
        let parts = and-parts (a == left) (b == right) h in
        let same_left : a ≡ left = eqb-true a left parts.0 in
        let same_right : b ≡ right = eqb-true b right parts.1 in
        let first : new_number kept a ≡ Some x = ap (new_number kept) same_left ∙ l in
        let second : new_number kept b ≡ Some y = ap (new_number kept) same_right ∙ r in
        let number : new_pair kept a b ≡ Some (pair x y) =
        ap (λ (n : Option ℕ). both n (new_number kept b)) first ∙ ap (λ (n : Option ℕ). both (Some x) n) second in
        ap (λ (n : Option ℕ). is_pair n (pair x y)) number ∙ true-if (pair x y) (pair x y) refl

same-value : (table kept : List ℕ) (at left right x y k : ℕ) → length kept < 65536 → new_number kept left ≡ Some x →
    new_number kept right ≡ Some y → kept_by table kept at (pair x y) k ≡ value_by table at left right k
same-value table kept at left right x y k few l r =
    ap (λ (t : Bool). if t then Some (value_at table at k) else None)
    (same-pair kept (left_of table at k) (right_of table at k) left right x y few l r)

-- a map finds a number by its comparison
same-test : (a b : ℕ) → is_at (nat_cmp a) b ≡ nat_eq a b
same-test a b = grind (arith, nat_tests)

lookup-same : (f g : ℕ → Bool) (entries : List (ℕ × ℕ)) → ((k : ℕ) → f k ≡ g k) → lookup f entries ≡ lookup g entries
lookup-same f g [] same = refl
lookup-same f g (e ∷ es) same =
    ap (λ (t : Bool). if t then Some e.1 else lookup f es) (same e.0)
    ∙ ap (λ (v : Option ℕ). if g e.0 then Some e.1 else v) (lookup-same f g es same)

some-if : (t : Bool) (v w : ℕ) → (if t then Some v else None) ≡ Some w → t ≡ true
some-if true v w h = refl
some-if false v w h = absurd (cc)

-- a number with a value is that of a pair of kept glyphs
is-kept : (table kept : List ℕ) (at number value count : ℕ) → first_some (kept_by table kept at number) count ≡ Some value → IsKeptPair kept number
is-kept table kept at number value count h = by _ (first-cases (kept_by table kept at number) count) h
  where
    by : (x : Option ℕ) → Found (kept_by table kept at number) count x → x ≡ Some value → IsKeptPair kept number
    by _ (none_found none) e = absurd (cc)
    by _ (some_found i x less here) e =
        (left_of table at i, right_of table at i, is-pair _ number (some-if _ (value_at table at i) x here))

pub all-kept : (table kept : List ℕ) (at : ℕ) (pairs : BTreeMap ℕ ℕ) → length kept < 65536 → IsOrdered nat_cmp pairs →
    AreCollected table kept at (pairs_in table at) pairs → IsKept table kept at pairs.entries
all-kept table kept at pairs few order are = record {
  values = λ left right x y l r.
      lookup-same (nat_eq (pair x y)) (is_at (nat_cmp (pair x y))) pairs.entries (λ k. sym (same-test (pair x y) k))
      ∙ are (pair x y)
      ∙ first-same (kept_by table kept at (pair x y)) (value_by table at left right) (pairs_in table at)
      (λ k less. same-value table kept at left right x y k few l r);
  only = λ i d less.
      let p = get_or pairs.entries i d in
      is-kept table kept at p.0 p.1 (pairs_in table at)
      (sym (are p.0) ∙ btree_map_get_place nat_cmp_total pairs i p.0 p.1 order (slice_get-get_or pairs.entries i d less));
  ordered = IsStrictlyIncreasing-from_sorted (keys_of pairs.entries) order;
}

pub none-of : (pairs : List (ℕ × ℕ)) → length pairs ≡ 0 → pairs ≡ []
none-of [] h = refl
none-of (p ∷ ps) h = absurd (omega (arith, h))

pub some-of : (n : ℕ) (b : Bool) → (n ≡ 0 → b ≡ true) → b ≡ false → 0 < n
some-of n b is not_true = elim (nat_cases 0 n) [
  | inl some ↦ some
  | inr empty ↦ (let yes = is (omega (arith, empty)) in absurd (cc))
]
