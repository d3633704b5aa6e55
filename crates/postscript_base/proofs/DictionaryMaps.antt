-- The finite map of a hash map's entries.
use Rattle.std.proofs.Common.{arith}
use Rattle.std.proofs.Common.{◌≡◌, ℕ, Bool, true, false, cond, List, [], ◌∷◌, Option, Some, None, refl, sym, ap, ◌∙◌, get_or}
use Rattle.std.specs.Option.{option_map}
use Rattle.std.specs.Ordering.{is_eq}
use Rattle.std.specs.Map.{lookup}
use Rattle.std.specs.HashMap.{HashMap, IsClone}
use Rattle.std.specs.List.{AllZip}
use Rattle.std.specs.Prelude.{MatchOption, IsSomeAnd}
use Rattle.std.proofs.lemmas.Map.Entries.{lookup_clone}
use Rattle.std.proofs.lemmas.List.Elements.{same_from_all_zip}
use Rattle.std.specs.Vec.{vec_len}
use Rattle.std.specs.declared.hash.FoldHasher.{FoldHasher}
use Rattle.std.specs.declared.hash.BuildHasherDefault.{BuildHasherDefault}
use Rattle.std.specs.declared.cmp.Ordering.{Ordering}
use Rattle.std.specs.declared.cmp.Ordering.TheVariants.{Equal}
use denote.Enum.Bare.{same_true, same_false}
use Rattle.postscript_base.specs.contracts.compact1.operator.Operator.{the_type}
use Rattle.std.specs.FinMap.{get, insert, from_entries, find, same_map, get-insert, get-from_entries, IsAntisymmetric}
use Rattle.std.specs.Cmp.{IsTotalOrder, eq_by_cmp_equiv}
use Rattle.std.proofs.lemmas.Cmp.{on_total, nat_cmp_total}
use Rattle.std.proofs.lemmas.Map.Lookups.{exact_unsigned}
use Rattle.std.specs.declared.vec.Vec.{Vec}
use Rattle.std.specs.declared.alloc.Global.{Global}
use Rattle.postscript_base.specs.Compact1.Decimal.{Decimal}
use Rattle.postscript_base.specs.Compact1.Dictionary.{listed}
use Rattle.postscript_base.specs.Compact1.Operators.{operators, place_of, operator_cmp}
use Rattle.postscript_base.specs.declared.compact1.operator.Operator.{Operator}
use Rattle.postscript_base.specs.declared.compact1.operator.Operator.TheVariants.{Version}
use Rattle.postscript_base.specs.contracts.compact1.operator.OperatorPartialEq.TheImpl.{eq-value}

pub operators_total : IsTotalOrder operator_cmp
operators_total = on_total place_of nat_cmp_total

abbrev pub items : Option (Vec Decimal Global) → Option (List Decimal)
items o = option_map (λ v. v.items) o

-- the operator at a place
at : ℕ → Operator
at n = (get_or operators n (0, Version)).1

pub exact : IsAntisymmetric operator_cmp
unfolding at
exact a b h = grind (arith, exact_unsigned)

equal : (o : Ordering) → is_eq o ≡ true → o ≡ Equal
equal o f = grind arith

-- `==` of operators is that of their places
pub same_place : (a b : Operator) → eq-value.it a b ≡ is_eq (operator_cmp a b)
same_place a b = by (eq-value.it a b) refl (is_eq (operator_cmp a b)) refl
  where
    by : (t : Bool) → eq-value.it a b ≡ t → (u : Bool) → is_eq (operator_cmp a b) ≡ u → t ≡ u
    by true e true f = refl
    by true e false f = let is : a ≡ b = same_true the_type tt a b e in
        let itself : is_eq (operator_cmp a a) ≡ true = (eq_by_cmp_equiv operators_total).refl a in
        sym (ap (λ x. is_eq (operator_cmp a x)) (sym is) ∙ itself) ∙ f
    by false e true f = absurd (same_false the_type a b e (exact a b (equal (operator_cmp a b) f)))
    by false e false f = refl

choose : (b : Bool) (v : Vec Decimal Global) (x : Option (Vec Decimal Global)) → cond b (Some v.items) (items x) ≡ items (cond b (Some v) x)
choose b v x = grind arith

find_listed : (es : List (Operator × Vec Decimal Global)) (q : Operator) →
    find operator_cmp q (listed es) ≡ items (lookup (eq-value.it q) es)
find_listed [] q = refl
find_listed (e ∷ es) q =
    ap (cond (is_eq (operator_cmp q e.0)) (Some e.1.items)) (find_listed es q)
    ∙ ap (λ b. cond b (Some e.1.items) (items (lookup (eq-value.it q) es))) (sym (same_place q e.0))
    ∙ choose (eq-value.it q e.0) e.1 (lookup (eq-value.it q) es)

-- what the finite map has at an operator
pub get_listed : (es : List (Operator × Vec Decimal Global)) (q : Operator) →
    get (from_entries {R = operator_cmp} (listed es)) q ≡ items (lookup (eq-value.it q) es)
get_listed es q = get-from_entries operators_total (listed es) q ∙ find_listed es q

-- one operator's operands set
pub put_listed : (es fs : List (Operator × Vec Decimal Global)) (k : Operator) (v : Vec Decimal Global) →
    ((q : Operator) → lookup (eq-value.it q) fs ≡ cond (eq-value.it k q) (Some v) (lookup (eq-value.it q) es)) →
    from_entries {R = operator_cmp} (listed fs) ≡ insert (from_entries (listed es)) k v.items
put_listed es fs k v h = same_map operators_total exact _ _ (λ q.
    get_listed fs q ∙ ap items (h q) ∙ sym (choose (eq-value.it k q) v (lookup (eq-value.it q) es))
    ∙ ap (λ x. cond (eq-value.it k q) (Some v.items) x) (sym (get_listed es q))
    ∙ ap (λ b. cond b (Some v.items) (get (from_entries {R = operator_cmp} (listed es)) q))
    (same_place k q ∙ (eq_by_cmp_equiv operators_total).symm k q)
    ∙ sym (get-insert operators_total (from_entries (listed es)) k v.items q))

abbrev pub Map : Type 0
Map = HashMap Operator (Vec Decimal Global) (BuildHasherDefault FoldHasher)

-- a clone's operands
pub clone_listed : (C : Operator → Operator → Type 0) (is : Decimal → Decimal → Type 0) (m n : Map) → ((x y : Operator) → C x y → y ≡ x) →
    ((x y : Decimal) → is x y → y ≡ x)
    → IsClone C (λ v w. AllZip is v.items w.items × (vec_len w ≡ vec_len v)) m n → from_entries {R = operator_cmp}
    (listed n.entries) ≡ from_entries (listed m.entries)
clone_listed C is m n same each h = same_map operators_total exact _ _ (λ q.
    get_listed n.entries q
    ∙ go (lookup (eq-value.it q) m.entries) (lookup (eq-value.it q) n.entries)
    (lookup_clone C (λ v w. AllZip is v.items w.items × (vec_len w ≡ vec_len v)) (eq-value.it q)
    (λ x y c. ap (eq-value.it q) (same x y c)) m.entries n.entries h)
    ∙ sym (get_listed m.entries q))
  where
    go : (x y : Option (Vec Decimal Global)) → MatchOption x (y ≡ None)
        (λ v. IsSomeAnd y (λ w. AllZip is v.items w.items × (vec_len w ≡ vec_len v))) → items y ≡ items x
    go x y p = grind (arith, same_from_all_zip)
