-- Places in a dictionary.
use Rattle.std.proofs.Common.{inl, inr, ◌≡◌, ◌++◌, refl, sym, ap, subst, ◌∙◌, ℕ, zero, suc, ◌<◌, Bool, true, false, cond, List, [], ◌∷◌, length, map, fold, get_or, Option, Some, None, arith, if◌then◌else◌}
use Rattle.std.specs.List.{Contains}
use Rattle.std.specs.Option.{option_or}
use Rattle.std.specs.FinMap.{empty, get, get-insert}
use Rattle.std.proofs.lemmas.List.Sums.{fold-append}
use Rattle.std.specs.Ordering.{eq_by_cmp, is_eq}
use Rattle.std.specs.Cmp.{eq_by_cmp_equiv}
use Rattle.std.specs.declared.cmp.Ordering.{Ordering}
use Rattle.std.specs.declared.cmp.Ordering.TheVariants.{Equal}
use Rattle.postscript_base.specs.Compact1.Decimal.{Decimal}
use Rattle.postscript_base.specs.Compact1.Defaults.{default_of, look}
use Rattle.postscript_base.specs.Compact1.Dictionary.{Dictionary, dictionary_of, put}
use Rattle.postscript_base.specs.Compact1.DictionaryLaw.{IsDictionary, OperationsAt, last_of}
use Rattle.postscript_base.specs.Compact1.Operation.{Operation}
use Rattle.postscript_base.specs.Compact1.Operators.{operator_cmp}
use Rattle.postscript_base.specs.declared.compact1.operator.Operator.{Operator}
use Rattle.postscript_base.proofs.DictionaryIs.{get_last}
use Rattle.postscript_base.proofs.DictionaryMaps.{exact, operators_total}
use Rattle.postscript_write.specs.Dictionaries.{IsPlaced, operation_of}
use Rattle.postscript_write.specs.LeftOut.{AreLeft, IsLeftOut, IsLess, IsWithout, operators_in}
use Rattle.postscript_write.specs.LeftOut.AreLeft.{none, kept, gone}
use Rattle.postscript_write.specs.declared.dictionaries.Place.{Place}
use Rattle.postscript_write.proofs.OperationsStand.{writes_operations}
use Rattle.postscript_write.proofs.Without.{contains_cases}
use Rattle.postscript_write.proofs.WholeEnd.{one_map}

choose : (x : Option (List Decimal)) (b : Bool) (v : List Decimal) (y : Option (List Decimal)) →
    option_or x (cond b (Some v) y) ≡ option_or (option_or x (cond b (Some v) None)) y
choose x b v y = grind arith

put_last : (d : Dictionary) (os : List Operation) (q : Operator) → get (fold put d os) q ≡ option_or (last_of os q) (get d q)
put_last d [] q = refl
put_last d (o ∷ os) q =
    put_last (put d o) os q ∙ ap (option_or (last_of os q)) (get-insert operators_total d o.0 o.1 q)
    ∙ choose (last_of os q) (eq_by_cmp operator_cmp q o.0) o.1 (get d q)

equal : (o : Ordering) → is_eq o ≡ true → o ≡ Equal
equal o f = grind arith

pub same_operator : (q o : Operator) → eq_by_cmp operator_cmp q o ≡ true → q ≡ o
same_operator q o e = exact q o (equal (operator_cmp q o) e)

or_none : {A : Type 0} (x y : Option A) → option_or x y ≡ None → (x ≡ None) × (y ≡ None)
or_none None y e = (refl, e)
or_none (Some v) y e = let f : Some v ≡ None = e in absurd (cc)

-- an operator that occurs has operands
told_last : (all : List Operation) (q : Operator) → Contains (operators_in all) q → last_of all q ≡ None → ⊥
told_last [] q has e = let less = has.1 in absurd (omega (arith, less))
told_last (o ∷ all) q has e = elim (contains_cases o.0 (operators_in all) q has) [
  | inl is ↦ own is
  | inr later ↦ told_last all q later both.0
]
  where
    both : (last_of all q ≡ None) × ((if eq_by_cmp operator_cmp q o.0 then Some o.1 else None) ≡ None)
    both = or_none (last_of all q) _ e

    own : o.0 ≡ q → ⊥
    own is =
        let same : eq_by_cmp operator_cmp q o.0 ≡ true = subst (λ x. eq_by_cmp operator_cmp q x ≡ true) (sym is)
        ((eq_by_cmp_equiv operators_total).refl q) in
        let never : Some o.1 ≡ None = sym (ap (λ b. if b then Some o.1 else None) same) ∙ both.1 in
        absurd (cc)

or_some : {A : Type 0} (x y : Option A) → (x ≡ None → ⊥) → x ≡ option_or x y
or_some None y never = absurd (never refl)
or_some (Some v) y never = refl

-- what is left says of any other operator what all say
pub left_last : (left_out : List Operator) (all left : List Operation) (q : Operator) → AreLeft left_out all left →
    (Contains left_out q → ⊥) → last_of left q ≡ last_of all q
left_last left_out _ _ q none out = refl
left_last left_out _ _ q (kept o all left other h) out =
    ap (λ x. option_or x (if eq_by_cmp operator_cmp q o.0 then Some o.1 else None)) (left_last left_out all left q h out)
left_last left_out _ _ q (gone o all left is h) out = left_last left_out all left q h out ∙ by (eq_by_cmp operator_cmp q o.0) refl
  where
    still : q ≡ o.0 → IsLeftOut left_out (operators_in all) o.0 → last_of all q ≡ None → ⊥
    still e (inl among) = absurd (out (subst (λ x. Contains left_out x) (sym e) among))
    still e (inr later) = told_last all q (subst (λ x. Contains (operators_in all) x) (sym e) later)

    by : (b : Bool) → eq_by_cmp operator_cmp q o.0 ≡ b → last_of all q ≡ option_or (last_of all q) (if b then Some o.1 else None)
    by true e = or_some (last_of all q) (Some o.1) (still (same_operator q o.0 e) is)
    by false e = grind arith

-- and of one of these nothing
pub left_none : (left_out : List Operator) (all left : List Operation) (q : Operator) → AreLeft left_out all left → Contains left_out q →
    last_of left q ≡ None
left_none left_out _ _ q none is = refl
left_none left_out _ _ q (kept o all left other h) is =
    ap (λ x. option_or x (if eq_by_cmp operator_cmp q o.0 then Some o.1 else None)) (left_none left_out all left q h is)
    ∙ by (eq_by_cmp operator_cmp q o.0) refl
  where
    by : (b : Bool) → eq_by_cmp operator_cmp q o.0 ≡ b → (if b then Some o.1 else None) ≡ None
    by true e = absurd (other (inl (subst (λ x. Contains left_out x) (same_operator q o.0 e) is)))
    by false e = refl
left_none left_out _ _ q (gone o all left was h) is = left_none left_out all left q h is

-- what is left of a dictionary is one that says less
pub less : (text out : List ℕ) (left_out : List Operator) (old : Dictionary) → IsWithout text left_out out → IsDictionary text 0 old →
    (new : Dictionary) × IsDictionary out 0 new × IsLess left_out old new
less text out left_out old w is = (
  dictionary_of w.1,
  writes_operations.all out w.1 w.6,
  record {
    gone = λ q has. get_last w.1 q ∙ left_none left_out w.0 w.1 q w.5 has;
    stays = λ q other. get_last w.1 q ∙ left_last left_out w.0 w.1 q w.5 other
        ∙ sym (ap (λ d. get d q) (one_map text old w.0 w.2 is w.3 w.4) ∙ get_last w.0 q);
  },
)

-- an operator of a place has operands
pub some_last : (places : List Place) (q : Operator) → Contains (map (λ place. place.operator) places) q →
    last_of (map operation_of places) q ≡ None → ⊥
some_last [] q has e = let less = has.1 in absurd (omega (arith, less))
some_last (place ∷ places) q has e = by (λ later. some_last places q later both.0) has.0 has.1 has.2
  where
    both : (last_of (map operation_of places)
        q ≡ None) × ((if eq_by_cmp operator_cmp q place.operator then Some (operation_of place).1 else None) ≡ None)
    both = or_none (last_of (map operation_of places) q) _ e

    by : (Contains (map (λ place. place.operator) places) q → ⊥) → (k : ℕ) → k < length (map (λ place. place.operator) (place ∷ places)) →
        get_or (map (λ place. place.operator) (place ∷ places)) k q ≡ q → ⊥
    by later zero less is =
        let own : eq_by_cmp operator_cmp q place.operator ≡ true = subst (λ o. eq_by_cmp operator_cmp q o ≡ true) (sym is)
        ((eq_by_cmp_equiv operators_total).refl q) in
        let never : Some (operation_of place).1 ≡ None = sym (ap (λ b. if b then Some (operation_of place).1 else None) own) ∙ both.1 in
        absurd (cc)
    by later (suc k) less is = later (k, omega (arith, less), is)

-- places are put behind what is left
pub placed : (text rest out : List ℕ) (places : List Place) (old : Dictionary)
    (w : IsWithout text (map (λ place. place.operator) places) rest) →
    OperationsAt out 0 (w.1 ++ map operation_of places) (length out) → IsDictionary text 0 old →
    (new : Dictionary) × IsDictionary out 0 new × IsPlaced old places new
placed text rest out places old w puts is = (
  new,
  subst (λ d. IsDictionary out 0 d) (fold-append put empty w.1 ops) (writes_operations.all out (w.1 ++ ops) puts),
  λ q. by q (last_of ops q) refl,
)
  where
    ops : List Operation
    ops = map operation_of places

    kept_map : Dictionary
    kept_map = dictionary_of w.1

    new : Dictionary
    new = fold put kept_map ops

    by : (q : Operator) (x : Option (List Decimal)) → last_of ops q ≡ x → look new q ≡ option_or (last_of ops q) (look old q)
    by q (Some v) e =
        ap (λ y. option_or y (default_of q)) (put_last kept_map ops q ∙ ap (λ y. option_or y (get kept_map q)) e)
        ∙ sym (ap (λ y. option_or y (look old q)) e)
    by q None e =
        let left = left_last (map (λ place. place.operator) places) w.0 w.1 q w.5 (λ has. some_last places q has e) in
        let map_is : get old q ≡ last_of w.0 q = ap (λ d. get d q) (one_map text old w.0 w.2 is w.3 w.4) ∙ get_last w.0 q in
        ap (λ y. option_or y (default_of q))
        (put_last kept_map ops q ∙ ap (λ y. option_or y (get kept_map q)) e ∙ get_last w.1 q ∙ left ∙ sym map_is)
        ∙ sym (ap (λ y. option_or y (look old q)) e)
