-- Dictionaries that tell each operator once, and ROS first.
use Rattle.std.proofs.Common.{◌≡◌, refl, sym, ap, subst, ◌∙◌, inl, inr, ℕ, List, [], ◌∷◌, ◌++◌, length, map, arith}
use Rattle.std.specs.List.{Contains}
use Rattle.std.proofs.lemmas.List.{map-append}
use Rattle.std.proofs.lemmas.List.Elements.{Contains-append_cases}
use Rattle.postscript_base.specs.Tape.Outcome.{Got}
use Rattle.postscript_base.specs.Compact1.DictionaryLaw.{OperationsAt, UnfinishedAt}
use Rattle.postscript_base.specs.Compact1.Operation.{Operation, operation}
use Rattle.postscript_base.specs.declared.compact1.operator.Operator.{Operator}
use Rattle.postscript_base.specs.declared.compact1.operator.Operator.TheVariants.{ROS}
use Rattle.postscript_base.proofs.OperationIs.{cut_ends, reads}
use Rattle.postscript_write.specs.Dictionaries.{operation_of}
use Rattle.postscript_write.specs.LeftOut.{AreLeft, IsWithout, operators_in}
use Rattle.postscript_write.specs.LeftOut.AreLeft.{none, kept, gone}
use Rattle.postscript_write.specs.Once.{AreDistinct, HasNoLaterRos, IsToldOnce, KeepsOrder, TellsRosFirst}
use Rattle.postscript_write.specs.declared.dictionaries.Place.{Place}
use Rattle.postscript_write.proofs.Without.{Stops, contains_cases, contains_here, contains_next, one_at, reached}

-- an operator of what is left is one of all, and none of those that are left out
pub left_among : (left_out : List Operator) (all left : List Operation) (q : Operator) → AreLeft left_out all left →
    Contains (operators_in left) q → Contains (operators_in all) q × (Contains left_out q → ⊥)
left_among left_out _ _ q none has = let less = has.1 in absurd (omega (arith, less))
left_among left_out _ _ q (kept o all left other h) has =
    elim (contains_cases o.0 (operators_in left) q has) [
      | inl is ↦ (
        subst (Contains (o.0 ∷ operators_in all)) is (contains_here o.0 (operators_in all)),
        λ out. other (inl (subst (Contains left_out) (sym is) out)),
      )
      | inr later ↦ let rest = left_among left_out all left q h later in (contains_next o.0 (operators_in all) q rest.0, rest.1)
    ]
left_among left_out _ _ q (gone o all left is h) has =
    let rest = left_among left_out all left q h has in (contains_next o.0 (operators_in all) q rest.0, rest.1)

-- what is left is told once
pub left_distinct : (left_out : List Operator) (all left : List Operation) → AreLeft left_out all left → AreDistinct (operators_in left)
left_distinct left_out _ _ none = tt
left_distinct left_out _ _ (kept o all left other h) =
    (λ has. other (inr (left_among left_out all left o.0 h has).0), left_distinct left_out all left h)
left_distinct left_out _ _ (gone o all left is h) = left_distinct left_out all left h

-- and behind it others, of those that are left out
distinct_more : (left_out qs others : List Operator) → AreDistinct qs → AreDistinct others →
    ((q : Operator) → Contains qs q → Contains left_out q → ⊥) → ((q : Operator) → Contains others q → Contains left_out q) →
    AreDistinct (qs ++ others)
distinct_more left_out [] others one two apart within = two
distinct_more left_out (q ∷ qs) others one two apart within = (
  λ has. elim (Contains-append_cases qs others q has) [
    | inl early ↦ one.0 early
    | inr late ↦ apart q (contains_here q qs) (within q late)
  ],
  distinct_more left_out qs others one.1 two (λ o has out. apart o (contains_next q qs o has) out) within,
)

-- the operators of places
pub placed_operators : (places : List Place) → operators_in (map operation_of places) ≡ map (λ place. place.operator) places
placed_operators [] = refl
placed_operators (place ∷ places) = ap (λ qs. place.operator ∷ qs) (placed_operators places)

both_operators : (left : List Operation) (places : List Place) →
    operators_in (left ++ map operation_of places) ≡ operators_in left ++ map (λ place. place.operator) places
both_operators left places =
    map-append (λ (o : Operation). o.0) left (map operation_of places) ∙ ap (λ qs. operators_in left ++ qs) (placed_operators places)

-- no place is named by ROS
later_ros : (qs others : List Operator) → HasNoLaterRos qs → (Contains others ROS → ⊥) → HasNoLaterRos (qs ++ others)
later_ros [] [] h apart = tt
later_ros [] (o ∷ others) h apart = λ has. apart (contains_next o others ROS has)
later_ros (q ∷ qs) others h apart = λ has. elim (Contains-append_cases qs others ROS has) [
  | inl early ↦ h early
  | inr late ↦ apart late
]

left_ros : (left_out : List Operator) (all left : List Operation) → AreLeft left_out all left → HasNoLaterRos (operators_in all) →
    HasNoLaterRos (operators_in left)
left_ros left_out _ _ none h = tt
left_ros left_out _ _ (kept o all left other is) h = λ has. h (left_among left_out all left ROS is has).0
left_ros left_out _ _ (gone o all left out is) h = by left is
  where
    by : (left : List Operation) → AreLeft left_out all left → HasNoLaterRos (operators_in left)
    by [] is = tt
    by (x ∷ left) is = λ has. h (left_among left_out all (x ∷ left) ROS is (contains_next x.0 (operators_in left) ROS has)).0

pub stops_at : (text : List ℕ) (place : ℕ) → UnfinishedAt text place → Stops text place
stops_at text place rest o next got = let never = sym (cut_ends text place rest) ∙ got in absurd (cc)

at_end : (text : List ℕ) → Stops text (length text)
at_end text o next got = let past = reached text (length text) next o got in let up = past.0 in let within = past.1 in absurd (omega (arith, up, within))

-- one list of operations stands up to where none stands
pub one_run : (text : List ℕ) (place n m : ℕ) (xs ys : List Operation) → OperationsAt text place xs n → Stops text n →
    OperationsAt text place ys m → Stops text m → xs ≡ ys
one_run text place n m [] [] a stop b ends = refl
one_run text place n m [] (y ∷ ys) a stop b ends =
    absurd (stop y b.0 (subst (λ p. operation text p ≡ Got y b.0) (sym a) (reads text place y b.0 b.1)))
one_run text place n m (x ∷ xs) [] a stop b ends =
    absurd (ends x a.0 (subst (λ p. operation text p ≡ Got x a.0) (sym b) (reads text place x a.0 a.1)))
one_run text place n m (x ∷ xs) (y ∷ ys) a stop b ends =
    let same = one_at text place x y a.0 b.0 a.1 b.1 in
    let rest = one_run text b.0 n m xs ys (subst (λ p. OperationsAt text p xs n) same.1 a.2) stop b.2 ends in
    ap (λ (o : Operation). o ∷ xs) same.0 ∙ ap (λ (os : List Operation). y ∷ os) rest

ros_left : (text out : List ℕ) (left_out : List Operator) (w : IsWithout text left_out out) → TellsRosFirst text →
    HasNoLaterRos (operators_in w.1)
ros_left text out left_out w h =
    let same = one_run text 0 (length text) w.2 h.0 w.0 h.1 (at_end text) w.3 (stops_at text w.2 w.4) in
    left_ros left_out w.0 w.1 w.5 (subst (λ (os : List Operation). HasNoLaterRos (operators_in os)) same h.2)

pub keeps_order : (text rest out : List ℕ) (places : List Place) (w : IsWithout text (map (λ place. place.operator) places) rest) →
    OperationsAt out 0 (w.1 ++ map operation_of places) (length out) → KeepsOrder text places out
keeps_order text rest out places w puts =
    let left_out : List Operator = map (λ place. place.operator) places in
    record {
      once = λ differ. (
        w.1 ++ map operation_of places,
        puts,
        subst AreDistinct (sym (both_operators w.1 places))
            (distinct_more left_out (operators_in w.1) left_out (left_distinct left_out w.0 w.1 w.5) differ
            (λ q has out. (left_among left_out w.0 w.1 q w.5 has).1 out) (λ q has. has)),
      );
      ros = λ apart h. (
        w.1 ++ map operation_of places,
        puts,
        subst HasNoLaterRos (sym (both_operators w.1 places))
            (later_ros (operators_in w.1) left_out (ros_left text rest left_out w h) apart),
      );
    }

pub once_left : (text out : List ℕ) (left_out : List Operator) → IsWithout text left_out out → IsToldOnce out
once_left text out left_out w = (w.1, w.6, left_distinct left_out w.0 w.1 w.5)
