-- The list of entries of a DICT, and the last one of an operator.
use Rattle.std.proofs.Common.{◌≡◌, refl, sym, ap, subst, ◌∙◌, ℕ, zero, suc, ◌+◌, ◌<◌, ◌≤◌, Bool, true, false, List, [], ◌∷◌, length, drop, arith}
use Rattle.std.specs.Prelude.{◌==◌, ◌&&◌, nat_lt, if◌then◌else◌, Option, Some, None}
use Rattle.std.proofs.lemmas.Bool.{lt-ltb, ltb-false, ltb-true}
use Rattle.std.proofs.lemmas.Bool.Decides.{nat_tests}
use Rattle.postscript_cff2.specs.Dictionary.{Entry, last_entry, last_from}
use Rattle.postscript_cff2.specs.Entries.{AreEntries, HasOneList, Listed, cut_off, ends, last_of, lists, skips}
use Rattle.postscript_cff2.specs.Tokens.{byte_at, digits_size, is_operator, operand_size, operator_at, operator_size}

abbrev one_at : List ℕ → (place start : ℕ) → Listed
one_at bytes place start = record { operator = operator_at bytes place; entry = record { start = start; place = place } }

-- the entries, in at most so many steps
abbrev entries_from : ℕ → List ℕ → (place start : ℕ) → List Listed
entries_from zero bytes place start = []
entries_from (suc steps) bytes place start =
    let next = place + operator_size (byte_at bytes place) in
    if nat_lt place (length bytes) then
    (if is_operator (byte_at bytes place) then
    (if nat_lt (length bytes) next then [] else one_at bytes place start ∷ entries_from steps bytes next next)
    else entries_from steps bytes (place + operand_size bytes place) start)
    else []

-- sizes are not 0
some_operand : (bytes : List ℕ) (place : ℕ) → 1 ≤ operand_size bytes place
unfolding operand_size
some_operand bytes place =
    by (byte_at bytes place == 28) (byte_at bytes place == 29) (byte_at bytes place == 30)
    (nat_lt 246 (byte_at bytes place) && nat_lt (byte_at bytes place) 255) (digits_size (drop (place + 1) bytes))
  where
    by : (a b c d : Bool) (n : ℕ) → 1 ≤ (if a then 3 else if b then 5 else if c then n + 1 else if d then 2 else 1)
    by true b c d n = omega arith
    by false true c d n = omega arith
    by false false true d n = omega arith
    by false false false true n = omega arith
    by false false false false n = omega arith

some_operator : (first : ℕ) → 1 ≤ operator_size first
some_operator first = by (first == 12)
  where
    by : (a : Bool) → 1 ≤ (if a then 2 else 1)
    by true = omega arith
    by false = omega arith

lasts : (bytes : List ℕ) (operator steps place start : ℕ) (found : Option Entry) →
    last_from steps bytes operator place start found ≡ last_of (entries_from steps bytes place start) operator found
lasts bytes operator zero place start found = refl
lasts bytes operator (suc steps) place start found =
    by (nat_lt place (length bytes)) (is_operator (byte_at bytes place)) (nat_lt (length bytes) next)
    (lasts bytes operator steps (place + operand_size bytes place) start found) (lasts bytes operator steps next next chosen)
  where
    next : ℕ
    next = place + operator_size (byte_at bytes place)

    chosen : Option Entry
    chosen = if operator_at bytes place == operator then Some (record { start = start; place = place }) else found

    by : (a b c : Bool) → last_from steps bytes operator (place + operand_size bytes place) start found
        ≡ last_of (entries_from steps bytes (place + operand_size bytes place) start) operator found →
        last_from steps bytes operator next next chosen ≡ last_of (entries_from steps bytes next next) operator chosen →
        (if a then
        (if b then (if c then found else last_from steps bytes operator next next chosen)
        else last_from steps bytes operator (place + operand_size bytes place) start found)
        else found) ≡ last_of (if a then
        (if b then (if c then [] else one_at bytes place start ∷ entries_from steps bytes next next)
        else entries_from steps bytes (place + operand_size bytes place) start)
        else []) operator found
    by false b c x y = refl
    by true false c x y = x
    by true true true x y = refl
    by true true false x y = y

are : (bytes : List ℕ) (steps place start : ℕ) → length bytes ≤ place + steps → AreEntries bytes place start (entries_from steps bytes place start)
are bytes zero place start enough = ends place start (omega (arith, enough))
are bytes (suc steps) place start enough =
    let some = some_operand bytes place in
    let also = some_operator (byte_at bytes place) in
    by (nat_lt place (length bytes)) (is_operator (byte_at bytes place)) (nat_lt (length bytes) next) refl refl refl
    (are bytes steps (place + operand_size bytes place) start (omega (arith, enough, some)))
    (are bytes steps next next (omega (arith, enough, also)))
  where
    next : ℕ
    next = place + operator_size (byte_at bytes place)

    by : (a b c : Bool) → nat_lt place (length bytes) ≡ a → is_operator (byte_at bytes place) ≡ b → nat_lt (length bytes) next ≡ c →
        AreEntries bytes (place + operand_size bytes place) start (entries_from steps bytes (place + operand_size bytes place) start) →
        AreEntries bytes next next (entries_from steps bytes next next) →
        AreEntries bytes place start (if a then
        (if b then (if c then [] else one_at bytes place start ∷ entries_from steps bytes next next)
        else entries_from steps bytes (place + operand_size bytes place) start)
        else [])
    by false b c there first whole x y = ends place start (ltb-false place (length bytes) there)
    by true false c there first whole x y =
        skips place start _ (ltb-true place (length bytes) there) (ltb-false (byte_at bytes place) 28 first) x
    by true true true there first whole x y =
        cut_off place start (ltb-true place (length bytes) there) (ltb-true (byte_at bytes place) 28 first) (ltb-true (length bytes) next whole)
    by true true false there first whole x y =
        lists place start next _ (ltb-true place (length bytes) there) (ltb-true (byte_at bytes place) 28 first) refl
        (ltb-false (length bytes) next whole) y

only : (bytes : List ℕ) (place start : ℕ) (entries : List Listed) → AreEntries bytes place start entries →
    (steps : ℕ) → length bytes ≤ place + steps → entries ≡ entries_from steps bytes place start
only bytes _ _ _ (ends place start far) zero enough = refl
only bytes _ _ _ (ends place start far) (suc steps) enough =
    let x : nat_lt place (length bytes) ≡ false = grind (arith, nat_tests) in rw x refl
only bytes _ _ _ (cut_off place start there first cut) zero enough = absurd (omega (arith, there, enough))
only bytes _ _ _ (cut_off place start there first cut) (suc steps) enough =
    let x : nat_lt place (length bytes) ≡ true = grind (arith, nat_tests) in
    let y : nat_lt (byte_at bytes place) 28 ≡ true = grind (arith, nat_tests) in
    let z : nat_lt (length bytes) (place + operator_size (byte_at bytes place)) ≡ true = grind (arith, nat_tests) in
    rw (x, y, z) refl
only bytes _ _ _ (skips place start entries there first rest) zero enough = absurd (omega (arith, there, enough))
only bytes _ _ _ (skips place start entries there first rest) (suc steps) enough =
    let x : nat_lt place (length bytes) ≡ true = grind (arith, nat_tests) in
    let y : nat_lt (byte_at bytes place) 28 ≡ false = grind (arith, nat_tests) in
    let some = some_operand bytes place in
    let same = only bytes (place + operand_size bytes place) start entries rest steps (omega (arith, enough, some)) in
    rw (x, y) same
only bytes _ _ _ (lists place start next entries there first is within rest) zero enough = absurd (omega (arith, there, enough))
only bytes _ _ _ (lists place start next entries there first is within rest) (suc steps) enough =
    let x : nat_lt place (length bytes) ≡ true = grind (arith, nat_tests) in
    let y : nat_lt (byte_at bytes place) 28 ≡ true = grind (arith, nat_tests) in
    let z : nat_lt (length bytes) (place + operator_size (byte_at bytes place)) ≡ false = grind (arith, nat_tests) in
    let some = some_operator (byte_at bytes place) in
    let same = only bytes next next entries rest steps (omega (arith, enough, some, is)) in
    rw (x, y, z, sym is) (ap (λ es. one_at bytes place start ∷ es) same)

pub one_list : HasOneList
unfolding last_entry
one_list bytes = (
  entries_from (length bytes) bytes 0 0,
  are bytes (length bytes) 0 0 (omega arith),
  (λ others is. only bytes 0 0 others is (length bytes) (omega arith)),
  (λ operator. lasts bytes operator (length bytes) 0 0 None),
)
