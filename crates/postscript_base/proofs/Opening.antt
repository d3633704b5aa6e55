-- What is opened is what is laid out.
use Rattle.std.proofs.Common.{◌≡◌, refl, ℕ, ◌+◌, ◌*◌, ◌<◌, ◌≤◌, ◌==◌, ◌||◌, nat_lt, if◌then◌else◌, Bool, true, false, List, [], length, inl, inr, arith}
use Rattle.std.proofs.lemmas.Bool.Decides.{nat_tests}
use Rattle.postscript_base.specs.Refusal.{malformed_offset}
use Rattle.postscript_base.specs.Tape.Outcome.{Outcome, Got, Fault, end}
use Rattle.postscript_base.specs.Index.{count_at, size_at, place_of, IsEmpty, IsSpread, IsOpened, spread, opened, OpensIndices}

-- a test that refuses has not refused what is answered
passed : {A : Type 0} (b : Bool) (o : Outcome A) (x : A) (n : ℕ) → (if b then end else o) ≡ Got x n → (b ≡ false) × (o ≡ Got x n)
passed true o x n e = absurd (cc)
passed false o x n e = (refl, e)

sized : {A : Type 0} (b : Bool) (o : Outcome A) (x : A) (n : ℕ) → (if b then Fault malformed_offset else o) ≡ Got x n →
    (b ≡ false) × (o ≡ Got x n)
sized true o x n e = absurd (cc)
sized false o x n e = (refl, e)

pub opened_spread : (bytes : List ℕ) (place : ℕ) (items : List (List ℕ)) (next : ℕ) → IsSpread bytes place items next →
    opened bytes place ≡ Got items next
unfolding opened spread
opened_spread bytes place items next is =
    let laid = is.laid in
    let some : 0 < count_at bytes place = laid.some in
    let least : 1 ≤ size_at bytes place = laid.least in
    let most : size_at bytes place ≤ 4 = laid.most in
    let offsets : place + 3 + (count_at bytes place + 1) * size_at bytes place ≤ length bytes = laid.offsets in
    let last : place_of bytes (place + 3) (size_at bytes place) (count_at bytes place) (count_at bytes place) ≤ length bytes = omega
    (arith, laid.behind, laid.within) in
    let a : nat_lt (length bytes) (place + 2) ≡ false = grind (arith, nat_tests) in
    let b : (count_at bytes place == 0) ≡ false = grind (arith, nat_tests) in
    let d : nat_lt (length bytes) (place + 3) ≡ false = grind (arith, nat_tests) in
    let e : ((size_at bytes place == 0) || nat_lt 4 (size_at bytes place)) ≡ false = grind (arith, nat_tests) in
    let f : nat_lt (length bytes) (place + 3 + (count_at bytes place + 1) * size_at bytes place) ≡ false = grind (arith, nat_tests) in
    let g : nat_lt (length bytes)
    (place_of bytes (place + 3) (size_at bytes place) (count_at bytes place) (count_at bytes place)) ≡ false = grind (arith, nat_tests) in
    rw (a, b, d, e, f, g, is.slices, laid.behind) refl

pub opened_empty : (bytes : List ℕ) (place : ℕ) (items : List (List ℕ)) (next : ℕ) → IsEmpty bytes place items next →
    opened bytes place ≡ Got items next
unfolding opened
opened_empty bytes place items next is =
    let within : place + 2 ≤ length bytes = is.within in
    let a : nat_lt (length bytes) (place + 2) ≡ false = grind (arith, nat_tests) in
    rw (a, is.none, is.no_items, is.behind) refl

pub opened_is : (bytes : List ℕ) (place : ℕ) (items : List (List ℕ)) (next : ℕ) → IsOpened bytes place items next →
    opened bytes place ≡ Got items next
opened_is bytes place items next (inl is) = opened_empty bytes place items next is
opened_is bytes place items next (inr is) = opened_spread bytes place items next is

spread_only : (bytes : List ℕ) (place : ℕ) (items : List (List ℕ)) (next : ℕ) → 0 < count_at bytes place →
    spread bytes place ≡ Got items next → IsSpread bytes place items next
unfolding spread
spread_only bytes place items next some e =
    let a = passed (nat_lt (length bytes) (place + 3)) _ items next e in
    let b = sized ((size_at bytes place == 0) || nat_lt 4 (size_at bytes place)) _ items next a.1 in
    let d = passed (nat_lt (length bytes) (place + 3 + (count_at bytes place + 1) * size_at bytes place)) _ items next b.1 in
    let f = passed (nat_lt (length bytes)
    (place_of bytes (place + 3) (size_at bytes place) (count_at bytes place) (count_at bytes place))) _ items next d.1 in
    let size_is = b.0 in
    let room = d.0 in
    let last = f.0 in
    let behind : next ≡ place_of bytes (place + 3) (size_at bytes place) (count_at bytes place) (count_at bytes place) = let g = f.1 in
    cc in
    record {
      laid = record {
        some = some;
        least = grind (arith, nat_tests);
        most = grind (arith, nat_tests);
        offsets = grind (arith, nat_tests);
        behind = behind;
        within = grind (arith, nat_tests);
      };
      slices = let g = f.1 in cc;
    }

pub opened_only : (bytes : List ℕ) (place : ℕ) (items : List (List ℕ)) (next : ℕ) → opened bytes place ≡ Got items next →
    IsOpened bytes place items next
unfolding opened
opened_only bytes place items next e =
    let a = passed (nat_lt (length bytes) (place + 2)) _ items next e in
    let within : place + 2 ≤ length bytes = let h = a.0 in grind (arith, nat_tests) in
    by (count_at bytes place == 0) refl within a.1
  where
    by : (b : Bool) → (count_at bytes place == 0) ≡ b → place + 2 ≤ length bytes →
        (if b then Got [] (place + 2) else spread bytes place) ≡ Got items next → IsOpened bytes place items next
    by true t within g = inl (record { within = within; none = grind (arith, nat_tests); no_items = cc; behind = cc })
    by false t within g = inr (spread_only bytes place items next (grind (arith, nat_tests)) g)

pub opens_indices : OpensIndices
opens_indices bytes place items next = (opened_only bytes place items next, opened_is bytes place items next)
