-- Where a byte stands first, and what stands before it.
use Rattle.std.proofs.Common.{◌≡◌, ◌≢◌, ◌==◌, ◌<◌, ℕ, List, Some, None, Bool, true, false, cond, take, get_or-take, length-take-le, position, All, refl, rules, arith, ◌+◌, ◌++◌, ◌∷◌, [], ◌∙◌, ap, sym, eqb-true, le_refl, ◌≤◌, get_or, length, Option, IfSome, length-take, length-append}
use native.Mathlib.Numerals.{unary_clauses}
use Rattle.std.proofs.Math.Seq.{take-suc}
use Rattle.std.proofs.lemmas.List.{take_all}
use Rattle.std.specs.Io.{StartsWith}
use Rattle.std.specs.Io.KnownBytes.{Consumes}
use Rattle.std.specs.List.{position_or_len}
use Rattle.std.proofs.lemmas.Bool.{ltb-false}
use Rattle.std.proofs.lemmas.List.Quantifiers.{position-Some}
use Rattle.std.proofs.lemmas.List.Sums.{fails_before_first}
use Rattle.psfont_session.specs.Piece.{GoesOn}

-- the first place is none only where the test fails
cond-None : (found : Bool) (place : ℕ) → cond found (Some place) None ≡ None → found ≡ false
cond-None true place is = search (rules, is)
cond-None false place is = refl

-- a byte that stands nowhere is no element
pub All-position-None : (sought : ℕ) (bytes : List ℕ) → position (λ byte. byte == sought) bytes ≡ None → All (λ byte. byte ≢ sought) bytes
All-position-None sought bytes none = λ place default below is.
    let late = ltb-false _ _ (cond-None _ (position_or_len (λ byte. byte == sought) bytes) none) in
    let fails = fails_before_first (λ byte. byte == sought) bytes place default (omega (arith, late, below)) in
    search (rules, fails, is)

-- nor is it among the bytes before its first place
pub All-position-Some : (sought : ℕ) (bytes : List ℕ) (first : ℕ) → position (λ byte. byte == sought) bytes ≡ Some first →
    All (λ byte. byte ≢ sought) (take first bytes)
All-position-Some sought bytes first some = λ place default below is.
    let found = position-Some (λ byte. byte == sought) bytes first default some in
    let before : place < first = omega (arith, length-take-le first bytes (omega (arith, found.0)), below) in
    let fails = found.2 place before in
    let same = get_or-take first bytes place default before in
    search (rules, fails, is, same)

-- the bytes up to and including its first place
pub take-past-position : (sought : ℕ) (bytes : List ℕ) (first : ℕ) → position (λ byte. byte == sought) bytes ≡ Some first →
    (first + 1 ≤ length bytes) × (take (first + 1) bytes ≡ take first bytes ++ sought ∷ [])
take-past-position sought bytes first some =
    let found = position-Some (λ byte. byte == sought) bytes first 0 some in
    let last : get_or bytes first 0 ≡ sought = eqb-true _ _ found.1 in
    (omega (arith, found.0), (simp unary_clauses (take-suc bytes first 0 found.0)) ∙ ap (λ byte. take first bytes ++ byte ∷ []) last)

pub take-whole : (bytes : List ℕ) → take (length bytes) bytes ≡ bytes
take-whole bytes = take_all (length bytes) bytes (le_refl _)

-- what is shown behind the bytes that are consumed is left
pub goes_on : (before after : Option (List ℕ)) (shown : List ℕ) (n : ℕ) → n < length shown → IfSome before (λ xs. StartsWith xs shown) →
    Consumes before after (take n shown) → GoesOn before after
goes_on None after shown n below front spent = tt
goes_on (Some xs) None shown n below front spent = absurd spent
goes_on (Some xs) (Some ys) shown n below front spent = λ end.
    let whole = sym (length-take (length shown) xs) ∙ ap length front in
    let taken = length-take-le n shown (omega (arith, below)) in
    omega (arith, below, whole, taken, ap length spent, length-append (take n shown) ys, ap length end)
