-- Why no INDEX is opened.
use Rattle.std.proofs.Common.{◌≡◌, refl, subst, ℕ, ◌+◌, ◌*◌, ◌<◌, ◌≤◌, ◌==◌, ◌||◌, ◌⊎◌, nat_lt, if◌then◌else◌, Bool, true, false, List, [], length, inl, inr, arith}
use Rattle.std.proofs.lemmas.Bool.Decides.{nat_tests}
use Rattle.postscript_base.specs.Refusal.{Refusal, malformed_offset, unexpected_eof}
use Rattle.postscript_base.specs.Tape.Outcome.{Outcome, Got, Fault, end}
use Rattle.postscript_base.specs.Index.{count_at, size_at, place_of, HasBadSize, IsNotOpened, CutCount, CutSize, BadSize, CutOffsets, CutData, spread, opened, OpensNoOthers}

-- a failure is that of the test, or it is a later one
cut_or : {A : Type 0} (b : Bool) (o : Outcome A) (e : Refusal) → (if b then end else o) ≡ Fault e →
    ((b ≡ true) × (unexpected_eof ≡ e)) ⊎ ((b ≡ false) × (o ≡ Fault e))
cut_or true o e h = inl (refl, cc)
cut_or false o e h = inr (refl, h)

bad_or : {A : Type 0} (b : Bool) (o : Outcome A) (e : Refusal) → (if b then Fault malformed_offset else o) ≡ Fault e →
    ((b ≡ true) × (malformed_offset ≡ e)) ⊎ ((b ≡ false) × (o ≡ Fault e))
bad_or true o e h = inl (refl, cc)
bad_or false o e h = inr (refl, h)

got_or : {A : Type 0} (b : Bool) (o : Outcome A) (x : A) (n : ℕ) (e : Refusal) → (if b then Got x n else o) ≡ Fault e →
    (b ≡ false) × (o ≡ Fault e)
got_or true o x n e h = absurd (cc)
got_or false o x n e h = (refl, h)

last-fails : {A : Type 0} (b : Bool) (x : A) (n : ℕ) (e : Refusal) → (if b then end else Got x n) ≡ Fault e →
    (b ≡ true) × (unexpected_eof ≡ e)
last-fails true x n e h = (refl, cc)
last-fails false x n e h = absurd (cc)

-- a size that no offset has
bad-size : (n : ℕ) → ((n == 0) || nat_lt 4 n) ≡ true → (n ≡ 0) ⊎ (4 < n)
bad-size n h = grind (arith, nat_tests)

spread_fails : (bytes : List ℕ) (place : ℕ) (e : Refusal) → place + 2 ≤ length bytes → 0 < count_at bytes place →
    spread bytes place ≡ Fault e → IsNotOpened bytes place e
unfolding spread
spread_fails bytes place e within some h =
    elim (cut_or (nat_lt (length bytes) (place + 3)) _ e h) [
      | inl cut ↦
          let test = cut.0 in
          subst (λ (x : Refusal). IsNotOpened bytes place x) cut.1 (CutSize within some (grind (arith, nat_tests)))
      | inr a ↦
          let size-there = a.0 in
          elim (bad_or ((size_at bytes place == 0) || nat_lt 4 (size_at bytes place)) _ e a.1) [
            | inl bad ↦
                subst (λ (x : Refusal). IsNotOpened bytes place x) bad.1
                (BadSize (record { within = grind (arith, nat_tests); some = some; size = bad-size (size_at bytes place) bad.0 }))
            | inr b ↦
                let sized = b.0 in
                elim (cut_or (nat_lt (length bytes) (place + 3 + (count_at bytes place + 1) * size_at bytes place)) _ e b.1) [
                  | inl cut ↦
                      let test = cut.0 in
                      subst (λ (x : Refusal). IsNotOpened bytes place x) cut.1
                      (CutOffsets (grind (arith, nat_tests)) some (grind (arith, nat_tests)) (grind (arith, nat_tests))
                      (grind (arith, nat_tests)))
                  | inr d ↦
                      let offsets-there = d.0 in
                      let last = last-fails (nat_lt (length bytes)
                      (place_of bytes (place + 3) (size_at bytes place) (count_at bytes place) (count_at bytes place))) _ _ e d.1 in
                      let test = last.0 in
                      subst (λ (x : Refusal). IsNotOpened bytes place x) last.1
                      (CutData some (grind (arith, nat_tests)) (grind (arith, nat_tests)) (grind (arith, nat_tests))
                      (grind (arith, nat_tests)))
                ]
          ]
    ]

pub opened_fails : (bytes : List ℕ) (place : ℕ) (e : Refusal) → opened bytes place ≡ Fault e → IsNotOpened bytes place e
unfolding opened
opened_fails bytes place e h = elim (cut_or (nat_lt (length bytes) (place + 2)) _ e h) [
  | inl cut ↦
      let test = cut.0 in
      subst (λ (x : Refusal). IsNotOpened bytes place x) cut.1 (CutCount (grind (arith, nat_tests)))
  | inr a ↦
      let there = a.0 in
      let b = got_or (count_at bytes place == 0) _ [] (place + 2) e a.1 in
      let some = b.0 in
      spread_fails bytes place e (grind (arith, nat_tests)) (grind (arith, nat_tests)) b.1
]

pub not_opened : (bytes : List ℕ) (place : ℕ) (e : Refusal) → IsNotOpened bytes place e → opened bytes place ≡ Fault e
unfolding opened spread
not_opened bytes place _ (CutCount cut) =
    let a : nat_lt (length bytes) (place + 2) ≡ true = grind (arith, nat_tests) in rw (a) refl
not_opened bytes place _ (CutSize within some cut) =
    let a : nat_lt (length bytes) (place + 2) ≡ false = grind (arith, nat_tests) in
    let b : (count_at bytes place == 0) ≡ false = grind (arith, nat_tests) in
    let d : nat_lt (length bytes) (place + 3) ≡ true = grind (arith, nat_tests) in
    rw (a, b, d) refl
not_opened bytes place _ (BadSize bad) =
    let within : place + 2 + 1 ≤ length bytes = bad.within in
    let some : 0 < count_at bytes place = bad.some in
    let a : nat_lt (length bytes) (place + 2) ≡ false = grind (arith, nat_tests) in
    let b : (count_at bytes place == 0) ≡ false = grind (arith, nat_tests) in
    let d : nat_lt (length bytes) (place + 3) ≡ false = grind (arith, nat_tests) in
    let size : (size_at bytes place ≡ 0) ⊎ (4 < size_at bytes place) = bad.size in
    let e : ((size_at bytes place == 0) || nat_lt 4 (size_at bytes place)) ≡ true = grind (arith, nat_tests) in
    rw (a, b, d, e) refl
not_opened bytes place _ (CutOffsets within some least most cut) =
    let a : nat_lt (length bytes) (place + 2) ≡ false = grind (arith, nat_tests) in
    let b : (count_at bytes place == 0) ≡ false = grind (arith, nat_tests) in
    let d : nat_lt (length bytes) (place + 3) ≡ false = grind (arith, nat_tests) in
    let e : ((size_at bytes place == 0) || nat_lt 4 (size_at bytes place)) ≡ false = grind (arith, nat_tests) in
    let f : nat_lt (length bytes) (place + 3 + (count_at bytes place + 1) * size_at bytes place) ≡ true = grind (arith, nat_tests) in
    rw (a, b, d, e, f) refl
not_opened bytes place _ (CutData some least most offsets cut) =
    let a : nat_lt (length bytes) (place + 2) ≡ false = grind (arith, nat_tests) in
    let b : (count_at bytes place == 0) ≡ false = grind (arith, nat_tests) in
    let d : nat_lt (length bytes) (place + 3) ≡ false = grind (arith, nat_tests) in
    let e : ((size_at bytes place == 0) || nat_lt 4 (size_at bytes place)) ≡ false = grind (arith, nat_tests) in
    let f : nat_lt (length bytes) (place + 3 + (count_at bytes place + 1) * size_at bytes place) ≡ false = grind (arith, nat_tests) in
    let g : nat_lt (length bytes)
    (place_of bytes (place + 3) (size_at bytes place) (count_at bytes place) (count_at bytes place)) ≡ true = grind (arith, nat_tests) in
    rw (a, b, d, e, f, g) refl

pub opens_no_others : OpensNoOthers
opens_no_others bytes place e = (opened_fails bytes place e, not_opened bytes place e)
