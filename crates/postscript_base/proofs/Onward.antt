-- Readings move on: the next place lies at some place or behind it, and within the bytes.
use Rattle.std.proofs.lemmas.Grind.{common_steps}
use Rattle.std.proofs.Common.{◌≡◌, refl, ap, ℕ, ◌+◌, ◌-◌, ◌*◌, ◌≤◌, ◌<◌, Bool, true, List, [], ◌∷◌, length, ◌==◌, nat_lt, Option, length-drop, inl, inr, arith, if◌then◌else◌}
use Rattle.std.proofs.lemmas.Bool.Decides.{nat_tests}
use Rattle.postscript_base.specs.Error.{IsOneOf}
use Rattle.postscript_base.specs.RefusalOf.{number_of}
use Rattle.postscript_base.specs.Tape.Outcome.{Outcome, Got, Fault, Past, Reading, after, ◌>>=◌, pure}
use Rattle.postscript_base.specs.Tape.Onward.{MovesOn, TakesBytes}
use Rattle.postscript_base.specs.Tape.At.{NeedsBytes}
use Rattle.postscript_base.specs.Numbers.{slice, number, two_sided, above, below}
use Rattle.postscript_base.specs.Compact1.Decimal.{Decimal}
use Rattle.postscript_base.specs.Compact1.Number.{begun, number as dict_number, whole}
use Rattle.postscript_base.specs.Compact1.Reals.{Real, real_of}
use Rattle.postscript_base.specs.Compact1.Nibbles.{nibbles, real, text_of_real, valued}

-- the refusals of numbers and operations
abbrev pub known_refusals : List ℕ
known_refusals = 1 ∷ 7 ∷ 8 ∷ 9 ∷ []

-- The next place is this one at least, and within so many bytes; a refusal is one of these.
abbrev pub Goes : {A : Type 0} → ℕ → ℕ → Outcome A → Type 0
Goes least size (Got value next) = (least ≤ next) × (next ≤ size)
Goes least size (Fault refusal) = IsOneOf known_refusals (number_of refusal)
Goes least size Past = ⊥

pub goes_moves : {A : Type 0} (o : Outcome A) (place size : ℕ) → Goes (place + 1) size o → MovesOn place size o
goes_moves o place size h = grind arith

pub goes_later : {A : Type 0} (o : Outcome A) (least next size : ℕ) → least ≤ next → Goes next size o → Goes least size o
goes_later o least next size h g = grind arith

pub goes_after : {A B : Type 0} (o : Outcome A) (f : A → ℕ → Outcome B) (least size : ℕ) → Goes least size o →
    ((value : A) (next : ℕ) → next ≤ size → Goes next size (f value next)) → Goes least size (after o f)
goes_after o f least size h each = grind arith

pub number_goes : (size : ℕ) (bytes : List ℕ) (place : ℕ) → 0 < size → Goes (place + size) (length bytes) (number size bytes place)
unfolding number slice
number_goes size bytes place some =
    goes_after (slice size bytes place) _ (place + size) (length bytes) (grind arith) (λ value next within. (omega arith, within))

pub number_takes : (size : ℕ) → 0 < size → TakesBytes (number size)
number_takes size some bytes place =
    goes_moves (number size bytes place) place (length bytes)
    (goes_later (number size bytes place) (place + 1) (place + size) (length bytes) (omega arith) (number_goes size bytes place some))

length-nibbles : (bytes : List ℕ) → length (nibbles bytes) ≡ 2 * length bytes
length-nibbles [] = refl
length-nibbles (b ∷ bytes) = let e : length (nibbles bytes) ≡ 2 * length bytes = length-nibbles bytes in omega arith

text_goes : (bytes : List ℕ) (place : ℕ) → Goes place (length bytes) (text_of_real bytes place)
unfolding text_of_real
text_goes bytes place = grind (arith, nat_tests, common_steps, length-drop, length-nibbles)

valued_goes : (o : Option Real) (bytes : List ℕ) (place : ℕ) → place ≤ length bytes → Goes place (length bytes) (valued o bytes place)
valued_goes o bytes place h = grind arith

real_goes : (bytes : List ℕ) (place : ℕ) → Goes place (length bytes) (real bytes place)
unfolding real
real_goes bytes place =
    goes_after (text_of_real bytes place) _ place (length bytes) (text_goes bytes place)
    (λ value next within. valued_goes (real_of value) bytes next within)

of_goes : (size : ℕ) (f : ℕ → Decimal) (bytes : List ℕ) (place : ℕ) → 0 < size → Goes place (length bytes)
    ((number size >>= λ n. pure (f n)) bytes place)
of_goes size f bytes place some =
    goes_after (number size bytes place) _ place (length bytes)
    (goes_later (number size bytes place) place (place + size) (length bytes) (omega arith) (number_goes size bytes place some))
    (λ value next within. (omega arith, within))

pub if_goes : {A : Type 0} (b : Bool) (x y : Reading A) (bytes : List ℕ) (place least : ℕ) → Goes least (length bytes) (x bytes place) →
    Goes least (length bytes) (y bytes place) → Goes least (length bytes) ((if b then x else y) bytes place)
if_goes b x y bytes place least h g = grind arith

pub begun_goes : (first : ℕ) (bytes : List ℕ) (place : ℕ) → place ≤ length bytes → Goes place (length bytes) (begun first bytes place)
begun_goes first bytes place h =
    if_goes (first == 0x1c) _ _ bytes place place (of_goes 2 (λ n. whole (two_sided 0x8000 n)) bytes place (omega arith))
    (if_goes (first == 0x1d) _ _ bytes place place (of_goes 4 (λ n. whole (two_sided 0x80000000 n)) bytes place (omega arith))
    (if_goes (first == 0x1e) _ _ bytes place place (real_goes bytes place)
    (if_goes (nat_lt first 0x20) _ _ bytes place place (inr (inl refl))
    (if_goes (nat_lt first 0xf7) _ _ bytes place place (omega arith, h)
    (if_goes (nat_lt first 0xfb) _ _ bytes place place (of_goes 1 (λ n. whole (above first n)) bytes place (omega arith))
    (if_goes (nat_lt first 0xff) _ _ bytes place place (of_goes 1 (λ n. whole (below first n)) bytes place (omega arith))
    (inr (inl refl))))))))

-- a byte, and what goes on from behind it
pub byte_then_goes : {A : Type 0} (f : ℕ → Reading A) →
    ((first : ℕ) (bytes : List ℕ) (place : ℕ) → place ≤ length bytes → Goes place (length bytes) (f first bytes place)) → (bytes : List ℕ)
    (place : ℕ) → Goes (place + 1) (length bytes) ((number 1 >>= f) bytes place)
byte_then_goes f each bytes place =
    goes_after (number 1 bytes place) _ (place + 1) (length bytes) (number_goes 1 bytes place (omega arith))
    (λ first next within. each first bytes next within)

pub dict_number_takes : TakesBytes dict_number
unfolding dict_number
dict_number_takes bytes place = goes_moves (dict_number bytes place) place (length bytes) (byte_then_goes begun begun_goes bytes place)

-- past the end the input ends early
pub slice_needs : (size : ℕ) → 0 < size → NeedsBytes (slice size)
unfolding slice
slice_needs size some bytes place past =
    let wanting : nat_lt (length bytes - place) size ≡ true = grind (arith, nat_tests) in rw wanting refl

pub needs_after : {A B : Type 0} (one : Reading A) (f : A → Reading B) → NeedsBytes one → NeedsBytes (one >>= f)
needs_after one f needs bytes place past = ap (λ o. after o (λ value next. f value bytes next)) (needs bytes place past)

pub number_needs : (size : ℕ) → 0 < size → NeedsBytes (number size)
unfolding number slice
number_needs size some = grind (arith, needs_after, nat_tests)

pub slice_takes : (size : ℕ) → 0 < size → TakesBytes (slice size)
unfolding slice
slice_takes size some bytes place =
    goes_moves (slice size bytes place) place (length bytes)
    (goes_later (slice size bytes place) (place + 1) (place + size) (length bytes) (omega arith) (grind arith))
