-- A phrase depends on its own bytes alone.
use Rattle.std.proofs.lemmas.Bool.Decides.{nat_tests}
use Rattle.std.proofs.lemmas.List.{take-append-le, take-take}
use Rattle.std.proofs.Common.{◌≡◌, refl, ap, ◌∙◌, ℕ, zero, suc, ◌+◌, ◌<◌, ◌≤◌, ◌==◌, Bool, true, false, List, [], ◌∷◌, ◌++◌, take, length, length-take, length-append, nat_lt, Option, ℤ, pos, ◌-ℤ◌, if◌then◌else◌, arith, ◌&&◌, ◌||◌, Some}
use Rattle.postscript_base.specs.Numbers.{slice, number, big_endian, two_sided, above, below}
use Rattle.postscript_base.specs.Tape.Outcome.{Outcome, Got, Reading, ◌>>=◌, pure, fault}
use Rattle.postscript_base.specs.Refusal.{malformed_number}
use Rattle.postscript_type2.specs.declared.operation.Operator.{Operator}
use Rattle.postscript_type2.specs.Operation.Kinds.{Kind, CallsFrom, GoesBack, kind}
use Rattle.postscript_type2.specs.Number.{spelled, whole}
use Rattle.postscript_type2.specs.Operation.Operators.{operator_of, operators, lookup}
use Rattle.postscript_type2.specs.Program.Parsing.{is_number, Parsed, Complete, NoPhrase, passed, with_number, with_operator, numbered, escaped, ending, phrase_after, phrase, fronted}
use Rattle.postscript_type2.proofs.Fronts.{number-first}

-- a reading that looks at no byte past its next place
abbrev IsPrompt : {A : Type 0} → Reading A → Type 0
IsPrompt {A} reading =
    (r y : List ℕ) (m : ℕ) (x : A) (next : ℕ) → reading r 0 ≡ Got x next → next ≤ m → reading (take m r ++ y) 0 ≡ Got x next

if-prompt : {A : Type 0} (b : Bool) (first second : Reading A) → IsPrompt first → IsPrompt second → IsPrompt (if b then first else second)
if-prompt true first second one two = one
if-prompt false first second one two = two

mapped-prompt : {A B : Type 0} (reading : Reading A) (f : A → B) → IsPrompt reading → IsPrompt (reading >>= λ x. pure (f x))
mapped-prompt reading f h0 = grind arith

slice-prompt : (count : ℕ) → IsPrompt (slice count)
unfolding slice
slice-prompt count = grind (arith, nat_tests, length-take, length-append, take-append-le, take-take)

number-prompt : (size : ℕ) → IsPrompt (number size)
unfolding number
number-prompt size = mapped-prompt (slice size) big_endian (slice-prompt size)

-- what a first byte begins
pub spelled-prompt : (first : ℕ) → IsPrompt (spelled first)
spelled-prompt first = if-prompt (first == 0x1c) _ _ (mapped-prompt (number 2) (λ n. whole (two_sided 0x8000 n)) (number-prompt 2))
    (if-prompt (nat_lt first 0x20) (fault malformed_number) _ (λ r y m x next is within. is)
    (if-prompt (nat_lt first 0xf7) (pure (whole (pos first -ℤ pos 139))) _ (λ r y m x next is within. is)
    (if-prompt (nat_lt first 0xfb) _ _ (mapped-prompt (number 1) (λ second. whole (above first second)) (number-prompt 1))
    (if-prompt (nat_lt first 0xff) _ _ (mapped-prompt (number 1) (λ second. whole (below first second)) (number-prompt 1))
    (mapped-prompt (number 4) (two_sided 0x80000000) (number-prompt 4))))))

-- whether operators of a kind stand in flat code as they are
abbrev pub stands_flat : Kind → Bool
stands_flat (CallsFrom routines) = false
stands_flat GoesBack = false
stands_flat k = true

-- the others have codes of one byte
all_short : List (ℕ × Operator) → Bool
all_short [] = true
all_short (entry ∷ entries) = (stands_flat (kind entry.1) || nat_lt entry.0 0x0c00) && all_short entries

long-entry : (flat short more : Bool) → (flat || short) && more ≡ true → short ≡ false → flat ≡ true
long-entry flat short more h is = grind arith

long-later : (flat short more : Bool) → (flat || short) && more ≡ true → more ≡ true
long-later flat short more h = grind arith

long-in : (entries : List (ℕ × Operator)) (code : ℕ) (op : Operator) → all_short entries ≡ true → 0x0c00 ≤ code →
    lookup entries code ≡ Some op → stands_flat (kind op) ≡ true
unfolding all_short
long-in [] code op t h e = absurd (cc)
long-in (entry ∷ entries) code op t h e =
    grind (
      arith,
      long-later,
      all_short,
      nat_tests,
      long-entry,
      long-in entries code op (long-later (stands_flat (kind entry.1)) (nat_lt entry.0 0x0c00) (all_short entries) t) h,
    )

pub long-flat : (second : ℕ) (op : Operator) → operator_of (0x0c00 + second) ≡ Some op → stands_flat (kind op) ≡ true
unfolding all_short
long-flat second op e = long-in operators (0x0c00 + second) op refl (omega arith) e

pub with-fronted : (x : ℤ) (numbers : List ℤ) (m : ℕ) (p : Parsed) → with_number x (fronted numbers m p) ≡ fronted (x ∷ numbers) (suc m) p
with-fronted x numbers m p = grind arith

-- A phrase past the first k of these bytes: it has passed them; its last byte is one of the bytes; and, whatever follows,
-- its bytes are the phrase, and those before an operator of one byte are the phrase's numbers.
pub record IsLocal (k : ℕ) (r : List ℕ) (numbers : List ℤ) (op : Operator) (more : ℕ) : Type 0 where
  pub passes : k ≤ more
  pub room : more < length r
  pub stands : (y : List ℕ) → phrase_after k (take (suc more) r ++ y) ≡ Complete numbers op more
  pub fronts : stands_flat (kind op) ≡ false → (y : List ℕ) → phrase_after k (take more r ++ y) ≡ fronted numbers more (phrase y)

abbrev pub Local : (k : ℕ) → List ℕ → Parsed → Type 0
Local k r (Complete numbers op more) = IsLocal k r numbers op more
Local k r (NoPhrase e) = Unit {0}

skip : (k b : ℕ) (r : List ℕ) (p : Parsed) → Local k r p → Local (suc k) (b ∷ r) (passed p)
skip k b r p l = grind arith

more-number : (b : ℕ) (r : List ℕ) (x : ℤ) (j : ℕ) → is_number b ≡ true → spelled b r 0 ≡ Got x j → (p : Parsed) → Local j r p →
    Local 0 (b ∷ r) (with_number x p)
more-number b r x j t e (NoPhrase f) l = tt
more-number b r x j t e (Complete numbers op more) l = record {
  passes = omega arith;
  room = let h : more < length r = l.room in omega arith;
  stands = λ y.
      number-first b (take (suc more) r ++ y) x j t (spelled-prompt b r y (suc more) x j e (let h : j ≤ more = l.passes in omega arith))
      ∙ ap (with_number x) (l.stands y);
  fronts = λ short y.
      number-first b (take more r ++ y) x j t (spelled-prompt b r y more x j e l.passes) ∙ ap (with_number x) (l.fronts short y)
      ∙ with-fronted x numbers more (phrase y);
}

number-by : (b : ℕ) (r : List ℕ) → is_number b ≡ true → ((j : ℕ) → Local j r (phrase_after j r)) → (o : Outcome ℤ) → spelled b r 0 ≡ o →
    Local 0 (b ∷ r) (numbered o (λ j. phrase_after j r))
number-by b r t ih o e = grind (arith, more-number)

long-by : (b c : ℕ) (r : List ℕ) → is_number b ≡ false → (b == 0x0c) ≡ true → (o : Option Operator) → operator_of (0x0c00 + c) ≡ o →
    Local 0 (b ∷ c ∷ r) (with_operator 1 o)
long-by b c r t u o h = grind (arith, nat_tests)

short-by : (b : ℕ) (r : List ℕ) → is_number b ≡ false → (b == 0x0c) ≡ false → (o : Option Operator) → operator_of b ≡ o → Local 0 (b ∷ r)
    (with_operator 0 o)
short-by b r t u o h = grind arith

ending-by : (b : ℕ) (r : List ℕ) → is_number b ≡ false → (long : Bool) → (b == 0x0c) ≡ long → Local 0 (b ∷ r)
    (if long then escaped r else with_operator 0 (operator_of b))
ending-by b [] t true u = tt
ending-by b (c ∷ r) t true u = long-by b c r t u (operator_of (0x0c00 + c)) refl
ending-by b r t false u = short-by b r t u (operator_of b) refl

head-by : (b : ℕ) (r : List ℕ) → ((j : ℕ) → Local j r (phrase_after j r)) → (t : Bool) → is_number b ≡ t →
    Local 0 (b ∷ r) (if t then numbered (spelled b r 0) (λ j. phrase_after j r) else ending b r)
head-by b r ih t e = grind (arith, number-by, ending-by)

pub local : (k : ℕ) (r : List ℕ) → Local k r (phrase_after k r)
local k [] = tt
local (suc k) (b ∷ r) = skip k b r (phrase_after k r) (local k r)
local zero (b ∷ r) = head-by b r (λ j. local j r) (is_number b) refl
