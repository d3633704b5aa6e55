-- The last number of a phrase, and those before it.
use Rattle.std.proofs.Common.{rules, ◌≡◌, refl, ap, sym, subst, ◌∙◌, ℕ, zero, suc, ◌+◌, ◌≤◌, ◌==◌, Bool, true, false, List, [], ◌∷◌, ◌++◌, take, drop, length, nat_lt, Option, Some, None, option_map, ℤ, if◌then◌else◌, arith}
use Rattle.postscript_base.specs.Numbers.{slice, number, big_endian}
use Rattle.postscript_base.specs.Tape.Outcome.{Outcome, Got, Reading, ◌>>=◌, pure, fault}
use Rattle.postscript_base.specs.Refusal.{malformed_number}
use Rattle.postscript_type2.specs.declared.operation.Operator.{Operator}
use Rattle.postscript_type2.specs.Operation.Kinds.{kind}
use Rattle.postscript_type2.specs.Number.{spelled}
use Rattle.postscript_type2.specs.Operation.Operators.{operator_of}
use Rattle.postscript_type2.specs.Program.Inlined.{behind_first, unless_last, before_last_past, before_last}
use Rattle.postscript_type2.specs.Program.Parsing.{is_number, Parsed, Complete, NoPhrase, passed, with_number, with_operator, numbered, escaped, ending, phrase_after, phrase, fronted}
use Rattle.postscript_type2.proofs.Fronts.{fronted-zero, number-first}
use Rattle.postscript_type2.proofs.Locals.{stands_flat, spelled-prompt, long-flat, with-fronted}

-- past a number that is begun
map-two : {A B C : Type 0} (f : B → C) (g : A → B) (o : Option A) → option_map f (option_map g o) ≡ option_map (λ x. f (g x)) o
map-two f g o = grind arith

pub past-is : (k : ℕ) (r : List ℕ) → before_last_past k r ≡ option_map (λ front. take k r ++ front) (before_last (drop k r))
past-is zero [] = refl
past-is (suc k) [] = refl
past-is zero (b ∷ r) = refl
past-is (suc k) (b ∷ r) = grind (arith, map-two, past-is k r)

-- a reading that passes so many bytes
abbrev Passes : {A : Type 0} → ℕ → Reading A → Type 0
Passes {A} n reading = (r : List ℕ) (x : A) (next : ℕ) → reading r 0 ≡ Got x next → next ≡ n

if-passes : {A : Type 0} (b : Bool) (first second : Reading A) (m n : ℕ) → Passes m first → Passes n second → Passes (if b then m else n)
    (if b then first else second)
if-passes true first second m n one two = one
if-passes false first second m n one two = two

mapped-passes : {A B : Type 0} (n : ℕ) (reading : Reading A) (f : A → B) → Passes n reading → Passes n (reading >>= λ x. pure (f x))
mapped-passes n reading f h0 = grind arith

slice-passes : (count : ℕ) → Passes count (slice count)
unfolding slice
slice-passes count = grind arith

number-passes : (size : ℕ) → Passes size (number size)
unfolding number
number-passes size = mapped-passes size (slice size) big_endian (slice-passes size)

no-number : (n : ℕ) → Passes n (fault {A = ℤ} malformed_number)
no-number n r x next is = absurd (cc)

abbrev counted : ℕ → ℕ
counted first =
    if first == 0x1c then 2 else if nat_lt first 0x20 then 0 else if nat_lt first 0xf7 then 0 else if nat_lt first
    0xfb then 1 else if nat_lt first 0xff then 1 else 4

-- a number has the bytes that its first one tells
spelled-passes : (first : ℕ) → Passes (counted first) (spelled first)
spelled-passes first = search (rules, if-passes, mapped-passes, number-passes, no-number)

same-count : (first : ℕ) → counted first ≡ behind_first first
same-count first = grind arith

behind-is : (first : ℕ) (r : List ℕ) (x : ℤ) (j : ℕ) → spelled first r 0 ≡ Got x j → j ≡ behind_first first
behind-is first r x j is = spelled-passes first r x j is ∙ same-count first

-- the numbers of a phrase are those of a front, and then one more
pub record HasLast (k : ℕ) (r : List ℕ) (numbers : List ℤ) (front : List ℕ) : Type 0 where
  pub before : List ℤ
  pub last : ℤ
  pub are : numbers ≡ before ++ last ∷ []
  pub passes : k ≤ length front
  pub stands : front ≡ take (length front) r
  pub fronts : (y : List ℕ) → phrase_after k (front ++ y) ≡ fronted before (length front) (phrase y)

-- or there are none
abbrev pub Last : (k : ℕ) → List ℕ → List ℤ → (more : ℕ) → Option (List ℕ) → Type 0
Last k r numbers more (Some front) = HasLast k r numbers front
Last k r numbers more None = (numbers ≡ []) × (more ≡ k)

-- of a phrase past the first k bytes whose operator has one byte
abbrev LastOf : (k : ℕ) → List ℕ → Parsed → Type 0
LastOf k r (Complete numbers op more) = stands_flat (kind op) ≡ false → Last k r numbers more (before_last_past k (take more r))
LastOf k r (NoPhrase e) = Unit {0}

skip : (k b : ℕ) (r : List ℕ) (p : Parsed) → LastOf k r p → LastOf (suc k) (b ∷ r) (passed p)
skip k b r p l = grind arith

number-last : (b : ℕ) (r : List ℕ) (x : ℤ) (j : ℕ) → is_number b ≡ true → spelled b r 0 ≡ Got x j → (numbers : List ℤ) (more : ℕ)
    (o : Option (List ℕ)) → Last j r numbers more o →
    HasLast 0 (b ∷ r) (x ∷ numbers) (unless_last b o)
number-last b r x j t e numbers more None l = record {
  before = [];
  last = x;
  are = ap (λ xs. x ∷ xs) l.0;
  passes = omega arith;
  stands = refl;
  fronts = λ y. sym (fronted-zero (phrase y));
}
number-last b r x j t e numbers more (Some front) l = record {
  before = x ∷ l.before;
  last = l.last;
  are = ap (λ xs. x ∷ xs) l.are;
  passes = omega arith;
  stands = ap (λ xs. b ∷ xs) l.stands;
  fronts = λ y.
      ap (λ xs. phrase_after 0 (b ∷ (xs ++ y))) l.stands
      ∙ number-first b (take (length front) r ++ y) x j t (spelled-prompt b r y (length front) x j e l.passes)
      ∙ ap (λ xs. with_number x (phrase_after j (xs ++ y))) (sym l.stands) ∙ ap (with_number x) (l.fronts y)
      ∙ with-fronted x l.before (length front) (phrase y);
}

more-last : (b : ℕ) (r : List ℕ) (x : ℤ) (j : ℕ) → is_number b ≡ true → spelled b r 0 ≡ Got x j → (p : Parsed) → LastOf j r p →
    LastOf 0 (b ∷ r) (with_number x p)
more-last b r x j t e (NoPhrase f) l = tt
more-last b r x j t e (Complete numbers op more) l = λ short.
    number-last b r x j t e numbers more (before_last_past (behind_first b) (take more r)) (subst-behind (behind-is b r x j e) short)
  where
    subst-behind : {i : ℕ} → j ≡ i → stands_flat (kind op) ≡ false → Last j r numbers more (before_last_past i (take more r))
    subst-behind {i} is short = rw (sym is) (l short)

number-by : (b : ℕ) (r : List ℕ) → is_number b ≡ true → ((j : ℕ) → LastOf j r (phrase_after j r)) → (o : Outcome ℤ) → spelled b r 0 ≡ o →
    LastOf 0 (b ∷ r) (numbered o (λ j. phrase_after j r))
number-by b r t ih o e = grind (arith, more-last)

long-by : (b c : ℕ) (r : List ℕ) (o : Option Operator) → operator_of (0x0c00 + c) ≡ o → LastOf 0 (b ∷ c ∷ r) (with_operator 1 o)
long-by b c r o h = grind (arith, stands_flat, long-flat)

ending-by : (b : ℕ) (r : List ℕ) → (long : Bool) → LastOf 0 (b ∷ r) (if long then escaped r else with_operator 0 (operator_of b))
ending-by b [] true = tt
ending-by b (c ∷ r) true = long-by b c r (operator_of (0x0c00 + c)) refl
ending-by b r false = short-by (operator_of b)
  where
    short-by : (o : Option Operator) → LastOf 0 (b ∷ r) (with_operator 0 o)
    short-by None = tt
    short-by (Some op) = λ short. (refl, refl)

head-by : (b : ℕ) (r : List ℕ) → ((j : ℕ) → LastOf j r (phrase_after j r)) → (t : Bool) → is_number b ≡ t →
    LastOf 0 (b ∷ r) (if t then numbered (spelled b r 0) (λ j. phrase_after j r) else ending b r)
head-by b r ih t e = grind (arith, number-by, ending-by)

last : (k : ℕ) (r : List ℕ) → LastOf k r (phrase_after k r)
last k [] = tt
last (suc k) (b ∷ r) = skip k b r (phrase_after k r) (last k r)
last zero (b ∷ r) = head-by b r (λ j. last j r) (is_number b) refl

-- the phrase at the front
pub last-number : (r : List ℕ) (numbers : List ℤ) (op : Operator) (more : ℕ) → phrase r ≡ Complete numbers op more →
    stands_flat (kind op) ≡ false →
    Last 0 r numbers more (before_last_past 0 (take more r))
last-number r numbers op more is = subst (LastOf 0 r) is (last 0 r)
