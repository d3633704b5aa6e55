-- What stays of a phrase, by the rules and as it is computed.
use Rattle.std.proofs.lemmas.Grind.{common_steps}
use Rattle.std.proofs.Math.Seq.{take-append_seam, drop-append_seam}
use Rattle.std.proofs.lemmas.Bool.Decides.{nat_tests}
use Rattle.std.proofs.lemmas.List.{append-nil}
use Rattle.std.proofs.Common.{◌≡◌, refl, ap, sym, subst, ◌∙◌, ◌⊎◌, inl, inr, ℕ, Bool, true, false, nat_lt, ◌==◌, List, [], ◌∷◌, ◌++◌, length, length-append, append_assoc, ℤ, Option, Some, None, if◌then◌else◌, arith}
use Rattle.postscript_type2.specs.declared.operation.Operator.{Operator}
use Rattle.postscript_type2.specs.Operation.Kinds.{Kind, CallsFrom, GoesBack, kind}
use Rattle.postscript_type2.specs.Program.Flat.{without_operator}
use Rattle.postscript_type2.specs.Program.Inlined as rules
use Rattle.postscript_type2.specs.Program.Inlined.{Piece, Stands, Leaves, IsNumbers, Stays, behind_first, unless_last, before_last, call_piece, piece_of, piece}
use Rattle.postscript_type2.specs.Program.InlinedLaws.{StaysIsComputed}
use Rattle.postscript_type2.specs.Program.Inlining.{is_flat_kind, is_flat}
use Rattle.postscript_type2.specs.Program.Phrases as spellings
use Rattle.postscript_type2.specs.Program.Phrases.{IsNumber, IsPhrase}
use Rattle.postscript_type2.specs.Program.Runs.{by}
use Rattle.postscript_type2.proofs.LastNumbers.{past-is}
use Rattle.postscript_type2.proofs.Locals.{stands_flat, long-flat}

-- a number, and then the numbers before the last one of those behind it
after-number : List ℕ → Option (List ℕ) → List ℕ
after-number number None = []
after-number number (Some front) = number ++ front

number-by : (first : ℕ) (tail rest : List ℕ) → behind_first first ≡ length tail →
    before_last ((first ∷ tail) ++ rest) ≡ Some (after-number (first ∷ tail) (before_last rest))
unfolding after-number
number-by first tail rest long = grind (arith, past-is, take-append_seam, drop-append_seam, after-number)

-- how many bytes follow the first one
count : (word small two : Bool) → ℕ
count word small two = if word then 2 else if small then 0 else if two then 1 else 4

behind-by : (first : ℕ) (word small two : Bool) → (first == 0x1c) ≡ word → nat_lt first 0xf7 ≡ small → nat_lt first 0xff ≡ two →
    behind_first first ≡ count word small two
unfolding count
behind-by first word small two w s t = rw (w, s, t) refl

number-before : (number : List ℕ) (x : ℤ) → IsNumber number x → (rest : List ℕ) →
    before_last (number ++ rest) ≡ Some (after-number number (before_last rest))
unfolding count
number-before number x (spellings.of_two_bytes a b) rest = number-by 0x1c (a ∷ b ∷ []) rest refl
number-before number x (spellings.small first low high) rest =
    number-by first [] rest (behind-by first false true (nat_lt first 0xff) (grind (arith, nat_tests)) (grind (arith, nat_tests)) refl)
number-before number x (spellings.positive first second low high) rest =
    number-by first (second ∷ []) rest
    (behind-by first false false true (grind (arith, nat_tests)) (grind (arith, nat_tests)) (grind (arith, nat_tests)))
number-before number x (spellings.negative first second low high) rest =
    number-by first (second ∷ []) rest
    (behind-by first false false true (grind (arith, nat_tests)) (grind (arith, nat_tests)) (grind (arith, nat_tests)))
number-before number x (spellings.of_bits first a b c d low) rest =
    number-by first (a ∷ b ∷ c ∷ d ∷ []) rest
    (behind-by first false false false (grind (arith, nat_tests)) (grind (arith, nat_tests)) (grind (arith, nat_tests)))

-- numbers, and then one
last-is : (front : List ℕ) (before : List ℤ) → IsNumbers front before → (number : List ℕ) (x : ℤ) → IsNumber number x →
    before_last (front ++ number) ≡ Some front
unfolding after-number
last-is front before rules.none number x is = ap before_last (sym (append-nil number)) ∙ number-before number x is []
last-is front before (rules.one_more n m y ys first more) number x is =
    grind (arith, nat_tests, common_steps, number-before, after-number, last-is m ys more number x is)

without-code : (numbers : List ℕ) (code : ℕ) → without_operator (numbers ++ code ∷ []) ≡ numbers
without-code numbers code = grind (arith, nat_tests, common_steps, length-append, take-append_seam)

flat-own : (op : Operator) (bytes : List ℕ) (k : Kind) → is_flat_kind k ≡ true → piece_of k op bytes ≡ Stands (by op bytes)
flat-own op bytes k own = grind arith

stays-so : (op : Operator) (bytes : List ℕ) (p : Piece) → Stays op bytes p → piece (by op bytes) ≡ p
stays-so op bytes p (rules.of_call front number code before x op' routines is first last) =
    ap (λ k. piece_of k op' (front ++ (number ++ code ∷ []))) is
    ∙ ap (λ xs. call_piece (before_last (without_operator xs))) (sym (append_assoc front number (code ∷ [])))
    ∙ ap (λ xs. call_piece (before_last xs)) (without-code (front ++ number) code)
    ∙ ap call_piece (last-is front before first number x last)
stays-so op bytes p (rules.of_lone_call code op' routines is) = ap (λ k. piece_of k op' (code ∷ [])) is
stays-so op bytes p (rules.of_return numbers code op' is) =
    ap (λ k. piece_of k op' (numbers ++ code ∷ [])) is ∙ ap Leaves (without-code numbers code)
stays-so op bytes p (rules.of_other op' bytes' own) = flat-own op' bytes' (kind op') own

-- numbers are none, or some and then one
split : (numbers : List ℕ) (xs : List ℤ) → IsNumbers numbers xs →
    (numbers ≡ []) ⊎ ((front number : List ℕ) × (before : List ℤ) × (x : ℤ) × (numbers ≡ front ++ number) × IsNumbers front
    before × IsNumber number x)
split numbers xs rules.none = inl refl
split numbers xs (rules.one_more n m y ys first more) = by_split (split m ys more)
  where
    by_split : (m ≡ []) ⊎ ((front number : List ℕ) × (before : List ℤ) × (x : ℤ) × (m ≡ front ++ number) × IsNumbers front
        before × IsNumber number x) →
        (n ++ m ≡ []) ⊎ ((front number : List ℕ) × (before : List ℤ) × (x : ℤ) × (n ++ m ≡ front ++ number) × IsNumbers front
        before × IsNumber number x)
    by_split (inl empty) = inr ([], n, [], y, ap (λ xs. n ++ xs) empty ∙ append-nil n, rules.none, first)
    by_split (inr (front, number, before, x, is, some, last)) =
        inr (
          n ++ front,
          number,
          y ∷ before,
          x,
          ap (λ xs. n ++ xs) is ∙ sym (append_assoc n front number),
          rules.one_more n front y before first some,
          last,
        )

same-kinds : (k : Kind) → stands_flat k ≡ is_flat_kind k
same-kinds k = grind arith

-- a phrase of a call or a return is numbers and then its operator, of one byte
spelled-so : (bytes : List ℕ) (numbers : List ℤ) (op : Operator) → is_flat op ≡ false → IsPhrase bytes numbers op →
    (front : List ℕ) × (code : ℕ) × (bytes ≡ front ++ code ∷ []) × IsNumbers front numbers
spelled-so bytes numbers op other (spellings.operator code op' short is) = ([], code, refl, rules.none)
spelled-so bytes numbers op other (spellings.escaped_operator second op' is) =
    let flat : is_flat op' ≡ true = sym (same-kinds (kind op')) ∙ long-flat second op' is in absurd (cc)
spelled-so bytes numbers op other (spellings.after_number number more x xs op' first rest) =
    let s = spelled-so more xs op' other rest in
    (number ++ s.0, s.1, ap (λ ys. number ++ ys) s.2 ∙ sym (append_assoc number s.0 (s.1 ∷ [])), rules.one_more number s.0 x xs first s.3)

-- something stays of each phrase
some-stays : (op : Operator) (bytes : List ℕ) → (is_flat op ≡ false → (numbers : List ℤ) × IsPhrase bytes numbers op) →
    (p : Piece) × Stays op bytes p
some-stays op bytes phrased = by_flat (is_flat op) refl
  where
    by_kind : (k : Kind) → kind op ≡ k → is_flat_kind k ≡ false → (front : List ℕ) (code : ℕ) (numbers : List ℤ) →
        IsNumbers front numbers → (p : Piece) × Stays op (front ++ code ∷ []) p
    by_kind (CallsFrom routines) is other front code numbers some = by_split (split front numbers some)
      where
        by_split : (front ≡ []) ⊎ ((before number : List ℕ) × (xs : List ℤ) × (x : ℤ) × (front ≡ before ++ number) × IsNumbers before
            xs × IsNumber number x) →
            (p : Piece) × Stays op (front ++ code ∷ []) p
        by_split (inl empty) =
            subst (λ ys. (p : Piece) × Stays op (ys ++ code ∷ []) p) (sym empty) (_, rules.of_lone_call code op routines is)
        by_split (inr (before, number, xs, x, parts, first, last)) =
            subst (λ ys. (p : Piece) × Stays op ys p) (sym (ap (λ ys. ys ++ code ∷ []) parts ∙ append_assoc before number (code ∷ [])))
            (Leaves before, rules.of_call before number code xs x op routines is first last)
    by_kind GoesBack is other front code numbers some = (Leaves front, rules.of_return front code op is)
    by_kind k is other front code numbers some = absurd (cc)

    by_flat : (flat : Bool) → is_flat op ≡ flat → (p : Piece) × Stays op bytes p
    by_flat true own = (Stands (by op bytes), rules.of_other op bytes own)
    by_flat false other =
        let s = spelled-so bytes (phrased other).0 op other (phrased other).1 in
        subst (λ ys. (p : Piece) × Stays op ys p) (sym s.2) (by_kind (kind op) refl other s.0 s.1 (phrased other).0 s.3)

pub law : StaysIsComputed
law op bytes phrased p = (stays-so op bytes p, back)
  where
    back : piece (by op bytes) ≡ p → Stays op bytes p
    back is = let some = some-stays op bytes phrased in subst (Stays op bytes) (sym (stays-so op bytes some.0 some.1) ∙ is) some.1
