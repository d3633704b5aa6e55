-- Phrases as they are spelled, and as they are read.
use Rattle.std.proofs.lemmas.Bool.Decides.{nat_tests}
use Rattle.std.proofs.Math.Seq.{drop-append_seam, take-append-add}
use Rattle.std.proofs.lemmas.Bool.{eqb-true, eqb-false, ltb-false, le-ltb, lt-ltb, ne_eqb}
use Rattle.std.proofs.lemmas.List.{append-nil, take-append-drop, length-take-le}
use Rattle.std.proofs.Common.{◌≡◌, ◌≢◌, refl, ap, sym, subst, ◌∙◌, ℕ, zero, suc, ◌+◌, ◌-◌, ◌<◌, ◌≤◌, ◌⊎◌, inl, inr, ℤ, pos, ◌-ℤ◌, Bool, true, false, cond, nat_lt, ◌==◌, ◌||◌, List, [], ◌∷◌, ◌++◌, length, length-append, length-drop, take, drop, append_assoc, Option, Some, None, if◌then◌else◌, arith}
use Rattle.postscript_base.specs.Numbers.{slice, number as unsigned, big_endian, two_sided, above, below}
use Rattle.postscript_base.specs.Tape.Outcome.{Got, Fault, Reading, ◌>>=◌, pure}
use Rattle.postscript_base.specs.Refusal.{Refusal, unexpected_eof}
use Rattle.postscript_type2.specs.declared.operation.Operator.{Operator}
use Rattle.postscript_type2.specs.Program.Computed.{PhraseIsRead, NoPhraseIsRefused}
use Rattle.postscript_type2.specs.Number.{spelled, whole}
use Rattle.postscript_type2.specs.Operation.Operators.{operator_of}
use Rattle.postscript_type2.specs.Program.Parsing.{Parsed, Complete, NoPhrase, is_number, with_number, numbered, with_operator, escaped, ending, phrase_after, phrase, fronted}
use Rattle.postscript_type2.specs.Program.Phrases as spellings
use Rattle.postscript_type2.specs.Program.Phrases.{IsNumber, IsPhrase, HasNoPhrase}
use Rattle.postscript_type2.proofs.Fronts.{number-first, phrase-from}

either : (t u : Bool) → u ≡ true → (t || u) ≡ true
either t u h = grind arith

pub neither : (t u : Bool) → (t || u) ≡ false → (t ≡ false) × (u ≡ false)
neither t u h = grind arith

no-number_by : (b : ℕ) → (b == 0x1c) ≡ false → b < 0x20 → is_number b ≡ false
no-number_by b e low = ap (λ t. t || nat_lt 0x1f b) e ∙ le-ltb 0x1f b (omega (arith, low))

pub skip : (b : Bool) (x y : Reading ℤ) (bytes : List ℕ) (place : ℕ) → b ≡ false → (if b then x else y) bytes place ≡ y bytes place
skip b x y bytes place h = grind arith

abbrev two : Reading ℤ
two = unsigned 2 >>= λ n. pure (whole (two_sided 0x8000 n))

abbrev one_above : ℕ → Reading ℤ
one_above first = unsigned 1 >>= λ second. pure (whole (above first second))

abbrev one_below : ℕ → Reading ℤ
one_below first = unsigned 1 >>= λ second. pure (whole (below first second))

abbrev four : Reading ℤ
four = unsigned 4 >>= λ bits. pure (two_sided 0x80000000 bits)

reads-small : (b : ℕ) (r : List ℕ) → 0x20 ≤ b → b < 0xf7 → spelled b r 0 ≡ Got (whole (pos b -ℤ pos 139)) 0
reads-small b r low high = grind arith

reads-above : (b : ℕ) (r : List ℕ) → 0xf7 ≤ b → b < 0xfb → spelled b r 0 ≡ one_above b r 0
reads-above b r low high = grind arith

reads-below : (b : ℕ) (r : List ℕ) → 0xfb ≤ b → b < 0xff → spelled b r 0 ≡ one_below b r 0
reads-below b r low high = grind (arith, nat_tests)

reads-bits : (b : ℕ) (r : List ℕ) → 0xff ≤ b → spelled b r 0 ≡ four r 0
reads-bits b r low = grind arith

-- the bytes behind the first one, where they are there and where they are cut
unsigned-there : (n : ℕ) (f : ℕ → ℤ) (bytes : List ℕ) → n ≤ length bytes →
    (unsigned n >>= λ v. pure (f v)) bytes 0 ≡ Got (f (big_endian (take n bytes))) n
unfolding unsigned slice
unsigned-there n f bytes h = grind arith

unsigned-cut : (n : ℕ) (f : ℕ → ℤ) (bytes : List ℕ) → length bytes < n → (unsigned n >>= λ v. pure (f v)) bytes 0 ≡ Fault unexpected_eof
unfolding unsigned slice
unsigned-cut n f bytes h = grind arith

is-number : (b : ℕ) → 0x20 ≤ b → is_number b ≡ true
is-number b h = either (b == 0x1c) (nat_lt 0x1f b) (lt-ltb 0x1f b (omega (arith, h)))

-- a number is read, whatever follows it
abbrev pub ReadsSo : List ℕ → ℤ → Type 0
ReadsSo number x =
    (b : ℕ) × (s : List ℕ) × (number ≡ b ∷ s) × (is_number b ≡ true) × ((tail : List ℕ) → spelled b (s ++ tail) 0 ≡ Got x (length s))

pub reads-number : (number : List ℕ) (x : ℤ) → IsNumber number x → ReadsSo number x
reads-number number x (spellings.of_two_bytes a b) =
    (0x1c, a ∷ b ∷ [], refl, refl, λ tail. unsigned-there 2 (λ n. whole (two_sided 0x8000 n)) (a ∷ b ∷ tail) (omega arith))
reads-number number x (spellings.small b low high) = (b, [], refl, is-number b low, λ tail. reads-small b tail low high)
reads-number number x (spellings.positive b second low high) =
    (b, second ∷ [], refl, is-number b (omega (arith, low)), λ tail. reads-above b (second ∷ tail) low high ∙ by_one b second tail)
  where
    by_one : (b second : ℕ) (tail : List ℕ) → one_above b (second ∷ tail) 0 ≡ Got (whole (above b second)) 1
    by_one b second tail =
        unsigned-there 1 (λ s. whole (above b s)) (second ∷ tail) (omega arith) ∙ ap (λ s. Got (whole (above b s)) 1) (omega arith)
reads-number number x (spellings.negative b second low high) =
    (b, second ∷ [], refl, is-number b (omega (arith, low)), λ tail. reads-below b (second ∷ tail) low high ∙ by_one b second tail)
  where
    by_one : (b second : ℕ) (tail : List ℕ) → one_below b (second ∷ tail) 0 ≡ Got (whole (below b second)) 1
    by_one b second tail =
        unsigned-there 1 (λ s. whole (below b s)) (second ∷ tail) (omega arith) ∙ ap (λ s. Got (whole (below b s)) 1) (omega arith)
reads-number number x (spellings.of_bits b a c d e low) = (
  b,
  a ∷ c ∷ d ∷ e ∷ [],
  refl,
  is-number b (omega (arith, low)),
  λ tail. reads-bits b (a ∷ c ∷ d ∷ e ∷ tail) low ∙ unsigned-there 4 (two_sided 0x80000000) (a ∷ c ∷ d ∷ e ∷ tail) (omega arith),
)

pub same-next : (x y : ℤ) (m n : ℕ) → Got x m ≡ Got y n → m ≡ n
same-next x y m n h = cc

-- the same by the first byte
spelled-front : (b : ℕ) (s : List ℕ) (x : ℤ) → IsNumber (b ∷ s) x → (tail : List ℕ) →
    (is_number b ≡ true) × (spelled b (s ++ tail) 0 ≡ Got x (length s))
spelled-front b s x is tail = grind (arith, reads-number)

-- the forms of a first byte
abbrev pub Form : ℕ → Type 0
Form b = (b ≡ 0x1c) ⊎ (((0x20 ≤ b) × (b < 0xf7)) ⊎ (((0xf7 ≤ b) × (b < 0xfb)) ⊎ (((0xfb ≤ b) × (b < 0xff)) ⊎ (0xff ≤ b))))

pub form : (b : ℕ) → is_number b ≡ true → Form b
form b h = grind arith

-- a number stands there
abbrev pub Stands : ℕ → List ℕ → Type 0
Stands b r = (more : ℕ) × (x : ℤ) × (spelled b r 0 ≡ Got x more) × IsNumber (b ∷ take more r) x × (more ≤ length r)

-- it is cut
abbrev pub IsCut : ℕ → List ℕ → Type 0
IsCut b r = (missing : List ℕ) × (x : ℤ) × (spelled b r 0 ≡ Fault unexpected_eof) × (missing ≢ []) × IsNumber (b ∷ (r ++ missing)) x

pub number-at : (b : ℕ) (r : List ℕ) → Form b → Stands b r ⊎ IsCut b r
number-at b r (inl e) = subst (λ c. Stands c r ⊎ IsCut c r) (sym e) (at_two r)
  where
    at_two : (r : List ℕ) → Stands 0x1c r ⊎ IsCut 0x1c r
    at_two [] = inr (0 ∷ 0 ∷ [], _, unsigned-cut 2 (λ n. whole (two_sided 0x8000 n)) [] (omega arith), λ e. cc, spellings.of_two_bytes 0 0)
    at_two (a ∷ []) =
        inr (0 ∷ [], _, unsigned-cut 2 (λ n. whole (two_sided 0x8000 n)) (a ∷ []) (omega arith), λ e. cc, spellings.of_two_bytes a 0)
    at_two (a ∷ c ∷ t) =
        inl (2, _, unsigned-there 2 (λ n. whole (two_sided 0x8000 n)) (a ∷ c ∷ t) (omega arith), spellings.of_two_bytes a c, omega arith)
number-at b r (inr (inl h)) = inl (0, _, reads-small b r h.0 h.1, spellings.small b h.0 h.1, omega arith)
number-at b [] (inr (inr (inl h))) =
    inr (
      0 ∷ [],
      _,
      reads-above b [] h.0 h.1 ∙ unsigned-cut 1 (λ s. whole (above b s)) [] (omega arith),
      λ e. cc,
      spellings.positive b 0 h.0 h.1,
    )
number-at b (s ∷ t) (inr (inr (inl h))) =
    let n : big_endian (s ∷ []) ≡ s = omega arith in
    inl (
      1,
      _,
      reads-above b (s ∷ t) h.0 h.1 ∙ unsigned-there 1 (λ s. whole (above b s)) (s ∷ t) (omega arith)
          ∙ ap (λ s. Got (whole (above b s)) 1) n,
      spellings.positive b s h.0 h.1,
      omega arith,
    )
number-at b [] (inr (inr (inr (inl h)))) =
    inr (
      0 ∷ [],
      _,
      reads-below b [] h.0 h.1 ∙ unsigned-cut 1 (λ s. whole (below b s)) [] (omega arith),
      λ e. cc,
      spellings.negative b 0 h.0 h.1,
    )
number-at b (s ∷ t) (inr (inr (inr (inl h)))) =
    let n : big_endian (s ∷ []) ≡ s = omega arith in
    inl (
      1,
      _,
      reads-below b (s ∷ t) h.0 h.1 ∙ unsigned-there 1 (λ s. whole (below b s)) (s ∷ t) (omega arith)
          ∙ ap (λ s. Got (whole (below b s)) 1) n,
      spellings.negative b s h.0 h.1,
      omega arith,
    )
number-at b r (inr (inr (inr (inr h)))) = at_four r
  where
    cut : (r : List ℕ) → length r < 4 → spelled b r 0 ≡ Fault unexpected_eof
    cut r few = reads-bits b r h ∙ unsigned-cut 4 (two_sided 0x80000000) r few

    at_four : (r : List ℕ) → Stands b r ⊎ IsCut b r
    at_four [] = inr (0 ∷ 0 ∷ 0 ∷ 0 ∷ [], _, cut [] (omega arith), λ e. cc, spellings.of_bits b 0 0 0 0 h)
    at_four (a ∷ []) = inr (0 ∷ 0 ∷ 0 ∷ [], _, cut (a ∷ []) (omega arith), λ e. cc, spellings.of_bits b a 0 0 0 h)
    at_four (a ∷ c ∷ []) = inr (0 ∷ 0 ∷ [], _, cut (a ∷ c ∷ []) (omega arith), λ e. cc, spellings.of_bits b a c 0 0 h)
    at_four (a ∷ c ∷ d ∷ []) = inr (0 ∷ [], _, cut (a ∷ c ∷ d ∷ []) (omega arith), λ e. cc, spellings.of_bits b a c d 0 h)
    at_four (a ∷ c ∷ d ∷ e ∷ t) =
        inl (
          4,
          _,
          reads-bits b (a ∷ c ∷ d ∷ e ∷ t) h ∙ unsigned-there 4 (two_sided 0x80000000) (a ∷ c ∷ d ∷ e ∷ t) (omega arith),
          spellings.of_bits b a c d e h,
          omega arith,
        )

-- a number before a phrase, or before what is none
number-before : (number : List ℕ) (x : ℤ) → IsNumber number x → (tail : List ℕ) →
    (n : ℕ) × (length number ≡ suc n) × (phrase (number ++ tail) ≡ with_number x (fronted [] n (phrase tail)))
number-before number x is tail =
    let read = reads-number number x is in
    let b = read.0 in
    let s = read.1 in (
      length s,
      ap length read.2,
      ap (λ bytes. phrase (bytes ++ tail)) read.2 ∙ number-first b (s ++ tail) x (length s) read.3 (read.4 tail)
          ∙ ap (with_number x) (phrase-from (length s) (s ++ tail)
          ∙ ap (λ rest. fronted [] (length s) (phrase rest)) (drop-append_seam s tail)),
    )

-- an operator of one byte begins no number and is no escape
pub no-number : (code : ℕ) (op : Operator) → code < 0x20 → operator_of code ≡ Some op → (is_number code ≡ false) × ((code == 0x0c) ≡ false)
no-number code op low is = grind (arith, nat_tests)

one-byte : (code : ℕ) (behind : List ℕ) → is_number code ≡ false → (code == 0x0c) ≡ false →
    phrase (code ∷ behind) ≡ with_operator 0 (operator_of code)
one-byte code behind e f = grind arith

pub reads-phrase : (p : List ℕ) (xs : List ℤ) (op : Operator) → IsPhrase p xs op → (behind : List ℕ) →
    (more : ℕ) × (length p ≡ more + 1) × (phrase (p ++ behind) ≡ Complete xs op more)
reads-phrase p xs op (spellings.operator code op' low is) behind =
    let t = no-number code op' low is in (0, refl, one-byte code behind t.0 t.1 ∙ ap (with_operator 0) is)
reads-phrase p xs op (spellings.escaped_operator second op' is) behind = (1, refl, ap (with_operator 1) is)
reads-phrase p xs op (spellings.after_number number more x xs' op' is later) behind =
    let read = reads-phrase more xs' op' later behind in
    let before = number-before number x is (more ++ behind) in
    let n = before.0 in
    let long : length number ≡ suc n = before.1 in
    let rest : length more ≡ read.0 + 1 = read.1 in
    let all : length (number ++ more) ≡ length number + length more = length-append number more in (
      suc (n + read.0),
      omega (arith, long, rest, all),
      ap phrase (append_assoc number more behind) ∙ before.2 ∙ ap (λ q. with_number x (fronted [] n q)) read.2,
    )

-- a cut number
cut-phrase : (bytes missing w : List ℕ) (x : ℤ) → bytes ≢ [] → missing ≢ [] → w ≡ bytes ++ missing → IsNumber w x →
    phrase bytes ≡ NoPhrase unexpected_eof
cut-phrase [] missing w x some more e is = absurd (some refl)
cut-phrase (b ∷ r) [] w x some more e is = absurd (more refl)
cut-phrase (b ∷ r) (m ∷ ms) w x some more e is = by_read (number-at b r (form b begins))
  where
    whole : IsNumber (b ∷ (r ++ m ∷ ms)) x
    whole = subst (λ bytes. IsNumber bytes x) e is

    begins : is_number b ≡ true
    begins = (spelled-front b (r ++ m ∷ ms) x whole []).0

    by_read : Stands b r ⊎ IsCut b r → phrase (b ∷ r) ≡ NoPhrase unexpected_eof
    by_read (inr cut) =
        ap (λ v. cond v (numbered (spelled b r 0) (λ more. phrase_after more r)) (ending b r)) begins
        ∙ ap (λ o. numbered o (λ more. phrase_after more r)) cut.2
    by_read (inl there) =
        let more = there.0 in
        let short = (spelled-front b (take more r) there.1 there.3 (drop more r ++ m ∷ ms)).1 in
        let long = (spelled-front b (r ++ m ∷ ms) x whole []).1 in
        let bytes : take more r ++ (drop more r ++ m ∷ ms) ≡ (r ++ m ∷ ms) ++ [] =
        sym (append_assoc (take more r) (drop more r) (m ∷ ms)) ∙ ap (λ front. front ++ m ∷ ms) (take-append-drop more r)
        ∙ sym (append-nil (r ++ m ∷ ms)) in
        let same : Got there.1 (length (take more r)) ≡ Got x (length (r ++ m ∷ ms)) = sym short ∙ ap (λ l. spelled b l 0) bytes ∙ long in
        let ends : length (take more r) ≡ length (r ++ m ∷ ms) = same-next there.1 x (length (take more r)) (length (r ++ m ∷ ms)) same in
        let front : length (take more r) ≡ more = length-take-le more r there.4 in
        let all : length (r ++ m ∷ ms) ≡ length r + suc (length ms) = length-append r (m ∷ ms) in
        let room : more ≤ length r = there.4 in
        absurd (omega (arith, ends, front, all, room))

pub reads-no_phrase : (bytes : List ℕ) (e : Refusal) → HasNoPhrase bytes e → phrase bytes ≡ NoPhrase e
reads-no_phrase bytes e spellings.no_operator = refl
reads-no_phrase bytes e spellings.lone_escape = refl
reads-no_phrase bytes e (spellings.cut_number bytes' missing x some more is) =
    cut-phrase bytes' missing (bytes' ++ missing) x some more refl is
reads-no_phrase bytes e (spellings.no_such_operator code rest low other number is) =
    grind (arith, cut-phrase, one-byte, no-number_by, ne_eqb, number-before)
reads-no_phrase bytes e (spellings.no_such_escape second rest is) = ap (with_operator 1) is
reads-no_phrase bytes e (spellings.behind_number number rest x e' is none) =
    let before = number-before number x is rest in
    before.2 ∙ ap (λ q. with_number x (fronted [] before.0 q)) (reads-no_phrase rest e' none)

-- what a phrase that was read says of the bytes
abbrev Spells : List ℕ → Parsed → Type 0
Spells bytes (Complete xs op more) = IsPhrase (take (more + 1) bytes) xs op × (length (take (more + 1) bytes) ≡ more + 1)
Spells bytes (NoPhrase e) = HasNoPhrase bytes e

number-spells : (b : ℕ) (r : List ℕ) (more : ℕ) (x : ℤ) → IsNumber (b ∷ take more r) x → more ≤ length r → (q : Parsed) →
    Spells (drop more r) q →
    Spells (b ∷ r) (with_number x (fronted [] more q))
number-spells b r more x is room (NoPhrase e) none =
    subst (λ bytes. HasNoPhrase (b ∷ bytes) e) (take-append-drop more r)
    (spellings.behind_number (b ∷ take more r) (drop more r) x e is none)
number-spells b r more x is room (Complete xs op n) spelled =
    let number = b ∷ take more r in
    let rest = drop more r in
    let long : length (take more r) ≡ more = length-take-le more r room in
    let count : suc (more + n) + 1 ≡ length number + (n + 1) = omega (arith, long) in
    let whole : number ++ rest ≡ b ∷ r = ap (λ bytes. b ∷ bytes) (take-append-drop more r) in
    let front : take (suc (more + n) + 1) (b ∷ r) ≡ number ++ take (n + 1) rest =
    ap (λ bytes. take (suc (more + n) + 1) bytes) (sym whole) ∙ ap (λ k. take k (number ++ rest)) count
    ∙ take-append-add number rest (n + 1) in
    let all : length (number ++ take (n + 1) rest) ≡ length number + length (take (n + 1) rest) = length-append number
    (take (n + 1) rest) in
    let tail : length (take (n + 1) rest) ≡ n + 1 = spelled.1 in
    let size : length (number ++ take (n + 1) rest) ≡ suc (more + n) + 1 = omega (arith, all, tail, long) in (
      subst (λ bytes. IsPhrase bytes (x ∷ xs) op) (sym front) (spellings.after_number number (take (n + 1) rest) x xs op is spelled.0),
      ap length front ∙ size,
    )

operator-spells : (b : ℕ) (r : List ℕ) → is_number b ≡ false → Spells (b ∷ r) (ending b r)
operator-spells b r other = by_escape (b == 0x0c) refl
  where
    low : b < 0x20
    low = omega (arith, ltb-false 0x1f b (neither (b == 0x1c) (nat_lt 0x1f b) other).1)

    by_second : (second : ℕ) (t : List ℕ) (o : Option Operator) → operator_of (0x0c00 + second) ≡ o → Spells (0x0c ∷ second ∷ t)
        (with_operator 1 o)
    by_second second t (Some op) is = (spellings.escaped_operator second op is, refl)
    by_second second t None is = spellings.no_such_escape second t is

    by_rest : (r : List ℕ) → Spells (0x0c ∷ r) (escaped r)
    by_rest [] = spellings.lone_escape
    by_rest (second ∷ t) = by_second second t (operator_of (0x0c00 + second)) refl

    by_code : (o : Option Operator) → operator_of b ≡ o → (b == 0x0c) ≡ false → Spells (b ∷ r) (with_operator 0 o)
    by_code (Some op) is e = (spellings.operator b op low is, refl)
    by_code None is e =
        spellings.no_such_operator b r low (eqb-false b 0x0c e) (eqb-false b 0x1c (neither (b == 0x1c) (nat_lt 0x1f b) other).0) is

    by_escape : (t : Bool) → (b == 0x0c) ≡ t → Spells (b ∷ r) (if t then escaped r else with_operator 0 (operator_of b))
    by_escape true e = subst (λ c. Spells (c ∷ r) (escaped r)) (sym (eqb-true b 0x0c e)) (by_rest r)
    by_escape false e = by_code (operator_of b) refl e

phrase-spells : (n : ℕ) (bytes : List ℕ) → length bytes ≤ n → Spells bytes (phrase bytes)
phrase-spells n [] few = spellings.no_operator
phrase-spells zero (b ∷ r) few = absurd (omega arith)
phrase-spells (suc n) (b ∷ r) few =
    by_first (λ more. phrase-spells n (drop more r)
    (let l : length (drop more r) ≡ length r - more = length-drop more r in omega (arith, l, few))) (is_number b) refl
  where
    by_number : ((more : ℕ) → Spells (drop more r) (phrase (drop more r))) → Stands b r ⊎ IsCut b r → Spells (b ∷ r)
        (numbered (spelled b r 0) (λ more. phrase_after more r))
    by_number ih (inl there) =
        let more = there.0 in
        subst (Spells (b ∷ r)) (sym
        (ap (λ o. numbered o (λ more. phrase_after more r)) there.2 ∙ ap (with_number there.1) (phrase-from more r)))
        (number-spells b r more there.1 there.3 there.4 (phrase (drop more r)) (ih more))
    by_number ih (inr cut) =
        subst (Spells (b ∷ r)) (sym (ap (λ o. numbered o (λ more. phrase_after more r)) cut.2))
        (spellings.cut_number (b ∷ r) cut.0 cut.1 (λ e. cc) cut.3 cut.4)

    by_first : ((more : ℕ) → Spells (drop more r) (phrase (drop more r))) → (t : Bool) → is_number b ≡ t →
        Spells (b ∷ r) (if t then numbered (spelled b r 0) (λ more. phrase_after more r) else ending b r)
    by_first ih true is = by_number ih (number-at b r (form b is))
    by_first ih false is = operator-spells b r is

pub phrase-spelled : (bytes : List ℕ) (xs : List ℤ) (op : Operator) (more : ℕ) → phrase bytes ≡ Complete xs op more →
    IsPhrase (take (more + 1) bytes) xs op × (length (take (more + 1) bytes) ≡ more + 1)
phrase-spelled bytes xs op more is = subst (Spells bytes) is (phrase-spells (length bytes) bytes (omega arith))

pub no_phrase-spelled : (bytes : List ℕ) (e : Refusal) → phrase bytes ≡ NoPhrase e → HasNoPhrase bytes e
no_phrase-spelled bytes e is = subst (Spells bytes) is (phrase-spells (length bytes) bytes (omega arith))

pub phrase-law : PhraseIsRead
phrase-law bytes xs op more = (there, λ h. back h.0 h.1 h.2 h.3 h.4)
  where
    there : phrase bytes ≡ Complete xs op more →
        (front : List ℕ) × (behind : List ℕ) × (bytes ≡ front ++ behind) × (length front ≡ more + 1) × IsPhrase front xs op
    there is =
        let spelled = phrase-spelled bytes xs op more is in
        (take (more + 1) bytes, drop (more + 1) bytes, sym (take-append-drop (more + 1) bytes), spelled.1, spelled.0)

    back : (front behind : List ℕ) → bytes ≡ front ++ behind → length front ≡ more + 1 → IsPhrase front xs op →
        phrase bytes ≡ Complete xs op more
    back front behind whole long is =
        let read = reads-phrase front xs op is behind in
        let l : length front ≡ read.0 + 1 = read.1 in
        let same : read.0 ≡ more = omega (arith, long, l) in
        ap phrase whole ∙ read.2 ∙ ap (Complete xs op) same

pub no_phrase-law : NoPhraseIsRefused
no_phrase-law bytes e = (no_phrase-spelled bytes e, reads-no_phrase bytes e)
