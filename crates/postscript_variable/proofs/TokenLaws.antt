-- Numbers and operators as they are spelled, and as they are read.
use Rattle.std.proofs.lemmas.Bool.Decides.{nat_tests}
use Rattle.std.proofs.lemmas.Bool.{eqb-true, eqb-false, ltb-false, le-ltb, ne_eqb}
use Rattle.std.proofs.lemmas.List.{append-nil, take-append-drop, length-take-le}
use Rattle.std.proofs.Common.{◌≡◌, ◌≢◌, refl, ap, sym, subst, ◌∙◌, ℕ, suc, ◌+◌, ◌<◌, ◌≤◌, ◌⊎◌, inl, inr, ℤ, Bool, true, false, cond, nat_lt, ◌==◌, ◌||◌, List, [], ◌∷◌, ◌++◌, length, length-append, take, drop, append_assoc, Option, Some, None, if◌then◌else◌, arith}
use Rattle.postscript_base.specs.Refusal.{Refusal, unexpected_eof}
use Rattle.postscript_type2.specs.Number.{spelled}
use Rattle.postscript_type2.specs.Program.Parsing.{is_number}
use Rattle.postscript_type2.specs.Program.Phrases.{IsNumber}
use Rattle.postscript_type2.proofs.PhraseLaws.{neither, reads-number, form, Stands, IsCut, number-at}
use Rattle.postscript_variable.specs.declared.command.Command.{Command}
use Rattle.postscript_variable.specs.Commands.{command_of}
use Rattle.postscript_variable.specs.Computed.{NumberIsRead, OperatorIsRead, NothingIsRead}
use Rattle.postscript_variable.specs.Tokens as spellings
use Rattle.postscript_variable.specs.Tokens.{Token, Number, Operator, NoToken, numbered, with_command, escaped, commanded, token, IsOperator, HasNoToken}

-- a token by whether a number begins
pub by-number : (first : ℕ) (r : List ℕ) → is_number first ≡ true → token first r ≡ numbered (spelled first r 0)
by-number first r is = ap (λ b. cond b (numbered (spelled first r 0)) (commanded first r)) is

by-operator : (first : ℕ) (r : List ℕ) → is_number first ≡ false → token first r ≡ commanded first r
by-operator first r is = ap (λ b. cond b (numbered (spelled first r 0)) (commanded first r)) is

-- what is spelled so is read, whatever follows it
abbrev pub IsReadAs : (spelling : List ℕ) → (ℕ → Token) → Type 0
IsReadAs spelling made =
    (first : ℕ) × (s : List ℕ) × (spelling ≡ first ∷ s) × ((behind : List ℕ) → token first (s ++ behind) ≡ made (length s))

pub number-read : (spelling : List ℕ) (x : ℤ) → IsNumber spelling x → IsReadAs spelling (Number x)
number-read spelling x is =
    let read = reads-number spelling x is in
    (read.0, read.1, read.2, λ behind. by-number read.0 (read.1 ++ behind) read.3 ∙ ap numbered (read.4 behind))

-- an operator of one byte begins no number and is no escape
no-number : (code : ℕ) (command : Command) → code < 0x20 → command_of code ≡ Some command →
    (is_number code ≡ false) × ((code == 0x0c) ≡ false)
no-number code command low is = grind (arith, nat_tests)

one-byte : (code : ℕ) (behind : List ℕ) → is_number code ≡ false → (code == 0x0c) ≡ false →
    token code behind ≡ with_command 0 (command_of code)
one-byte code behind e f = by-operator code behind e ∙ ap (λ b. cond b (escaped behind) (with_command 0 (command_of code))) f

pub operator-read : (spelling : List ℕ) (command : Command) → IsOperator spelling command → IsReadAs spelling (Operator command)
operator-read spelling command (spellings.operator code command' low is) =
    let t = no-number code command' low is in (code, [], refl, λ behind. one-byte code behind t.0 t.1 ∙ ap (with_command 0) is)
operator-read spelling command (spellings.escaped_operator second command' is) = (0x0c, second ∷ [], refl, λ behind. ap (with_command 1) is)

-- what stands at the front of bytes
abbrev pub Spells : ℕ → List ℕ → Token → Type 0
Spells first r (Number x more) = IsNumber (first ∷ take more r) x × (more ≤ length r)
Spells first r (Operator command more) = IsOperator (first ∷ take more r) command × (more ≤ length r)
Spells first r (NoToken e) = HasNoToken (first ∷ r) e

number-spells : (first : ℕ) (r : List ℕ) → Stands first r ⊎ IsCut first r → Spells first r (numbered (spelled first r 0))
number-spells first r (inl there) = subst (λ o. Spells first r (numbered o)) (sym there.2) (there.3, there.4)
number-spells first r (inr cut) =
    subst (λ o. Spells first r (numbered o)) (sym cut.2) (spellings.cut_number (first ∷ r) cut.0 cut.1 (λ e. cc) cut.3 cut.4)

operator-spells : (b : ℕ) (r : List ℕ) → is_number b ≡ false → Spells b r (commanded b r)
operator-spells b r other = by_escape (b == 0x0c) refl
  where
    low : b < 0x20
    low = let n = neither (b == 0x1c) (nat_lt 0x1f b) other in let h : b ≤ 0x1f = ltb-false 0x1f b n.1 in omega (arith, h)

    by_second : (second : ℕ) (t : List ℕ) (o : Option Command) → command_of (0x0c00 + second) ≡ o → Spells 0x0c (second ∷ t)
        (with_command 1 o)
    by_second second t (Some command) is = (spellings.escaped_operator second command is, omega arith)
    by_second second t None is = spellings.no_such_escape second t is

    by_rest : (r : List ℕ) → Spells 0x0c r (escaped r)
    by_rest [] = spellings.lone_escape
    by_rest (second ∷ t) = by_second second t (command_of (0x0c00 + second)) refl

    by_code : (o : Option Command) → command_of b ≡ o → (b == 0x0c) ≡ false → Spells b r (with_command 0 o)
    by_code (Some command) is e = (spellings.operator b command low is, omega arith)
    by_code None is e =
        spellings.no_such_operator b r low (eqb-false b 0x0c e) (eqb-false b 0x1c (neither (b == 0x1c) (nat_lt 0x1f b) other).0) is

    by_escape : (t : Bool) → (b == 0x0c) ≡ t → Spells b r (if t then escaped r else with_command 0 (command_of b))
    by_escape true e = subst (λ c. Spells c r (escaped r)) (sym (eqb-true b 0x0c e)) (by_rest r)
    by_escape false e = by_code (command_of b) refl e

pub token-spells : (first : ℕ) (r : List ℕ) → Spells first r (token first r)
token-spells first r = by_first (is_number first) refl
  where
    by_first : (b : Bool) → is_number first ≡ b → Spells first r (if b then numbered (spelled first r 0) else commanded first r)
    by_first true is = number-spells first r (number-at first r (form first is))
    by_first false is = operator-spells first r is

-- what is read as a spelling says, from its first byte on
read-at : (first : ℕ) (front behind : List ℕ) (made : ℕ → Token) → IsReadAs (first ∷ front) made →
    token first (front ++ behind) ≡ made (length front)
read-at first front behind made read =
    let same : first ∷ front ≡ read.0 ∷ read.1 = read.2 in
    let a : first ≡ read.0 = cc in
    let b : front ≡ read.1 = cc in
    ap (λ f. token f (front ++ behind)) a ∙ ap (λ s. token read.0 (s ++ behind)) b ∙ read.3 behind ∙ ap (λ s. made (length s)) (sym b)

same-more : (x y : ℤ) (m n : ℕ) → Number x m ≡ Number y n → m ≡ n
same-more x y m n h = cc

-- a number that is cut
cut-read : (b : ℕ) (r : List ℕ) (m : ℕ) (ms : List ℕ) (x : ℤ) → IsNumber (b ∷ (r ++ m ∷ ms)) x → token b r ≡ NoToken unexpected_eof
cut-read b r m ms x is = by_read (number-at b r (form b begins))
  where
    begins : is_number b ≡ true
    begins =
        let read = reads-number (b ∷ (r ++ m ∷ ms)) x is in
        let same : b ∷ (r ++ m ∷ ms) ≡ read.0 ∷ read.1 = read.2 in
        let front : b ≡ read.0 = cc in
        ap is_number front ∙ read.3

    by_read : Stands b r ⊎ IsCut b r → token b r ≡ NoToken unexpected_eof
    by_read (inr cut) = by-number b r begins ∙ ap numbered cut.2
    by_read (inl there) =
        let more = there.0 in
        let short = read-at b (take more r) (drop more r ++ m ∷ ms) (Number there.1) (number-read (b ∷ take more r) there.1 there.3) in
        let long = read-at b (r ++ m ∷ ms) [] (Number x) (number-read (b ∷ (r ++ m ∷ ms)) x is) in
        let bytes : take more r ++ (drop more r ++ m ∷ ms) ≡ (r ++ m ∷ ms) ++ [] =
        sym (append_assoc (take more r) (drop more r) (m ∷ ms)) ∙ ap (λ front. front ++ m ∷ ms) (take-append-drop more r)
        ∙ sym (append-nil (r ++ m ∷ ms)) in
        let same : Number there.1 (length (take more r)) ≡ Number x (length (r ++ m ∷ ms)) = sym short ∙ ap (token b) bytes ∙ long in
        let ends : length (take more r) ≡ length (r ++ m ∷ ms) = same-more there.1 x (length (take more r)) (length (r ++ m ∷ ms)) same in
        let front : length (take more r) ≡ more = length-take-le more r there.4 in
        let all : length (r ++ m ∷ ms) ≡ length r + suc (length ms) = length-append r (m ∷ ms) in
        let room : more ≤ length r = there.4 in
        absurd (omega (arith, ends, front, all, room))

no-number_by : (b : ℕ) → b < 0x20 → b ≢ 0x1c → is_number b ≡ false
no-number_by b low other = ap (λ t. t || nat_lt 0x1f b) (ne_eqb b 0x1c other) ∙ le-ltb 0x1f b (omega (arith, low))

-- why nothing is read
pub nothing-read : (bytes : List ℕ) (e : Refusal) → HasNoToken bytes e →
    (first : ℕ) × (r : List ℕ) × (bytes ≡ first ∷ r) × (token first r ≡ NoToken e)
nothing-read bytes e spellings.lone_escape = (0x0c, [], refl, refl)
nothing-read bytes e (spellings.cut_number [] missing x some more is) = absurd (some refl)
nothing-read bytes e (spellings.cut_number (b ∷ r) [] x some more is) = absurd (more refl)
nothing-read bytes e (spellings.cut_number (b ∷ r) (m ∷ ms) x some more is) = (b, r, refl, cut-read b r m ms x is)
nothing-read bytes e (spellings.no_such_operator code rest low other number is) =
    (code, rest, refl, one-byte code rest (no-number_by code low number) (ne_eqb code 0x0c other) ∙ ap (with_command 0) is)
nothing-read bytes e (spellings.no_such_escape second rest is) = (0x0c, second ∷ rest, refl, ap (with_command 1) is)

pub number-law : NumberIsRead
number-law first r x more = (there, λ h. back h.0 h.1 h.2 h.3 h.4)
  where
    there : token first r ≡ Number x more →
        (front : List ℕ) × (behind : List ℕ) × (r ≡ front ++ behind) × (length front ≡ more) × IsNumber (first ∷ front) x
    there is =
        let s = subst (Spells first r) is (token-spells first r) in
        (take more r, drop more r, sym (take-append-drop more r), length-take-le more r s.1, s.0)

    back : (front behind : List ℕ) → r ≡ front ++ behind → length front ≡ more → IsNumber (first ∷ front) x → token first r ≡ Number x more
    back front behind whole long is =
        ap (token first) whole ∙ read-at first front behind (Number x) (number-read (first ∷ front) x is) ∙ ap (Number x) long

pub operator-law : OperatorIsRead
operator-law first r command more = (there, λ h. back h.0 h.1 h.2 h.3 h.4)
  where
    there : token first r ≡ Operator command more →
        (front : List ℕ) × (behind : List ℕ) × (r ≡ front ++ behind) × (length front ≡ more) × IsOperator (first ∷ front) command
    there is =
        let s = subst (Spells first r) is (token-spells first r) in
        (take more r, drop more r, sym (take-append-drop more r), length-take-le more r s.1, s.0)

    back : (front behind : List ℕ) → r ≡ front ++ behind → length front ≡ more → IsOperator (first ∷ front) command →
        token first r ≡ Operator command more
    back front behind whole long is =
        ap (token first) whole ∙ read-at first front behind (Operator command) (operator-read (first ∷ front) command is)
        ∙ ap (Operator command) long

pub nothing-law : NothingIsRead
nothing-law first r e = (λ is. subst (Spells first r) is (token-spells first r), λ h. back (nothing-read (first ∷ r) e h))
  where
    back : (b : ℕ) × (s : List ℕ) × (first ∷ r ≡ b ∷ s) × (token b s ≡ NoToken e) → token first r ≡ NoToken e
    back read =
        let same : first ∷ r ≡ read.0 ∷ read.1 = read.2 in
        let a : first ≡ read.0 = cc in
        let b : r ≡ read.1 = cc in
        ap (λ f. token f r) a ∙ ap (token read.0) b ∙ read.3
