-- Numbers and operators, as they are read at a place.
use Rattle.std.proofs.Common.{◌≡◌, ◌≢◌, refl, ap, sym, ◌∙◌, ℕ, ◌+◌, ◌<◌, ◌⊎◌, inl, inr, ℤ, true, List, [], ◌∷◌, take, drop, length, option_map, Result, arith}
use Rattle.std.proofs.lemmas.Bool.Decides.{nat_tests}
use Rattle.std.specs.Option.{ok_or}
use Rattle.postscript_base.specs.Refusal.{unexpected_eof}
use Rattle.postscript_base.specs.Numbers.{big_endian, number as unsigned}
use Rattle.postscript_base.specs.Tape.Outcome.{Got, after}
use Rattle.postscript_type2.specs.Number.{number, spelled}
use Rattle.postscript_type2.specs.Program.Parsing.{is_number}
use Rattle.postscript_variable.specs.declared.command.Command.{Command}
use Rattle.postscript_type2.specs.declared.refused.Refused.{Refused}
use Rattle.postscript_type2.specs.declared.refused.Refused.TheVariants.{UnknownOperator}
use Rattle.postscript_variable.specs.Commands.{command_of}
use Rattle.postscript_type2.specs.Refused.{reason}
use Rattle.postscript_variable.specs.Private.Working.{EndsAt}
use Rattle.postscript_variable.specs.Tokens.{Number, NoToken, numbered, commanded, token}
use Rattle.postscript_type2.proofs.Bytes.{got-later}
use Rattle.postscript_type2.proofs.PhraseLaws.{number-at, form, Stands, IsCut}
use Rattle.postscript_type2.proofs.Places.{later, spelled-local}
use Rattle.postscript_type2.proofs.Slices.{at-place}
use Rattle.postscript_variable.proofs.TokenLaws.{by-number}

-- an operator of two bytes, and one of one
pub operator-two : (rest : List ℕ) (place first second behind : ℕ) (more : List ℕ) (r : Result (Command × ℕ) Refused) →
    rest ≡ second ∷ more → behind ≡ place + 1 → first ≡ 12 →
    r ≡ ok_or (option_map (λ command. (command, behind)) (command_of (0x0c00 + second))) UnknownOperator → EndsAt first rest place r
operator-two rest place first second behind more r is after two e = grind (arith, nat_tests)

pub operator-one : (rest : List ℕ) (place first : ℕ) (r : Result (Command × ℕ) Refused) → first ≢ 12 →
    r ≡ ok_or (option_map (λ command. (command, place)) (command_of first)) UnknownOperator → EndsAt first rest place r
operator-one rest place first r other e = grind (arith, nat_tests)

-- an operator of two bytes, whose second one is missing
pub operator-cut : (rest : List ℕ) (first : ℕ) (e : Refused) → rest ≡ [] → first ≡ 12 → reason e ≡ unexpected_eof →
    commanded first rest ≡ NoToken (reason e)
operator-cut rest first e none two is = rw (none, two, is) refl

-- a number at a place is what its first byte begins
number-of : (first : ℕ) (code : List ℕ) (place : ℕ) → place < length code → drop place code ≡ first ∷ drop (place + 1) code →
    number code place ≡ spelled first code (place + 1)
unfolding number
number-of first code place room front =
    let byte : unsigned 1 code place ≡ Got first (place + 1) =
    at-place 1 code place (omega arith) ∙ ap (λ bytes. Got (big_endian (take 1 bytes)) (place + 1)) front
    ∙ ap (λ b. Got b (place + 1)) (omega arith) in
    ap (λ o. after o (λ b next. spelled b code next)) byte

-- a number, and one that is cut
pub number-read : (first : ℕ) (code : List ℕ) (place : ℕ) (x : ℤ) (next : ℕ) → place < length code →
    drop place code ≡ first ∷ drop (place + 1) code →
    is_number first ≡ true → number code place ≡ Got x next →
    (more : ℕ) × (token first (drop (place + 1) code) ≡ Number x more) × (next ≡ place + 1 + more)
number-read first code place x next room front is got =
    let there = got-later (place + 1) (spelled first (drop (place + 1) code) 0) x next
    (sym (spelled-local first code (place + 1)) ∙ sym (number-of first code place room front) ∙ got) in
    (there.0, by-number first (drop (place + 1) code) is ∙ ap numbered there.1, there.2)

pub number-cut : (first : ℕ) (code : List ℕ) (place : ℕ) → place < length code → drop place code ≡ first ∷ drop (place + 1) code →
    is_number first ≡ true → ((x : ℤ) (next : ℕ) → number code place ≢ Got x next) → token first
    (drop (place + 1) code) ≡ NoToken unexpected_eof
number-cut first code place room front is none = by_read (number-at first rest (form first is))
  where
    rest : List ℕ
    rest = drop (place + 1) code

    by_read : Stands first rest ⊎ IsCut first rest → token first rest ≡ NoToken unexpected_eof
    by_read (inr cut) = by-number first rest is ∙ ap numbered cut.2
    by_read (inl there) =
        let got = number-of first code place room front ∙ spelled-local first code (place + 1) ∙ ap (later (place + 1)) there.2 in
        absurd (none there.1 (place + 1 + there.0) got)
