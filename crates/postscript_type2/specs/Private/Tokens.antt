-- Phrases at the front of a routine, as they are read.
use Rattle.std.specs.Prelude.{◌≡◌, ◌⊎◌, ℕ, ◌+◌, ℤ, List, [], ◌∷◌, drop, Option, Some, None, Result, Ok, Err}
use Rattle.postscript_type2.specs.declared.refused.Refused.{Refused}
use Rattle.postscript_type2.specs.declared.refused.Refused.TheVariants.{Memory, UnexpectedEof}
use Rattle.postscript_type2.specs.Refused.{reason}
use Rattle.postscript_type2.specs.declared.operation.Operator.{Operator}
use Rattle.postscript_type2.specs.Program.Parsing.{Parsed, Complete, NoPhrase, phrase, ending, fronted}

-- the byte at the front
abbrev pub LooksAt : List ℕ → Option ℕ → Type 0
LooksAt bytes (Some byte) = (rest : List ℕ) × (bytes ≡ byte ∷ rest)
LooksAt bytes None = bytes ≡ []

-- a phrase without numbers
abbrev pub ending_of : List ℕ → Parsed
ending_of [] = NoPhrase (reason UnexpectedEof)
ending_of (first ∷ rest) = ending first rest

-- the operator of a phrase without numbers, and the offset after it; its first byte is right before the offset `place`
abbrev pub EndsAt : Parsed → (place : ℕ) → Result (Operator × ℕ) Refused → Type 0
EndsAt ends place (Ok read) = (more : ℕ) × (ends ≡ Complete [] read.0 more) × (read.1 ≡ place + more)
EndsAt ends place (Err e) = ends ≡ NoPhrase (reason e)

-- Some numbers at the front of the phrase at an offset are put onto a stack. next: the offset after them.
abbrev pub Puts : (code : List ℕ) (place : ℕ) → List ℤ → (next : ℕ) → List ℤ → Type 0
Puts code place stack next stack' =
    (count : ℕ) × (next ≡ place + count) × ((k : ℕ) → fronted stack' (k + count) (phrase (drop next code)) ≡ fronted stack k
    (phrase (drop place code)))

-- there is no phrase at the front, for this reason, or memory runs out
abbrev pub IsPhraseRefused : List ℕ → Refused → Type 0
IsPhraseRefused bytes e = (e ≡ Memory) ⊎ (phrase bytes ≡ NoPhrase (reason e))

-- The phrase at the front is read, and its numbers are put onto a stack. place: its offset.
abbrev pub ReadsPhraseAt : List ℕ → (place : ℕ) → List ℤ → Result (Operator × ℕ) Refused → List ℤ → Type 0
ReadsPhraseAt bytes place stack (Ok read) stack' =
    (more : ℕ) × (fronted stack 0 (phrase bytes) ≡ Complete stack' read.0 more) × (read.1 ≡ place + (more + 1))
ReadsPhraseAt bytes place stack (Err e) stack' = IsPhraseRefused bytes e

-- a phrase is read at the front and removed, and its numbers are put onto a stack
abbrev pub ReadsPhrase : {A : Type 0} → List ℕ → List ℤ → Result (Operator × A) Refused → List ℕ → List ℤ → Type 0
ReadsPhrase old stack (Ok read) new stack' =
    (more : ℕ) × (fronted stack 0 (phrase old) ≡ Complete stack' read.0 more) × (new ≡ drop (more + 1) old)
ReadsPhrase old stack (Err e) new stack' = IsPhraseRefused old e
