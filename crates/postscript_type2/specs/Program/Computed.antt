-- Laws of the definitions: the rules, and the definitions by items and by signs, agree with the functions that compute.
use Rattle.std.specs.Prelude.{◌≡◌, ◌↔◌, ℕ, zero, suc, ◌+◌, ◌-◌, ◌≤◌, ℤ, int_div, Bool, true, false, List, ◌++◌, length}
use Rattle.postscript_base.specs.Refusal.{Refusal}
use Rattle.postscript_type2.specs.declared.operation.Operator.{Operator}
use Rattle.postscript_type2.specs.Program.States.{State}
use Rattle.postscript_type2.specs.Program.Evaluation.{mean, run_of}
use Rattle.postscript_type2.specs.Program.FixedPoint.{cut}
use Rattle.postscript_type2.specs.Program.Meaning.{MeansRun, IsRunOf}
use Rattle.postscript_type2.specs.Program.Parsing.{Complete, NoPhrase, phrase}
use Rattle.postscript_type2.specs.Program.Phrases.{IsPhrase, HasNoPhrase}
use Rattle.postscript_type2.specs.Program.Routines.{Lists}
use Rattle.postscript_type2.specs.Program.Runs.{Run}
use Rattle.postscript_type2.specs.Program.Stacks.{IsRolled, rolled}

-- A law: a phrase is read exactly if it is at the front of the bytes.
abbrev pub PhraseIsRead : Type 0
PhraseIsRead = (bytes : List ℕ) (numbers : List ℤ) (op : Operator) (more : ℕ) →
    (phrase bytes ≡ Complete numbers op more)
    ↔ ((front : List ℕ) × (behind : List ℕ) × (bytes ≡ front ++ behind) × (length front ≡ more + 1) × IsPhrase front numbers op)

-- A law: reading a phrase fails with an error exactly if that is why there is none.
abbrev pub NoPhraseIsRefused : Type 0
NoPhraseIsRefused = (bytes : List ℕ) (e : Refusal) → (phrase bytes ≡ NoPhrase e) ↔ HasNoPhrase bytes e

-- whether a routine at this call depth is a subroutine
abbrev pub is_inner : (depth : ℕ) → Bool
is_inner zero = false
is_inner (suc depth) = true

-- A law: the meaning of the rest of a routine by the rules is exactly the computed one.
abbrev pub MeaningIsComputed : Type 0
MeaningIsComputed = (lists : Lists) (depth : ℕ) → depth ≤ 10 → (rest : List ℕ) (st : State) (run : Run) →
    MeansRun lists depth rest st run ↔ (mean lists (10 - depth) (is_inner depth) rest st ≡ run)

-- A law: the run of a code by the rules is exactly the computed one.
abbrev pub RunIsMeant : Type 0
RunIsMeant = (lists : Lists) (code : List ℕ) (run : Run) → IsRunOf lists code run ↔ (run_of lists code ≡ run)

-- A law: a list is the rolled one exactly if each item is at its index.
abbrev pub RolledByItems : Type 0
RolledByItems = (shift : ℤ) (xs ys : List ℤ) → IsRolled shift xs ys ↔ (ys ≡ rolled shift xs)

-- A law: the quotient by signs is the one that std computes.
abbrev pub CutIsDivision : Type 0
CutIsDivision = (x y : ℤ) → cut x y ≡ int_div x y
