-- How runs end.
use Rattle.std.specs.Prelude.{◌≡◌, ◌⊎◌, ℕ, ℤ, List, [], ◌∷◌, length}
use Rattle.postscript_base.specs.Error.{IsOneOf}
use Rattle.postscript_base.specs.RefusalOf.{number_of}
use Rattle.postscript_type2.specs.Program.Evaluation.{run_of}
use Rattle.postscript_type2.specs.Program.Routines.{Lists}
use Rattle.postscript_type2.specs.Program.Runs.{End, UsedUp, Returned, Finished, Fault}

-- the numbers of the faults that end a run: the input ends early, no operator has the code, and the errors of operators
abbrev pub run_refusals : List ℕ
run_refusals = 1 ∷ 9 ∷ 16 ∷ 17 ∷ 18 ∷ 19 ∷ 20 ∷ 21 ∷ 22 ∷ 23 ∷ 24 ∷ 25 ∷ 26 ∷ 27 ∷ 28 ∷ 29 ∷ []

-- the same, and running out of memory
abbrev pub flatten_refusals : List ℕ
flatten_refusals = 3 ∷ run_refusals

-- the same, and the error that an earlier call failed
abbrev pub next_refusals : List ℕ
next_refusals = 30 ∷ flatten_refusals

-- the operands that `endchar` takes ("Operator for Finishing a Path")
abbrev pub AreFourOrNone : List ℤ → Type 0
AreFourOrNone taken = (length taken ≡ 4) ⊎ (taken ≡ [])

-- the end of a whole run: no return, and no other fault
abbrev pub IsRunsEnd : End → Type 0
IsRunsEnd UsedUp = Unit {0}
IsRunsEnd (Returned st) = ⊥
IsRunsEnd (Finished taken width) = AreFourOrNone taken
IsRunsEnd (Fault e) = IsOneOf run_refusals (number_of e)

-- A law: every run has such an end.
abbrev pub RunsEndSo : Type 0
RunsEndSo = (lists : Lists) (code : List ℕ) → IsRunsEnd (run_of lists code).end
