-- The code of operators that work on the stack.
use Rattle.std.specs.Prelude.{◌≡◌, ◌⊎◌, ℤ, List, Option, Some, None, Result, Ok, Err}
use Rattle.postscript_type2.specs.declared.refused.Refused.{Refused}
use Rattle.postscript_type2.specs.declared.refused.Refused.TheVariants.{Memory}
use Rattle.postscript_base.specs.Refusal.{Refusal}
use Rattle.postscript_type2.specs.Refused.{reason}
use Rattle.postscript_type2.specs.Operation.Kinds.{Kind, Draws, IsRefused, Stores, Works}
use Rattle.postscript_type2.specs.Program.StackWork.{Work}

-- From the old stack to the new one the code does this work and returns its value, or it fails with the same error. Running out of memory
-- may be the error at any time.
abbrev pub Performs : {A : Type 0} → Work A → List ℤ → Result A Refused → List ℤ → Type 0
Performs work old (Ok value) new = work old ≡ Ok (value, new)
Performs work old (Err e) new = (e ≡ Memory) ⊎ (work old ≡ Err (reason e))

-- the code returns the expected value or the expected error
abbrev pub Gives : {A : Type 0} → Result A Refusal → Result A Refused → Type 0
Gives wanted (Ok value) = wanted ≡ Ok value
Gives wanted (Err e) = wanted ≡ Err (reason e)

-- the code does the work of an operator of the kind `Works`, and leaves the stack unchanged for any other kind
abbrev pub PerformsKind : Kind → List ℤ → Option (Result (Unit {0}) Refused) → List ℤ → Type 0
PerformsKind (Works work) old (Some result) new = Performs work old result new
PerformsKind (Works work) old None new = ⊥
PerformsKind kind old (Some result) new = ⊥
PerformsKind kind old None new = new ≡ old

-- the kinds of operators that neither declare stems, nor are masks, nor call, return or end the glyph
abbrev pub IsRare : Kind → Type 0
IsRare (Works work) = Unit {0}
IsRare (Draws takes) = Unit {0}
IsRare (Stores work) = Unit {0}
IsRare (IsRefused part) = Unit {0}
IsRare kind = ⊥

-- the kinds of operators that draw or only work on the stack
abbrev pub WorksOrDraws : Kind → Type 0
WorksOrDraws (Works work) = Unit {0}
WorksOrDraws (Draws takes) = Unit {0}
WorksOrDraws kind = ⊥
