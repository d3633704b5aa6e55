-- Errors: their numbers, and the conversion of the faults of std's `io`.
use Rattle.std.specs.Prelude.{◌≡◌, ◌≢◌, ℕ, List, [], ◌∷◌, ◌⊎◌, Result, MatchResult}
use Rattle.std.specs.IoError.{error_kind}
use Rattle.std.specs.declared.io.Error.{Error as IoError}
use Rattle.std.specs.declared.io.ErrorKind.TheVariants as kinds
use Rattle.postscript_base.specs.RefusalOf.{refusal_of, number_of}
use Rattle.postscript_base.specs.declared.error.Error.{Error}
use Rattle.postscript_base.specs.declared.error.Error.TheVariants.{UnexpectedEof, Io}

-- the number of an error, which is the number of its `Refusal`
abbrev pub code : Error → ℕ
code e = number_of (refusal_of e)

-- A fault of the kind UnexpectedEof is converted to that error. Any other fault is kept in `Io`.
abbrev pub FromIo : IoError → Error → Type 0
FromIo fault e = ((error_kind fault ≡ kinds.UnexpectedEof) × (e ≡ UnexpectedEof))
    ⊎ ((error_kind fault ≢ kinds.UnexpectedEof) × (e ≡ Io fault))

abbrev pub IsOneOf : List ℕ → ℕ → Type 0
IsOneOf [] number = ⊥
IsOneOf (n ∷ ns) number = (number ≡ n) ⊎ IsOneOf ns number

-- if the result is an error, it has one of these numbers
abbrev pub IsListed : {A : Type 0} → List ℕ → Result A Error → Type 0
IsListed numbers result = MatchResult result (λ _. Unit {0}) (λ e. IsOneOf numbers (code e))
