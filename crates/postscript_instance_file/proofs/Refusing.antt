-- Tables of a face that are rejected.
use Rattle.std.proofs.Common.{◌≡◌, subst, List, ℕ, Result, Err}
use Rattle.std.specs.Prelude.{IfErr}
use Rattle.postscript_instance_file.specs.Refusals.{HasBad}
use Rattle.postscript_sfnt.specs.Lent.{IsTableOf}
use Rattle.postscript_sfnt.specs.declared.file.FontFile.{FontFile}
use Rattle.postscript_variation.specs.declared.error.Error.{Error as TableError}

-- a table of a face is rejected by its reading
pub rejected : {T : Type 0} (NoRead : TableError → List ℕ → Type 0) (file : FontFile) (tag : ℕ) (table : List ℕ) (read : Result T TableError)
    (cause : TableError) → IsTableOf file tag table → IfErr read (λ e. NoRead e table) → read ≡ Err cause →
    HasBad file tag (NoRead cause)
rejected NoRead file tag table read cause there why is =
    (table, there, subst (λ r. IfErr r (λ e. NoRead e table)) is why)
