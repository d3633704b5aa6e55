use Rattle.std.proofs.Common.{refl, subst, IfSome}
use Rattle.std.proofs.lemmas.Result.{err_from_is_err_and}
use Rattle.std.specs.Prelude.{MatchOption, Option}
use Rattle.postscript_instance_file.specs.Faces.{IsVariableFace}
use Rattle.postscript_instance_file.specs.Refusals.{IsNotVariable, no_face, not_variable, unopened}
use Rattle.postscript_instance_file.specs.declared.face.VariableFace.{VariableFace}
use Rattle.postscript_instance_file.proofs.face.VariableFace.read.Goals as goal

pub returns-in-Some-clause-found : goal.returns-in-Some-clause-found
returns-in-Some-clause-found c = record {
  file = c.in_ok-file.file;
  found = c.in_ok-file.ensures.exact;
  is =
      subst (λ (found : Option VariableFace). IfSome found (λ face. IsVariableFace c.in_ok-file.file face)) c.in-Some.is
      c.in_ok-face.ensures.found;
}

pub returns-in-None-clause-why : goal.returns-in-None-clause-why
returns-in-None-clause-why c =
    let none =
    subst (λ (found : Option VariableFace). MatchOption found (IsNotVariable c.in_ok-file.file) (λ _. Unit {0})) c.in-None.is
    c.in_ok-face.ensures.none in
    not_variable c.in_ok-file.file c.in_ok-file.ensures.exact none refl

pub returns-in_err-file-clause-why : goal.returns-in_err-file-clause-why
returns-in_err-file-clause-why c =
    let error = err_from_is_err_and c.from_residual.result c.from_residual.ensures.1 in
    rw (error.1) (no_face _ c.in_err-file.ensures.why error.2)

pub returns-in_err-face-clause-why : goal.returns-in_err-face-clause-why
returns-in_err-face-clause-why c =
    let error = err_from_is_err_and c.from_residual-in_err-face.result c.from_residual-in_err-face.ensures.1 in
    rw (error.1, error.2) (unopened c.in_ok-file.file c.in_ok-file.ensures.exact c.in_err-face.ensures.why)
