use Rattle.std.proofs.Common.{◌≡◌, false}
use Rattle.std.proofs.lemmas.Result.{err_from_is_err_and}
use Rattle.postscript_files.specs.Choices.{NoneIsMissing}
use Rattle.postscript_files.proofs.Subsetting.{no-character-so, no-subset-by, subset-by}
use Rattle.postscript_files.proofs.face.Face.subset.Goals as goal
use Rattle.postscript_files.proofs.face.Face.subset.Goals.{then-not-choice+in_ok-refuse_missing, else-not-choice}

pub returns-clause-subset : goal.returns-clause-subset
returns-clause-subset c =
    let all : c.args.choice.now.lenient ≡ false → NoneIsMissing c.args.self.now.map c.args.choice.now.chars.now =
    λ strict. elim c.if-not-choice.branch [
      | then-not-choice+in_ok-refuse_missing w ↦ w.in_ok-refuse_missing.ensures.none
      | else-not-choice w ↦ absurd (let lenient = w.if-not-choice.false in cc)
    ] in
    subset-by c.subset_of.result c.args.choice.now c.args.self.now all c.subset_of.ensures.subset

pub returns-in_err-refuse_missing-clause-refused : goal.returns-in_err-refuse_missing-clause-refused
returns-in_err-refuse_missing-clause-refused c =
    let error = err_from_is_err_and c.from_residual.result c.from_residual.ensures.1 in
    let strict : c.args.choice.now.lenient ≡ false = c.if-not-choice.true in
    rw (error.1, error.2) (no-character-so _ c.args.choice.now c.args.self.now strict c.in_err-refuse_missing.ensures.missing)

pub returns-clause-refused : goal.returns-clause-refused
returns-clause-refused c = no-subset-by c.subset_of.result c.args.choice.now c.args.self.now c.subset_of.ensures.refused
