use Rattle.std.proofs.Common.{ap}
use Rattle.postscript_variable.specs.Charstrings.{run_from, font_from}
use Rattle.postscript_variable.specs.Evaluation.{Run}
use Rattle.postscript_variable.specs.Programs.{end_of}
use Rattle.postscript_variable.proofs.MeaningLaws.{run-means}
use Rattle.postscript_variable.proofs.charstring.Charstring.program.Goals as goal

pub returns-clause-meant : goal.returns-clause-meant
returns-clause-meant c =
    let charstring = c.args.self in
    let run = run_from charstring in (
      run.answers,
      run.end,
      run-means (font_from charstring) charstring.blends.index charstring.code.now,
      ap (λ (r : Run). r.answers) c.over.ensures.run,
      ap (λ (r : Run). end_of r.end) c.over.ensures.run,
    )
