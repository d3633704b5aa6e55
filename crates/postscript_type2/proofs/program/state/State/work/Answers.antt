use Rattle.std.proofs.Common.{rules}
use Rattle.std.proofs.lemmas.Result.{err_from_is_err_and}
use Rattle.postscript_type2.proofs.Performed.{work-refused}
use Rattle.postscript_type2.proofs.program.state.State.work.Goals as goal

pub returns-in_err-done-in-Some-clause-value : goal.returns-in_err-done-in-Some-clause-value
returns-in_err-done-in-Some-clause-value c = search (rules, err_from_is_err_and, work-refused)
