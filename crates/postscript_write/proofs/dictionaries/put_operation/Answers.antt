use Rattle.std.proofs.lemmas.Result.{on_ok_weaker}
use Rattle.postscript_write.proofs.Making.{if_err}
use Rattle.postscript_write.proofs.dictionaries.put_operation.Goals as goal

pub returns-in-None-Some-clause-refused : goal.returns-in-None-Some-clause-refused
returns-in-None-Some-clause-refused c =
    if_err c.put_escaped.result (λ e never other writable held. never other held) c.put_escaped.ensures.refused

pub returns-in-None-Some-clause-writable : goal.returns-in-None-Some-clause-writable
returns-in-None-Some-clause-writable c =
    on_ok_weaker c.put_escaped.result (λ held. c.in-None-Some.ensures'.writable) c.put_escaped.ensures.held
