use Rattle.std.proofs.Common.{inl}
use Rattle.psfont_session.proofs.Writing.{so}
use Rattle.psfont_session.proofs.answer.run.Goals as goal

pub returns-in-Ok-clause-told : goal.returns-in-Ok-clause-told
returns-in-Ok-clause-told g c = so _ c.write_answers.ensures.told (λ told. inl (c.in-Ok.answers, c.in-Ok.ensures.tells, told))
