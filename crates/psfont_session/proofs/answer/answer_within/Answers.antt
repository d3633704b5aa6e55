use Rattle.std.proofs.Common.{refl, subst, ℕ, List}
use Rattle.std.specs.Io.KnownBytes.{Appends}
use Rattle.psfont_session.specs.Limit.{past_line}
use Rattle.psfont_session.specs.Session.ToldWithin.{past}
use Rattle.psfont_session.proofs.Limiting.{used_up}
use Rattle.psfont_session.proofs.Writing.{so}
use Rattle.psfont_session.proofs.answer.answer_within.Goals as goal

pub returns-in-Ok-false-clause-told : goal.returns-in-Ok-false-clause-told
returns-in-Ok-false-clause-told g c =
    rw c.in-Some.is
    (so c.write_past.result c.write_past.ensures.told (λ told.
    let line = subst (λ (code : List ℕ). Appends (g.W.Write.contents c.args.writer.now) (g.W.Write.contents c.write_past.new.writer)
    (past_line c.in-Some.limit code)) c.code.ensures told in
    past c.if-not-asks_run.ensures
    (used_up c.in-Some.limit c.args.routines.now (rw c.in-Ok-false.field-0-test at c.in-Ok-false.ensures.fits)) refl line))
