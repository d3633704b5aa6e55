use Rattle.psfont_session.proofs.routines.Routines.run.Goals as goal

pub returns-clause-tells : goal.returns-clause-tells
returns-clause-tells c =
    rw (← c.self.view_is)
    (rw (c.as_slice.ensures.value, c.as_slice-2.ensures.value, c.as_slice-3.ensures.value) at c.run.ensures.tells)
