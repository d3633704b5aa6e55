use Rattle.psfont_session.proofs.routines.Routines.fits.Goals as goal

pub returns-clause-fits : goal.returns-clause-fits
returns-clause-fits c =
    rw (← c.self.view_is)
    (rw (c.as_slice.ensures.value, c.as_slice-2.ensures.value, c.as_slice-3.ensures.value) at c.fits.ensures.fits)
