use Rattle.std.proofs.Common.{ap}
use Rattle.psfont_session.proofs.Limiting.{with_left}
use Rattle.psfont_session.proofs.routines.fits.Goals as goal

pub returns-clause-fits : goal.returns-clause-fits
returns-clause-fits c = with_left _ _ _ _ _ (ap (λ p. p.trace) c.new-program.ensures.value) c.fits.ensures.fits
