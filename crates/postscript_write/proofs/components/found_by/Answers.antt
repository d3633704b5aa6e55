use Rattle.std.proofs.Common.{sym, subst, arith}
use Rattle.postscript_write.specs.Components.{IsFound}
use Rattle.postscript_write.proofs.Accented.{known-more}
use Rattle.postscript_write.proofs.components.found_by.Goals as goal

pub returns-clause-known : goal.returns-clause-known
returns-clause-known c =
    let place = c.from-place.ensures in
    known-more c.args.font.now c.args.known.now.items c.from-place.result c.in_ok-found.found
    (omega (arith, c.ranges.code.fits, place)) c.requires.known
    (subst (λ k. IsFound c.args.font.now k c.in_ok-found.found) (sym place) c.in_ok-found.ensures.found)
