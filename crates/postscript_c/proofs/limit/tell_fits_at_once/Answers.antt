use Rattle.std.proofs.Common.{◌≡◌, ◌∙◌, rules, subst, sym, ℤ, to_z, of_z, w32}
use Rattle.postscript_c.specs.Fitting.{TellsFits}
use Rattle.postscript_c.proofs.limit.tell_fits_at_once.Goals as goal

pub returns-clause-fits : goal.returns-clause-fits
returns-clause-fits c = λ is.
    let same : to_z w32 (of_z w32 c.tell_fits.result) ≡ c.tell_fits.result = search rules in
    c.tell_fits.ensures.fits (sym same ∙ is)

pub returns-clause-told : goal.returns-clause-told
returns-clause-told c =
    let same : to_z w32 (of_z w32 c.tell_fits.result) ≡ c.tell_fits.result = search rules in
    let P : ℤ → Type 0 = λ status. TellsFits c.args.bytes.now c.args.limit status c.tell_fits.new.limit in
    (c.tell_fits.new.limit, subst P (sym same) c.tell_fits.ensures.told)
