use Rattle.std.proofs.Common.{◌≡◌, ◌≢◌, ◌∙◌, ap, ℕ, inl, inr, refl, rules, sym, subst, ℤ, pos, to_z, of_z, w32}
use Rattle.postscript_c.specs.Fitting.{TellsFits}
use Rattle.postscript_c.specs.Texts.{lent}
use Rattle.postscript_c.specs.Written.{TellsWritten}
use Rattle.postscript_c.proofs.exports.psf_font_flat.Goals as goal

pub returns-then-asked-ne0 : goal.returns-then-asked-ne0
returns-then-asked-ne0 c =
    let asked = c.tell_fits_at_once-asked.result in
    let same : to_z w32 (of_z w32 asked) ≡ asked = search rules in
    let P : ℤ → Type 0 = λ status. (left : ℕ) × TellsFits c.args.bytes.now c.args.limit status left in
    let other : to_z w32 (of_z w32 asked) ≢ pos 0 = search rules in
    inr (subst P (sym same) c.tell_fits_at_once-asked.ensures.told, other, c.tell_unasked.ensures, refl)

pub returns : goal.returns
returns c =
    let same : to_z w32 (of_z w32 c.tell_written.result) ≡ c.tell_written.result = search rules in
    let P : ℤ → Type 0 = λ status. TellsWritten c.flat.result status (lent c.args.room.now c.args.count.now)
    (lent c.tell_written.new.room c.tell_written.new.count) c.args.refusal.now c.tell_written.new.refusal in
    let asked : to_z w32 (of_z w32 c.tell_fits_at_once-asked.result) ≡ c.tell_fits_at_once-asked.result = search rules in
    let zero : c.tell_fits_at_once-asked.result ≡ pos 0 = sym asked ∙ ap (λ n. to_z w32 n) c.if-asked-ne0.false in
    inl (c.tell_fits_at_once-asked.ensures.fits zero, (c.flat.result, c.flat.ensures, subst P (sym same) c.tell_written.ensures))
