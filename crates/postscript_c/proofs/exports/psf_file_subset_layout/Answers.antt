use Rattle.std.proofs.Common.{◌≡◌, rules, sym, subst, ℤ, to_z, of_z, w32}
use Rattle.postscript_c.specs.Layouts.{TellsLaidOut}
use Rattle.postscript_c.specs.Texts.{lent}
use Rattle.postscript_c.proofs.exports.psf_file_subset_layout.Goals as goal

pub returns : goal.returns
returns c =
    let same : to_z w32 (of_z w32 c.tell_laid_out.result) ≡ c.tell_laid_out.result = search rules in
    let P : ℤ → Type 0 = λ status. TellsLaidOut c.laid_out_of-answer.result status (lent c.args.room.now c.args.count.now)
    (lent c.tell_laid_out.new.room c.tell_laid_out.new.count) c.args.layout.now c.tell_laid_out.new.layout c.args.refusal.now c.tell_laid_out.new.refusal in
    (c.laid_out_of-answer.result, c.laid_out_of-answer.ensures, subst P (sym same) c.tell_laid_out.ensures)
