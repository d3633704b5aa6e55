use Rattle.std.proofs.Common.{◌≡◌, rules, sym, subst, ℤ, to_z, of_z, w32}
use Rattle.postscript_c.specs.Texts.{lent}
use Rattle.postscript_c.specs.Written.{TellsWritten}
use Rattle.postscript_c.proofs.exports.psf_font_subset.Goals as goal

pub returns : goal.returns
returns c =
    let same : to_z w32 (of_z w32 c.tell_written.result) ≡ c.tell_written.result = search rules in
    let P : ℤ → Type 0 = λ status. TellsWritten c.subset_of-answer.result status (lent c.args.room.now c.args.count.now)
    (lent c.tell_written.new.room c.tell_written.new.count) c.args.refusal.now c.tell_written.new.refusal in
    (c.subset_of-answer.result, c.subset_of-answer.ensures, subst P (sym same) c.tell_written.ensures)
