use Rattle.std.proofs.Common.{◌≡◌, rules, sym, subst, ℤ, to_z, of_z, w32}
use Rattle.postscript_c.specs.Texts.{lent}
use Rattle.postscript_c.specs.WholeFiles.{TellsFile}
use Rattle.postscript_c.proofs.exports.psf_file_subset.Goals as goal

pub returns : goal.returns
returns c =
    let same : to_z w32 (of_z w32 c.tell_file.result) ≡ c.tell_file.result = search rules in
    let P : ℤ → Type 0 = λ status. TellsFile c.subset_of-answer.result status (lent c.args.room.now c.args.count.now)
    (lent c.tell_file.new.room c.tell_file.new.count) c.args.refusal.now c.tell_file.new.refusal in
    (c.subset_of-answer.result, c.subset_of-answer.ensures, subst P (sym same) c.tell_file.ensures)
