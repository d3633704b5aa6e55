use Rattle.std.proofs.Common.{◌∙◌, sym, arith}
use Rattle.postscript_layout_write.proofs.Renumbered.{number-small}
use Rattle.postscript_layout_write.proofs.languages.new_required.Goals as goal

pub overflow_cast-result : goal.overflow_cast-result
overflow_cast-result c =
    let small = number-small c.args.kept.now c.args.feature c.in-Some.number (sym (c.requires.exact.each c.args.feature c.requires.small) ∙ c.in-Some.is) in
    let few = c.requires.few in
    omega (arith, small, few)
