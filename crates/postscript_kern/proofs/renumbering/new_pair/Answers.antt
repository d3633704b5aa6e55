use Rattle.std.proofs.Common.{◌∙◌, sym, arith}
use Rattle.postscript_kern.proofs.Renumbered.{number-is}
use Rattle.postscript_kern.proofs.renumbering.new_pair.Goals as goal

pub overflow_cast-result : goal.overflow_cast-result
overflow_cast-result c =
    let x = number-is c.args.kept.now c.args.left c.in-Some-Some.x (sym (c.requires.exact.each c.args.left c.requires.left) ∙ c.in-Some-Some.is-0) in
    let few = c.requires.few in
    omega (arith, x.0, few)

pub overflow_mul-result : goal.overflow_mul-result
overflow_mul-result c =
    let x = number-is c.args.kept.now c.args.left c.in-Some-Some.x (sym (c.requires.exact.each c.args.left c.requires.left) ∙ c.in-Some-Some.is-0) in
    let few = c.requires.few in
    omega (arith, x.0, few)

pub overflow_cast-result-in-Some-Some : goal.overflow_cast-result-in-Some-Some
overflow_cast-result-in-Some-Some c =
    let y = number-is c.args.kept.now c.args.right c.in-Some-Some.y (sym (c.requires.exact.each c.args.right c.requires.right) ∙ c.in-Some-Some.is-1) in
    let few = c.requires.few in
    omega (arith, y.0, few)

pub overflow_add-result : goal.overflow_add-result
overflow_add-result c =
    let x = number-is c.args.kept.now c.args.left c.in-Some-Some.x (sym (c.requires.exact.each c.args.left c.requires.left) ∙ c.in-Some-Some.is-0) in
    let y = number-is c.args.kept.now c.args.right c.in-Some-Some.y (sym (c.requires.exact.each c.args.right c.requires.right) ∙ c.in-Some-Some.is-1) in
    let few = c.requires.few in
    omega (arith, x.0, y.0, few)
