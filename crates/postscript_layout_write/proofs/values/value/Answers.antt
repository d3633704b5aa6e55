use Rattle.std.proofs.Common.{◌<◌, ◌≤◌, ◌+◌, ◌*◌, ◌∙◌, ap, sym, arith, ℕ}
use Rattle.postscript_layout.specs.Numbers.{word}
use Rattle.postscript_layout_write.specs.Values.{values_below}
use Rattle.postscript_layout_write.proofs.Fields.{value-none, value-there}
use Rattle.postscript_layout_write.proofs.values.value.Goals as goal

pub returns-then-before-values_below : goal.returns-then-before-values_below
returns-then-before-values_below c =
    let less : values_below c.args.format c.args.k < values_below c.args.format (c.args.k + 1) =
    omega (arith, c.values_below-before.ensures.exact, c.values_below.ensures.exact) in
    c.word.ensures.exact ∙ ap (λ (n : ℕ). word c.args.table.now (c.args.at + n * 2)) c.values_below-before.ensures.exact
    ∙ sym (value-there c.args.table.now c.args.at c.args.format c.args.k less)

pub returns-else-before-values_below : goal.returns-else-before-values_below
returns-else-before-values_below c =
    let least : values_below c.args.format (c.args.k + 1) ≤ values_below c.args.format c.args.k =
    omega (arith, c.values_below-before.ensures.exact, c.values_below.ensures.exact) in
    sym (value-none c.args.table.now c.args.at c.args.format c.args.k least)
