use Rattle.std.proofs.Common.{◌≡◌, ◌∙◌, ◌-◌, suc, ap, subst, arith}
use Rattle.std.specs.List.{range_with_len}
use Rattle.std.specs.Prelude.{IfOk}
use Rattle.std.proofs.lemmas.List.{append-nil}
use Rattle.postscript_instance.specs.Encoded.{IsSetText}
use Rattle.postscript_instance.proofs.layout.keyed_set.Goals as goal

pub returns-clause-set : goal.returns-clause-set
returns-clause-set c =
    let many : suc (c.args.glyphs - 2) ≡ c.args.glyphs - 1 = omega arith in
    subst (λ ns. IfOk c.in_ranges.result (λ set. IsSetText ns set.items)) (append-nil _ ∙ ap (range_with_len 1) many) c.in_ranges.ensures.set
