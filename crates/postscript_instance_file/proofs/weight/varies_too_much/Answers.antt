use Rattle.std.proofs.Common.{◌≡◌, ◌*◌, ◌+◌, ◌<◌, ℕ, Some, inl, inr, subst, arith}
use Rattle.std.specs.Prelude.{IsTrue}
use Rattle.postscript_instance_file.specs.Weights.{HasManyScalars}
use Rattle.postscript_instance_file.specs.declared.weight.TheConstants.{STEPS}
use Rattle.postscript_instance_file.proofs.Weighing.{capped, one-total}
use Rattle.postscript_variation.specs.Lent.{table_count}
use Rattle.postscript_instance_file.proofs.weight.varies_too_much.Goals as goal

pub returns-else-sum-gt-SCALARS : goal.returns-else-sum-gt-SCALARS
returns-else-sum-gt-SCALARS c =
    let store = c.in-Some.store in
    let all = c.all_regions-sum.ensures in
    let e = capped STEPS all.0 c.all_regions-sum.result (c.args.axes + 1) (omega arith) all.2 in
    let both : (IsTrue c.exceeds.result → HasManyScalars (Some store) c.args.axes) × (HasManyScalars (Some store) c.args.axes → IsTrue c.exceeds.result) = (
      λ h. (all.0, all.1, inr (e.0 (c.exceeds.ensures.0 h))),
      λ many.
          let same : many.0 ≡ all.0 = one-total store (table_count store) many.0 all.0 many.1 all.1 in
          elim many.2 [
            | inl more ↦ let cut = all.2 in absurd (omega (arith, more, same, cut))
            | inr h ↦ c.exceeds.ensures.1 (e.1 (subst (λ (n : ℕ). STEPS < n * (c.args.axes + 1)) same h))
          ],
    ) in
    rw c.in-Some.is both
