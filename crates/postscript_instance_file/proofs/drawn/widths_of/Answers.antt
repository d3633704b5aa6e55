use Rattle.std.proofs.Common.{◌∙◌}
use Rattle.postscript_instance_file.specs.Instances.{AreAdvancesAt}
use Rattle.postscript_instance_file.proofs.drawn.widths_of.Goals as goal

pub returns-in-Ok-clause-found : goal.returns-in-Ok-clause-found
returns-in-Ok-clause-found c =
    let are : AreAdvancesAt c.args.face.now c.args.location.now.coordinates.items c.advances_at-advances.result = record {
      default = c.advances_at-advances.ensures.default;
      variations = c.advances_at-advances.ensures.variations;
      coordinates = c.advances_at-advances.ensures.coordinates ∙ c.deref.ensures.value;
    } in
    (c.advances_at-advances.result, are, rw c.len.ensures at c.in-Ok.ensures.are)
