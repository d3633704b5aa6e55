use Rattle.std.proofs.Common.{◌∙◌, inl, inr}
use Rattle.postscript_instance_file.specs.Instances.{AreAdvancesAt}
use Rattle.postscript_instance_file.specs.Refusals.{no_font, no_glyph}
use Rattle.postscript_instance_file.proofs.instance.font_of.Goals as goal

pub returns-in-Ok-clause-written : goal.returns-in-Ok-clause-written
returns-in-Ok-clause-written c = record {
  naming = _;
  advances = c.advances_at-advances.result;
  are = record {
    default = c.advances_at-advances.ensures.default;
    variations = c.advances_at-advances.ensures.variations;
    coordinates = c.advances_at-advances.ensures.coordinates ∙ c.deref.ensures.value;
  };
  is = c.in-Ok.ensures.written;
}

pub returns-in-Err-clause-why : goal.returns-in-Err-clause-why
returns-in-Err-clause-why c =
    let are : AreAdvancesAt c.args.face.now c.args.location.now.coordinates.items c.advances_at-advances.result = record {
      default = c.advances_at-advances.ensures.default;
      variations = c.advances_at-advances.ensures.variations;
      coordinates = c.advances_at-advances.ensures.coordinates ∙ c.deref.ensures.value;
    } in
    elim c.error_of.ensures [
      | inl names ↦ no_glyph names
      | inr is ↦ no_font _ c.advances_at-advances.result c.in-Err.error are c.in-Err.ensures.why is
    ]
