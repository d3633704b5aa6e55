use Rattle.std.proofs.Common.{rules, ◌∙◌, ap, subst, Bool, ℕ, List}
use Rattle.std.specs.Prelude.{map}
use Rattle.postscript_subset.specs.Layering.{AreLayers}
use Rattle.postscript_subset.specs.Layers.{have_marks}
use Rattle.postscript_subset.specs.Subsets.{left_in, shown}
use Rattle.postscript_subset.proofs.Cutting.{no-cut-by}
use Rattle.postscript_subset.proofs.subset.write.Goals as goal

pub returns-clause-subset : goal.returns-clause-subset
returns-clause-subset c =
    let layers = c.in_ok-layers.layers in
    let origins = c.in_ok-origins.origins.items in
    let made = subst (λ (xs : List ℕ). AreLayers c.args.face.now.file c.args.features.now c.args.lookups.now xs c.layers_of.new.limit layers)
    c.deref.ensures.value c.in_ok-layers.ensures.layers in
    let marks = c.has_marks-marks.ensures ∙ ap (λ (xs : List ℕ). have_marks xs layers.gdef.outcome) c.deref-2.ensures.value in
    let finished = c.in_ok-file.ensures.file in
    record {
      with = finished.0;
      gdef = layers.gdef.table.items;
      gsub = layers.gsub.table.items;
      gpos = layers.gpos.table.items;
      kern = layers.kern.table.items;
      vertical = map shown layers.vertical.items;
      has = finished.1;
      file = finished.2;
      origins = origins;
      are = c.in_ok-origins.ensures.origins;
      classes = made.gdef;
      substitutions = made.gsub;
      positions = made.gpos;
      pairs = made.kern;
      upright = made.vertical;
      left_out = c.in_ok-left_out.ensures.left
          ∙ ap (λ (b : Bool). left_in layers.gsub.outcome b c.args.gsub.now c.args.lookups.now) marks;
    }

pub returns-in_err-file-clause-why : goal.returns-in_err-file-clause-why
returns-in_err-file-clause-why c =
    let no = no-cut-by _ c.args.by.now c.args.face.now c.in_ok-layers.layers c.in_err-file.ensures.why in
    search (rules, no)
