use Rattle.std.proofs.Common.{◌∙◌, refl, sym, subst, ℕ, List}
use Rattle.std.proofs.lemmas.Result.{err_from_is_err_and}
use Rattle.postscript_files.specs.declared.choice.Choice.{Choice}
use Rattle.postscript_subset.specs.Closing.{AreClosed}
use Rattle.postscript_subset.specs.declared.features.Features.TheVariants as kinds
use Rattle.postscript_subset.proofs.Cutting.{known-in-place, no-placed, placed-so}
use Rattle.postscript_subset.proofs.in_place.cut_in_place.Goals as goal

pub returns-in_err-file-clause-why : goal.returns-in_err-file-clause-why
returns-in_err-file-clause-why c =
    let by : Choice = record {
      chars = c.args.choice.now.chars;
      glyphs = c.args.choice.now.glyphs;
      unmapped = c.deref-2.result;
      lenient = c.args.choice.now.lenient;
      retain_gids = c.args.choice.now.retain_gids;
      copied = c.deref-3.result;
      given = c.args.choice.now.given;
      limit = c.args.choice.now.limit;
    } in
    let closed = subst (λ (xs : List ℕ). AreClosed c.args.choice.now kinds.All c.args.face.now c.gsub_in-gsub.result.now
    c.in_ok-closed.closed.lookups.items xs) (sym c.deref.ensures.value) c.in_ok-closed.ensures.closed in
    let error = err_from_is_err_and c.from_residual-in_err-file.result c.from_residual-in_err-file.ensures.1 in
    rw (error.1, error.2) (no-placed _ c.args.choice.now c.args.features.now c.args.face.now by c.gsub_in-gsub.result.now
    c.in_ok-closed.closed.lookups.items c.deref.result.now c.close.new.limit c.requires.room
    (known-in-place c.args.choice.now c.args.features.now c.args.face.now by c.gsub_in-gsub.result.now c.in_ok-closed.closed.lookups.items
    c.deref.result.now c.in_ok-unmapped.unmapped.items c.requires.retain c.gsub_in-gsub.ensures closed c.in_ok-unmapped.ensures.extended
    refl refl c.deref-2.ensures.value refl refl refl (c.deref-3.ensures.value ∙ c.in_ok-copied.ensures.tags) refl)
    c.in_err-file.ensures.refused)

pub returns-clause-subset : goal.returns-clause-subset
returns-clause-subset c =
    let by : Choice = record {
      chars = c.args.choice.now.chars;
      glyphs = c.args.choice.now.glyphs;
      unmapped = c.deref-2.result;
      lenient = c.args.choice.now.lenient;
      retain_gids = c.args.choice.now.retain_gids;
      copied = c.deref-3.result;
      given = c.args.choice.now.given;
      limit = c.args.choice.now.limit;
    } in
    let closed = subst (λ (xs : List ℕ). AreClosed c.args.choice.now kinds.All c.args.face.now c.gsub_in-gsub.result.now
    c.in_ok-closed.closed.lookups.items xs) (sym c.deref.ensures.value) c.in_ok-closed.ensures.closed in
    placed-so c.args.choice.now c.args.features.now c.args.face.now by c.gsub_in-gsub.result.now c.in_ok-closed.closed.lookups.items
    c.deref.result.now _ c.requires.retain
    (known-in-place c.args.choice.now c.args.features.now c.args.face.now by c.gsub_in-gsub.result.now c.in_ok-closed.closed.lookups.items
    c.deref.result.now c.in_ok-unmapped.unmapped.items c.requires.retain c.gsub_in-gsub.ensures closed c.in_ok-unmapped.ensures.extended
    refl refl c.deref-2.ensures.value refl refl refl (c.deref-3.ensures.value ∙ c.in_ok-copied.ensures.tags) refl)
    c.in_ok-file.ensures.subset c.copied_as-3.ensures c.copied_as.ensures c.copied_as-2.ensures refl c.new.ensures.items
