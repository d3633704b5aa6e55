use Rattle.std.proofs.Common.{refl, sym, subst, ℕ, List}
use Rattle.postscript_files.specs.declared.choice.Choice.{Choice}
use Rattle.postscript_subset.specs.Closing.{AreClosed}
use Rattle.postscript_subset.proofs.Cutting.{cut-so, known-anew, no-cut-so}
use Rattle.postscript_subset.proofs.subset.cut.Goals as goal

pub returns-clause-subset : goal.returns-clause-subset
returns-clause-subset c =
    let by : Choice = record {
      chars = c.args.choice.now.chars;
      glyphs = c.args.choice.now.glyphs;
      unmapped = c.deref-2.result;
      lenient = c.args.choice.now.lenient;
      retain_gids = c.args.choice.now.retain_gids;
      copied = c.args.choice.now.copied;
      given = c.args.choice.now.given;
      limit = c.args.choice.now.limit;
    } in
    let closed = subst (λ (xs : List ℕ). AreClosed c.args.choice.now c.args.features.now c.args.face.now c.gsub_in-gsub.result.now
    c.deref-3.result.now xs) (sym c.deref.ensures.value)
    (subst (λ (xs : List ℕ). AreClosed c.args.choice.now c.args.features.now c.args.face.now c.gsub_in-gsub.result.now xs
    c.in_ok-closed.closed.glyphs.items) (sym c.deref-3.ensures.value) c.in_ok-closed.ensures.closed) in
    cut-so c.write.result c.args.choice.now c.args.features.now c.args.face.now by c.gsub_in-gsub.result.now c.deref-3.result.now
    c.deref.result.now c.write.new.limit c.requires.anew
    (known-anew c.args.choice.now c.args.features.now c.args.face.now by c.gsub_in-gsub.result.now c.deref-3.result.now
    c.deref.result.now c.in_ok-unmapped.unmapped.items c.requires.anew c.gsub_in-gsub.ensures closed c.in_ok-unmapped.ensures.extended
    refl refl c.deref-2.ensures.value refl refl refl refl refl) c.write.ensures.subset

pub returns-clause-why : goal.returns-clause-why
returns-clause-why c =
    let by : Choice = record {
      chars = c.args.choice.now.chars;
      glyphs = c.args.choice.now.glyphs;
      unmapped = c.deref-2.result;
      lenient = c.args.choice.now.lenient;
      retain_gids = c.args.choice.now.retain_gids;
      copied = c.args.choice.now.copied;
      given = c.args.choice.now.given;
      limit = c.args.choice.now.limit;
    } in
    let closed = subst (λ (xs : List ℕ). AreClosed c.args.choice.now c.args.features.now c.args.face.now c.gsub_in-gsub.result.now
    c.deref-3.result.now xs) (sym c.deref.ensures.value)
    (subst (λ (xs : List ℕ). AreClosed c.args.choice.now c.args.features.now c.args.face.now c.gsub_in-gsub.result.now xs
    c.in_ok-closed.closed.glyphs.items) (sym c.deref-3.ensures.value) c.in_ok-closed.ensures.closed) in
    no-cut-so c.write.result c.args.choice.now c.args.features.now c.args.face.now by c.gsub_in-gsub.result.now c.deref-3.result.now
    c.deref.result.now _ c.requires.room
    (known-anew c.args.choice.now c.args.features.now c.args.face.now by c.gsub_in-gsub.result.now c.deref-3.result.now
    c.deref.result.now c.in_ok-unmapped.unmapped.items c.requires.anew c.gsub_in-gsub.ensures closed c.in_ok-unmapped.ensures.extended
    refl refl c.deref-2.ensures.value refl refl refl refl refl) c.write.ensures.why
