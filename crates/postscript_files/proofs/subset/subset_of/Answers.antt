use Rattle.std.proofs.Common.{◌∙◌, ap, sym, subst, ℕ, List}
use Rattle.std.proofs.lemmas.Result.{err_from_is_err_and}
use Rattle.std.specs.Prelude.{IfErr, IfOk}
use Rattle.postscript_write.specs.Costs.{KeepsWithin}
use Rattle.postscript_files.specs.Choices.{glyphs_of, named_of}
use Rattle.postscript_files.specs.Listed.{IsFileOfParts, NoFileOfParts}
use Rattle.postscript_sfnt_write.specs.Mappings.{CharsRise}
use Rattle.postscript_files.specs.Origins.{AreFew, AreOrigins}
use Rattle.postscript_files.specs.Renumbered.{ArePlaced}
use Rattle.postscript_files.specs.Subsets.{IsSubsetFont}
use Rattle.postscript_write.specs.Components.{AreKept}
use Rattle.postscript_files.proofs.Refusing.{unopened-so}
use Rattle.postscript_files.proofs.Subsetting.{few-by, if-subset, made-by, no-origins-so, no-written-so, unmade-so}
use Rattle.postscript_files.proofs.subset.subset_of.Goals as goal

pub returns-clause-subset : goal.returns-clause-subset
returns-clause-subset c =
    if-subset c.write_file.result c.args.choice.now c.args.face.now c.in_ok-pairs.pairs.items c.in_ok-named.named.items
    c.in_ok-origins.origins.items c.in_ok-placed.placed.items c.in_ok-cut.cut.font.items c.in_ok-made.made c.in_ok-pairs.ensures.kept
    (c.in_ok-named.ensures.named ∙ ap (named_of (glyphs_of c.args.choice.now)) c.deref.ensures.value)
    (subst (λ (xs : List ℕ). IsSubsetFont c.args.choice.now.retain_gids xs c.args.face.now.cff.now c.in_ok-cut.cut.font.items)
    c.deref-2.ensures.value c.in_ok-cut.ensures.font)
    (subst (λ (xs : List ℕ). KeepsWithin c.args.choice.now.limit xs c.args.face.now.cff.now) c.deref-2.ensures.value c.in_ok-cut.ensures.within)
    (subst (λ (xs : List ℕ). AreOrigins c.args.choice.now.retain_gids xs c.args.face.now.cff.now c.in_ok-origins.origins.items)
    c.deref-3.ensures.value c.in_ok-origins.ensures.are)
    (record {
      kept = c.in_ok-cut.cut.kept.items;
      are = subst (λ (xs : List ℕ). AreKept xs c.args.face.now.cff.now c.in_ok-cut.cut.kept.items) c.deref-2.ensures.value c.in_ok-cut.ensures.kept;
      at = subst (λ n. ArePlaced c.args.choice.now.retain_gids c.in_ok-cut.cut.kept.items n c.in_ok-placed.placed.items) (c.len.ensures ∙ c.in_ok-origins.origins.ok.0)
          c.in_ok-placed.ensures.placed;
    })
    (made-by c.args.face.now c.deref-5.result.now c.in_ok-pairs.pairs.items c.deref-6.result.now c.in_ok-origins.origins.items
    c.deref-7.result.now c.in_ok-placed.placed.items c.in_ok-made.made c.deref-5.ensures.value c.deref-6.ensures.value c.deref-7.ensures.value
    c.in_ok-made.ensures.made)
    (subst (λ (xs : List ℕ). IfOk c.write_file.result (λ file. IsFileOfParts c.args.choice.now c.args.face.now.file xs c.in_ok-made.made file.items))
    c.deref-8.ensures.value c.write_file.ensures.file)

pub returns-clause-refused : goal.returns-clause-refused
returns-clause-refused c =
    no-written-so c.write_file.result c.args.choice.now c.args.face.now c.in_ok-pairs.pairs.items c.in_ok-named.named.items
    c.in_ok-origins.origins.items c.in_ok-placed.placed.items c.in_ok-cut.cut.font.items c.in_ok-made.made c.in_ok-pairs.ensures.kept
    (c.in_ok-named.ensures.named ∙ ap (named_of (glyphs_of c.args.choice.now)) c.deref.ensures.value)
    (subst (λ (xs : List ℕ). IsSubsetFont c.args.choice.now.retain_gids xs c.args.face.now.cff.now c.in_ok-cut.cut.font.items)
    c.deref-2.ensures.value c.in_ok-cut.ensures.font)
    (few-by c.args.choice.now.retain_gids c.args.face.now.cff.now c.in_ok-named.named.items c.deref-2.result.now c.deref-3.result.now
    c.in_ok-origins.origins.items c.in_ok-cut.cut.kept.items c.in_ok-placed.placed.items c.len.result c.deref-2.ensures.value
    c.deref-3.ensures.value (c.len.ensures ∙ c.in_ok-origins.origins.ok.0) c.in_ok-cut.ensures.kept c.in_ok-origins.ensures.are c.in_ok-placed.ensures.placed
    c.in_ok-origins.ensures.few)
    (made-by c.args.face.now c.deref-5.result.now c.in_ok-pairs.pairs.items c.deref-6.result.now c.in_ok-origins.origins.items
    c.deref-7.result.now c.in_ok-placed.placed.items c.in_ok-made.made c.deref-5.ensures.value c.deref-6.ensures.value c.deref-7.ensures.value
    c.in_ok-made.ensures.made)
    (subst (λ (xs : List ℕ). IfErr c.write_file.result (λ e. NoFileOfParts c.args.choice.now c.args.face.now.file xs c.in_ok-made.made e))
    c.deref-8.ensures.value c.write_file.ensures.refused)

pub returns-in_err-origins-clause-refused : goal.returns-in_err-origins-clause-refused
returns-in_err-origins-clause-refused c =
    let error = err_from_is_err_and c.from_residual-in_err-origins.result c.from_residual-in_err-origins.ensures.1 in
    rw (error.1, error.2) (no-origins-so _ c.args.choice.now c.args.face.now c.in_ok-pairs.pairs.items c.in_ok-named.named.items
    c.deref-3.result.now c.in_ok-pairs.ensures.kept
    (c.in_ok-named.ensures.named ∙ ap (named_of (glyphs_of c.args.choice.now)) c.deref.ensures.value) c.deref-3.ensures.value
    (unopened-so _ c.args.choice.now.limit c.args.choice.now.retain_gids c.deref-3.result.now c.args.face.now.cff.now
    c.in_err-origins.ensures.refused))

pub origins_by-requires : goal.origins_by-requires
origins_by-requires c = record {
  kept = subst (λ (ks : List ℕ). AreKept c.deref-3.result.now c.args.face.now.cff.now ks) (sym c.deref-4.ensures.value)
      (subst (λ (xs : List ℕ). AreKept xs c.args.face.now.cff.now c.in_ok-cut.cut.kept.items)
      (c.deref-2.ensures.value ∙ sym c.deref-3.ensures.value) c.in_ok-cut.ensures.kept);
}

pub returns-in_err-made-clause-refused : goal.returns-in_err-made-clause-refused
returns-in_err-made-clause-refused c =
    let error = err_from_is_err_and c.from_residual-in_err-made.result c.from_residual-in_err-made.ensures.1 in
    rw (error.1, error.2) (unmade-so _ c.args.choice.now c.args.face.now c.in_err-made.ensures.refused)

pub made_of-requires-clause-rise : goal.made_of-requires-clause-rise
made_of-requires-clause-rise c = subst CharsRise (sym c.deref-5.ensures.value) c.in_ok-pairs.ensures.kept.rise

pub made_of-requires-clause-few : goal.made_of-requires-clause-few
made_of-requires-clause-few c = subst AreFew (sym c.deref-6.ensures.value) c.in_ok-origins.ensures.few

pub made_of-requires-clause-low : goal.made_of-requires-clause-low
made_of-requires-clause-low c =
    subst AreFew (sym c.deref-7.ensures.value)
    (few-by c.args.choice.now.retain_gids c.args.face.now.cff.now c.in_ok-named.named.items c.deref-2.result.now c.deref-3.result.now
    c.in_ok-origins.origins.items c.in_ok-cut.cut.kept.items c.in_ok-placed.placed.items c.len.result c.deref-2.ensures.value
    c.deref-3.ensures.value (c.len.ensures ∙ c.in_ok-origins.origins.ok.0) c.in_ok-cut.ensures.kept c.in_ok-origins.ensures.are c.in_ok-placed.ensures.placed
    c.in_ok-origins.ensures.few)
