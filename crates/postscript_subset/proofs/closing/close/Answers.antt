use Rattle.std.proofs.Common.{◌∙◌, ◌++◌, ap, sym, subst, ℕ, List}
use Rattle.std.proofs.lemmas.Result.{err_from_is_err_and}
use Rattle.postscript_files.specs.Origins.{AreSmall}
use Rattle.postscript_layout_write.specs.Reached.{AreReached}
use Rattle.postscript_subset.specs.Closing.{with_notdef}
use Rattle.postscript_subset.proofs.Staying.{wide-named}
use Rattle.postscript_subset.proofs.closing.close.Goals as goal

pub returns-in_err-glyphs-clause-why : goal.returns-in_err-glyphs-clause-why
returns-in_err-glyphs-clause-why c =
    let error = err_from_is_err_and c.from_residual-in_err-glyphs.result c.from_residual-in_err-glyphs.ensures.1 in
    rw (error.1, error.2) (wide-named _ c.args.choice.now c.args.face.now c.args.limit.now c.in_ok-named.named.items c.deref.result.now
    c.in_ok-named.ensures.named c.deref.ensures.value c.in_err-glyphs.ensures.why)

pub put_varied-requires : goal.put_varied-requires
put_varied-requires c = record { small = subst AreSmall (sym c.deref-2.ensures.value) c.in_ok-varied.ensures.small }

pub returns-clause-closed : goal.returns-clause-closed
returns-clause-closed c =
    let all = c.in_ok-all.all in
    let given = c.in_ok-put_varied.ensures.put ∙ ap (λ (xs : List ℕ). xs ++ c.deref-2.result.now) (c.in_ok-glyphs.ensures.same ∙ c.deref.ensures.value)
    ∙ ap (λ (xs : List ℕ). c.in_ok-named.named.items ++ xs) c.deref-2.ensures.value in
    record {
      chosen = c.in_ok-chosen.chosen.items;
      of_features = c.in_ok-chosen.ensures.exact;
      named = c.in_ok-named.named.items;
      are = c.in_ok-named.ensures.named;
      varied = c.in_ok-varied.varied.items;
      of_sequences = c.in_ok-varied.ensures.glyphs;
      reached = subst (λ (xs : List ℕ). AreReached c.args.gsub.now c.in_ok-chosen.chosen.items xs all.lookups.items all.glyphs.items)
          (c.deref-4.ensures.value ∙ c.in_ok-put_notdef.ensures.put ∙ ap with_notdef given)
          (subst (λ (xs : List ℕ). AreReached c.args.gsub.now xs c.deref-4.result.now all.lookups.items all.glyphs.items) c.deref-3.ensures.value
          c.in_ok-all.ensures.reached);
    }
