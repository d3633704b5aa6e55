use Rattle.std.proofs.Common.{◌∙◌, ◌++◌, ap, refl, ℕ, List}
use Rattle.std.specs.Prelude.{map}
use Rattle.std.proofs.lemmas.Result.{err_from_is_err_and}
use Rattle.postscript_subset.specs.Layering.{tables_of}
use Rattle.postscript_subset.specs.Subsets.{shown}
use Rattle.postscript_subset.proofs.Cutting.{unfinished-so}
use Rattle.postscript_subset.proofs.subset.finish.Goals as goal

pub returns-in_err-subset-clause-why : goal.returns-in_err-subset-clause-why
returns-in_err-subset-clause-why c =
    let error = err_from_is_err_and c.from_residual-in_err-subset.result c.from_residual-in_err-subset.ensures.1 in
    rw (error.1, error.2) (unfinished-so _ c.args.by.now _ c.args.face.now c.args.layers c.in_err-subset.ensures.refused (record {
      chars = refl;
      glyphs = refl;
      unmapped = refl;
      lenient = refl;
      retain_gids = refl;
      limit = refl;
      copied = refl;
      given = ap (map shown) c.deref.ensures.value ∙ c.in_ok-put_all.ensures.put
          ∙ ap (λ (xs : List (ℕ × List ℕ)). xs ++ tables_of c.args.layers) c.in_ok-given.ensures.same;
    }))
