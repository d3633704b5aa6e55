use Rattle.std.proofs.Common.{◌≡◌, ◌∙◌, ℕ, sym, ap, subst, List, [], ◌∷◌, ◌++◌, length, Vec, inl, inr, rules, arith}
use Rattle.std.specs.declared.alloc.Global.{Global}
use Rattle.std.proofs.lemmas.Result.{err_from_is_err_and}
use Rattle.postscript_type2.specs.Program.Routines.{texts}
use Rattle.postscript_write.specs.Index.{FitsIndex}
use Rattle.postscript_write.proofs.Room.{single_fits}
use Rattle.postscript_write.proofs.Without.{sized_within}
use Rattle.postscript_write.proofs.layout.put_dictionary.Goals as goal

pub returns-in_err-with_places-clause-refused : goal.returns-in_err-with_places-clause-refused
returns-in_err-with_places-clause-refused c =
    let error = err_from_is_err_and c.from_residual.result c.from_residual.ensures.1 in
    rw (error.1, error.2) (λ other held some few. c.in_err-with_places.ensures.refused other held some.0 some.1)

pub returns-in_err-put_index-clause-refused : goal.returns-in_err-put_index-clause-refused
returns-in_err-put_index-clause-refused c =
    let error = err_from_is_err_and c.from_residual-in_err-put_index.result c.from_residual-in_err-put_index.ensures.1 in
    let placed = c.in_ok-with_places.field-0 in
    let more : c.push.new.self.items ≡ c.new-dictionaries.result.items ++ placed ∷ [] = search rules in
    let is : c.deref.result.now ≡ placed ∷ [] = c.deref.ensures.value ∙ more
    ∙ ap (λ xs. xs ++ placed ∷ []) c.new-dictionaries.ensures.items in
    rw (error.1, error.2) (λ other held some few.
    let size = sized_within c.args.dictionary.now c.args.places.now (length placed.items) c.in_ok-with_places.ensures.sized in
    elim c.in_err-put_index.ensures.refused [
      | inl memory ↦ other memory
      | inr bad ↦ bad.1 (subst (λ (ds : List (Vec ℕ Global)). FitsIndex (texts ds)) (sym is)
          (single_fits placed.items (omega (arith, size, few))))
    ])
