use Rattle.std.proofs.Common.{◌≡◌, ◌∙◌, ap, ℕ, List, refl, [], ◌∷◌, ◌++◌, inl, inr}
use Rattle.std.proofs.lemmas.List.{append_assoc}
use Rattle.std.proofs.lemmas.Result.{on_ok_weaker}
use Rattle.postscript_type2.specs.Program.Routines.{texts}
use Rattle.postscript_write.specs.Index.{index_text}
use Rattle.std.proofs.lemmas.Result.{err_from_is_err_and}
use Rattle.postscript_write.proofs.Making.{if_err}
use Rattle.postscript_write.proofs.Rests.{none_fit}
use Rattle.postscript_write.proofs.layout.put_tables.Goals as goal

pub returns-in_err-put_dictionary-clause-refused : goal.returns-in_err-put_dictionary-clause-refused
returns-in_err-put_dictionary-clause-refused c =
    let error = err_from_is_err_and c.from_residual-in_err-put_dictionary.result c.from_residual-in_err-put_dictionary.ensures.1 in
    rw (error.1, error.2) (λ other held some few names strings. c.in_err-put_dictionary.ensures.refused other held some few)

pub returns-clause-refused : goal.returns-clause-refused
returns-clause-refused c =
    if_err c.put_index-3.result (λ e is other held some few names strings. elim is [
      | inl memory ↦ other memory
      | inr bad ↦ bad.1 (none_fit [] refl)
    ]) c.put_index-3.ensures.refused

pub returns-in_err-put_index-2-clause-refused : goal.returns-in_err-put_index-2-clause-refused
returns-in_err-put_index-2-clause-refused c =
    let error = err_from_is_err_and c.from_residual-in_err-put_index-2.result c.from_residual-in_err-put_index-2.ensures.1 in
    rw (error.1, error.2) (λ other held some few names strings. elim c.in_err-put_index-2.ensures.refused [
      | inl memory ↦ other memory
      | inr bad ↦ bad.1 strings
    ])

-- texts behind one another
behind : (out head a b d e n h i j k : List ℕ) → n ≡ out ++ head → h ≡ n ++ a → i ≡ h ++ b → j ≡ i ++ d → k ≡ j ++ e →
    k ≡ out ++ (head ++ (a ++ (b ++ (d ++ e))))
behind out head a b d e n h i j k first second third fourth fifth =
    fifth ∙ ap (λ xs. xs ++ e) (fourth ∙ ap (λ xs. xs ++ d) (third ∙ ap (λ xs. xs ++ b) (second ∙ ap (λ xs. xs ++ a) first)))
    ∙ simp append_assoc

pub returns-clause-text : goal.returns-clause-text
returns-clause-text c =
    let put = c.in_ok-put_dictionary.ensures.text in
    let names = c.in_ok-put_index.ensures.ok
    ∙ ap (λ xs. c.extend_from_slice.new.self.items ++ index_text xs) (ap texts c.deref.ensures.value ∙ c.in_ok-names.ensures.items) in
    on_ok_weaker c.put_index-3.result
    (λ is. (
      put.0,
      behind c.args.out.now.items (1 ∷ 0 ∷ 4 ∷ 4 ∷ []) _ _ _ _ _ _ _ _ _ c.in_ok-extend_from_slice.ensures.items names put.1
          c.in_ok-put_index-2.ensures.ok is,
      put.2,
    )) c.put_index-3.ensures.ok
