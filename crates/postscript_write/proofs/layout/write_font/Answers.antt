use Rattle.std.proofs.Common.{◌∙◌, sym, ap, subst, ◌++◌, List, ℕ, inl, inr, length, arith}
use Rattle.std.proofs.lemmas.Result.{IfOk-weaker, err_from_is_err_and}
use Rattle.postscript_type2.specs.Program.Routines.{texts}
use Rattle.postscript_view.specs.Value.{parts_shown}
use Rattle.postscript_write.specs.Index.{index_text}
use Rattle.postscript_write.specs.Privates.{AreOwnPrivates, IsSomeDictionary, privates_text}
use Rattle.postscript_write.specs.Written.{IsPut}
use Rattle.postscript_write.proofs.Making.{if_err}
use Rattle.postscript_write.proofs.Within.{codes_fit, index_within}
use Rattle.postscript_write.proofs.layout.write_font.Goals as goal

pub returns-clause-written : goal.returns-clause-written
returns-clause-written c =
    let font = c.args.font.now in
    let glyphs = c.args.glyphs.now in
    let codes : List (List ℕ) = texts c.args.codes.now in
    let char_strings = c.deref.ensures.value ∙ c.in_ok-put_index.ensures.ok
    ∙ ap (λ xs. xs ++ index_text codes) c.new-char_strings.ensures.items in
    IfOk-weaker c.put_together.result _ _ (λ out put. record {
      privates = c.in_ok-privates.privates.items;
      dictionary = c.in_ok-dictionary.dictionary.items;
      put = subst (λ xs. IsPut font glyphs xs c.in_ok-privates.privates.items c.in_ok-dictionary.dictionary.items out.items) char_strings
          (subst (λ ps. IsPut font glyphs c.deref.result.now ps c.in_ok-dictionary.dictionary.items out.items) c.deref-2.ensures.value
          (subst (λ (d : List ℕ). IsPut font glyphs c.deref.result.now c.deref-2.result.now d out.items) c.deref-3.ensures.value put));
      ros_first = c.in_ok-dictionary.ensures.order;
      char_strings_fit = c.in_ok-put_index.ensures.fits;
      are_own = c.in_ok-privates.ensures.own;
      none_named = c.in_ok-privates.ensures.named;
      renamed = c.in_ok-dictionary.ensures.renamed;
    }) c.put_together.ensures.put

pub returns-clause-refused : goal.returns-clause-refused
returns-clause-refused c =
    let font = c.args.font.now in
    let glyphs = c.args.glyphs.now in
    let codes : List (List ℕ) = texts c.args.codes.now in
    let char_strings = c.deref.ensures.value ∙ c.in_ok-put_index.ensures.ok
    ∙ ap (λ xs. xs ++ index_text codes) c.new-char_strings.ensures.items in
    if_err c.put_together.result (λ e never other read selects room.
    let most = c.in_ok-privates.ensures.few read in
    let new = c.in_ok-dictionary.ensures.renamed read.laid.tables in
    let sized = c.in_ok-dictionary.ensures.sized in
    let own = c.in_ok-privates.ensures.own read.laid.parts in
    never other read selects codes room
    (record {
      char_strings = omega (arith, ap length char_strings, index_within codes);
      privates = omega (arith, most, ap (λ ps. length (privates_text ps)) c.deref-2.ensures.value);
    })
    (subst (AreOwnPrivates (parts_shown font.parts.items)) (sym c.deref-2.ensures.value) own)
    (subst IsSomeDictionary (sym c.deref-3.ensures.value) (new.0, new.1))
    (omega (arith, sized, ap length c.deref-3.ensures.value)))
    c.put_together.ensures.refused

pub returns-in_err-put_index-clause-refused : goal.returns-in_err-put_index-clause-refused
returns-in_err-put_index-clause-refused c =
    let error = err_from_is_err_and c.from_residual.result c.from_residual.ensures.1 in
    rw (error.1, error.2) (λ other read selects room. elim c.in_err-put_index.ensures.refused [
      | inl memory ↦ other memory
      | inr bad ↦ bad.1 (codes_fit c.args.font.now c.args.glyphs.now (texts c.args.codes.now) room)
    ])

pub returns-in_err-privates-clause-refused : goal.returns-in_err-privates-clause-refused
returns-in_err-privates-clause-refused c =
    let error = err_from_is_err_and c.from_residual-in_err-privates.result c.from_residual-in_err-privates.ensures.1 in
    rw (error.1, error.2) (λ other read selects room. c.in_err-privates.ensures.refused other read.laid.parts)

pub returns-in_err-dictionary-clause-refused : goal.returns-in_err-dictionary-clause-refused
returns-in_err-dictionary-clause-refused c =
    let error = err_from_is_err_and c.from_residual-in_err-dictionary.result c.from_residual-in_err-dictionary.ensures.1 in
    rw (error.1, error.2) (λ other read selects room. c.in_err-dictionary.ensures.refused other read.laid.header read.laid.tables
    room.renamed)
