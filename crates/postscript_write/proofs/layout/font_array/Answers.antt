use Rattle.std.proofs.Common.{◌≡◌, ◌∙◌, ap, ◌++◌, [], length, false, rules, List, Vec, ℕ, sym, subst, inl, inr, arith}
use Rattle.std.specs.Prelude.{IsSome}
use Rattle.std.specs.declared.alloc.Global.{Global}
use Rattle.std.proofs.lemmas.Result.{err_from_is_err_and}
use Rattle.std.specs.Option.{is_none}
use Rattle.postscript_type2.specs.Program.Routines.{texts}
use Rattle.postscript_write.specs.Index.{FitsIndex, index_text}
use Rattle.postscript_write.proofs.Few.{are_few, few_fit, few_most}
use Rattle.postscript_write.proofs.Lengths.{none_text, some_text}
use Rattle.postscript_write.proofs.layout.font_array.Goals as goal

pub returns-then-is_none-clause-text : goal.returns-then-is_none-clause-text
returns-then-is_none-clause-text c =
    let none = none_text c.args.glyphs.now.select (search rules) in
    ([], c.new-out.ensures.items ∙ sym none.0, λ fits some. absurd (none.1 some), λ some. absurd (none.1 some), λ some. absurd (none.1 some))

pub returns-clause-text : goal.returns-clause-text
returns-clause-text c =
    let ds = texts c.in_ok-dictionaries.dictionaries.items in
    let some : is_none c.args.glyphs.now.select ≡ false = search rules in (
      ds,
      c.in_ok-put_index.ensures.ok ∙ ap (λ xs. xs ++ index_text (texts c.deref.result.now)) c.new-out.ensures.items
          ∙ ap (λ ds. index_text (texts ds)) c.deref.ensures.value ∙ some_text c.args.glyphs.now.select ds some,
      λ fits is items names. c.in_ok-dictionaries.ensures.placed items names fits,
      λ is. c.in_ok-dictionaries.ensures.sized,
      λ is. subst (λ ds. FitsIndex (texts ds)) c.deref.ensures.value c.in_ok-put_index.ensures.fits,
    )

pub returns-in_err-dictionaries-clause-refused : goal.returns-in_err-dictionaries-clause-refused
returns-in_err-dictionaries-clause-refused c =
    let error = err_from_is_err_and c.from_residual.result c.from_residual.ensures.1 in
    let some : IsSome c.args.glyphs.now.select = search rules in
    rw (error.1, error.2) (λ other read selects parts own few. c.in_err-dictionaries.ensures.refused other
    (selects some) read.laid.parts own few)

pub returns-in_err-put_index-clause-refused : goal.returns-in_err-put_index-clause-refused
returns-in_err-put_index-clause-refused c =
    let error = err_from_is_err_and c.from_residual-in_err-put_index.result c.from_residual-in_err-put_index.ensures.1 in
    let font = c.args.font.now in
    let ds = texts c.in_ok-dictionaries.dictionaries.items in
    let some : IsSome c.args.glyphs.now.select = search rules in
    rw (error.1, error.2) (λ other read selects parts own few.
    let keyed = selects some in
    elim c.in_err-put_index.ensures.refused [
      | inl memory ↦ other memory
      | inr bad ↦
          bad.1 (subst (λ (ds : List (Vec ℕ Global)). FitsIndex (texts ds)) (sym c.deref.ensures.value)
          (few_fit ds (are_few font.bytes.now font.dictionary font.parts.items c.args.privates.now ds keyed
          (read.few keyed) read.laid.parts parts c.in_ok-dictionaries.ensures.sized)))
    ])

pub returns-clause-few : goal.returns-clause-few
returns-clause-few c =
    let font = c.args.font.now in
    let ds = texts c.in_ok-dictionaries.dictionaries.items in
    let some : IsSome c.args.glyphs.now.select = search rules in
    let written = c.in_ok-put_index.ensures.ok ∙ ap (λ xs. xs ++ index_text (texts c.deref.result.now)) c.new-out.ensures.items
    ∙ ap (λ ds. index_text (texts ds)) c.deref.ensures.value in
    λ read selects parts.
    let keyed = selects some in
    let most = few_most ds (are_few font.bytes.now font.dictionary font.parts.items c.args.privates.now ds keyed
    (read.few keyed) read.laid.parts parts c.in_ok-dictionaries.ensures.sized) in
    omega (arith, ap length written, most)
