use Rattle.std.proofs.Common.{◌∙◌, ap, subst, inl, List, length, ℕ}
use Rattle.std.proofs.lemmas.Result.{err_from_is_err_and}
use Rattle.postscript_view.specs.Contents.{View}
use Rattle.postscript_view.specs.Value.{view_shown}
use Rattle.postscript_drawing.specs.Components.{glyphs_of}
use Rattle.postscript_write.specs.Components.{IsOpened}
use Rattle.postscript_write.specs.Sources.{AreThere, kept_of}
use Rattle.postscript_write.specs.Steps.{IsNotChosen}
use Rattle.postscript_write.specs.declared.error.Error.{Error}
use Rattle.postscript_write.proofs.ReadAgain.{one_view}
use Rattle.postscript_write.proofs.Making.{if_err, if_ok, on_ok}
use Rattle.postscript_write.proofs.Stopping.{keeps-within}
use Rattle.postscript_write.proofs.Subsets.{choice-not-chosen, choice-not-found, choice-not-opened, kept-so}
use Rattle.postscript_write.proofs.fonts.kept_glyphs_within.Goals as goal

pub returns-clause-kept : goal.returns-clause-kept
returns-clause-kept c =
    let font = c.in_ok-font.font in
    let opened : IsOpened c.args.bytes.now font = record { laid = c.in_ok-font.ensures.is; there = c.in_ok-font.ensures.bytes } in
    let closed = c.in_ok-closed.closed.items in
    let same = ap (λ n. kept_of c.deref.result.now n) c.len.ensures ∙ ap (λ xs. kept_of xs (glyphs_of font)) c.deref.ensures.value in
    kept-so c.kept_of.result c.args.bytes.now c.args.named.now closed font opened c.in_ok-closed.ensures.closed _ same
    c.kept_of.ensures.kept

pub returns-clause-within : goal.returns-clause-within
returns-clause-within c =
    let opened : IsOpened c.args.bytes.now c.in_ok-font.font =
    record { laid = c.in_ok-font.ensures.is; there = c.in_ok-font.ensures.bytes } in
    on_ok c.kept_of.result (keeps-within c.args.limit c.in_ok-font.font c.args.bytes.now c.args.named.now opened c.in_ok-closed.ensures.shared)

pub returns-clause-refused : goal.returns-clause-refused
returns-clause-refused c =
    let same : (e : Error) → IsNotChosen c.deref.result.now c.len.result e → IsNotChosen c.in_ok-closed.closed.items
    (glyphs_of c.in_ok-font.font) e = λ e h. subst (λ (xs : List ℕ). IsNotChosen xs (glyphs_of c.in_ok-font.font) e) c.deref.ensures.value
    (subst (λ (n : ℕ). IsNotChosen c.deref.result.now n e) c.len.ensures h) in
    if_err c.kept_of.result (λ e h. inl (choice-not-chosen c.args.named.now c.in_ok-closed.closed.items c.args.bytes.now
    (glyphs_of c.in_ok-font.font) e c.in_ok-closed.ensures.there (same e h))) c.kept_of.ensures.refused

pub returns-clause-there : goal.returns-clause-there
returns-clause-there c =
    if_ok c.kept_of.result (λ kept far font is.
    let same = one_view c.args.bytes.now font (view_shown c.in_ok-font.font) is c.in_ok-font.ensures.is in
    subst (λ (v : View). AreThere c.args.named.now (length v.char_strings)) same c.in_ok-closed.ensures.named) c.kept_of.ensures.there

pub returns-in_err-font-clause-refused : goal.returns-in_err-font-clause-refused
returns-in_err-font-clause-refused c =
    let error = err_from_is_err_and c.from_residual.result c.from_residual.ensures.1 in
    rw (error.1, error.2) (inl (choice-not-opened c.args.named.now c.args.bytes.now _ c.in_err-font.ensures.refused))

pub returns-in_err-closed-clause-refused : goal.returns-in_err-closed-clause-refused
returns-in_err-closed-clause-refused c =
    let error = err_from_is_err_and c.from_residual-in_err-closed.result c.from_residual-in_err-closed.ensures.1 in
    let opened : IsOpened c.args.bytes.now
    c.in_ok-font.font = record { laid = c.in_ok-font.ensures.is; there = c.in_ok-font.ensures.bytes } in
    rw (error.1, error.2) (choice-not-found c.args.named.now c.args.bytes.now c.in_ok-font.font c.args.limit _ opened
    c.in_err-closed.ensures.refused)

pub returns-clause-one : goal.returns-clause-one
returns-clause-one c = on_ok c.kept_of.result c.in_ok-font.ensures.one
