use Rattle.std.proofs.Common.{◌∙◌, ap, refl, subst, sym, ℕ, List, Some}
use Rattle.std.proofs.lemmas.Option.{slice_get-get_or, slice_get_read}
use Rattle.postscript_base.specs.Index.Lent.{items_of}
use Rattle.postscript_view.specs.Value.{view_shown, part_shown}
use Rattle.postscript_write.specs.Glyphs.{DrawsAs, code_text, run_in}
use Rattle.postscript_write.proofs.Empty.{drawn_so}
use Rattle.postscript_write.proofs.Making.{if_ok, run_refused}
use Rattle.postscript_write.proofs.Shown.{shown_part, draws_as}
use Rattle.postscript_write.proofs.glyphs.flat_code.Goals as goal

pub returns-in-Ok-clause-code : goal.returns-in-Ok-clause-code
returns-in-Ok-clause-code c =
    let items = items_of c.args.font.now.char_strings in
    let code = c.item-code.result.now in
    let part = c.index-part.result.now in
    let number = c.args.number in
    let flat : List ℕ = c.in-Ok.flat.items in
    let run = run_in (view_shown c.args.font.now) (part_shown part) code in
    if_ok c.never_empty.result (λ written is. record {
      code = code;
      part = part_shown part;
      has_code = slice_get-get_or items c.args.glyph code c.requires.glyph ∙ ap Some (sym c.item-code.ensures);
      has_part = shown_part c.args.font.now number part (slice_get_read _ _ number part refl c.requires.part c.index-part.ensures);
      faultless = rw c.indexes-subroutines.ensures at c.in-Ok.ensures.faultless;
      draws = λ lists. subst (λ (xs : List ℕ). DrawsAs lists xs run) (sym is)
          (drawn_so lists flat run (draws_as lists flat run ((rw c.indexes-subroutines.ensures at c.in-Ok.ensures.keeps) lists)));
      text = is ∙ ap code_text (rw c.indexes-subroutines.ensures at c.in-Ok.ensures.text);
    }) c.never_empty.ensures.code

pub returns-in-Err-clause-refused : goal.returns-in-Err-clause-refused
returns-in-Err-clause-refused c =
    let items = items_of c.args.font.now.char_strings in
    let code = c.item-code.result.now in
    let part = c.index-part.result.now in
    let number = c.args.number in
    run_refused (view_shown c.args.font.now) c.args.glyph number code (part_shown part) c.in-Err.cause c.refusal.result
    (slice_get-get_or items c.args.glyph code c.requires.glyph ∙ ap Some (sym c.item-code.ensures))
    (shown_part c.args.font.now number part (slice_get_read _ _ number part refl c.requires.part c.index-part.ensures))
    (rw c.indexes-subroutines.ensures at c.in-Err.ensures.refused) c.refusal.ensures
