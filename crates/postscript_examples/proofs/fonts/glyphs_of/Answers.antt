use Rattle.std.proofs.Common.{◌≡◌, Some, inl, inr, ltb-true, slice_get, ap, sym, ◌∙◌}
use Rattle.postscript_compact1.specs.Index.{Index}
use Rattle.postscript_compact1.specs.FontSet.Value.{font_shown}
use Rattle.postscript_type2.specs.Program.Routines.{subroutines, texts}
use Rattle.postscript_examples.specs.Glyphs.{first_refused_by, lists, HasGlyphs}
use Rattle.postscript_examples.proofs.FontLists.{items_at, by_items, refused_alike, there}
use Rattle.postscript_examples.proofs.fonts.glyphs_of.Goals as goal

pub returns : goal.returns
returns c =
    let found = c.in-Some-Some in
    let font = font_shown c.args.font.now in
    let global_are = c.data-2.ensures ∙ ap (λ index. index.items) c.deref-4.ensures in
    let codes_are : (codes : Index) → slice_get font.char_strings c.args.dictionary ≡ Some codes → texts c.data.result.now ≡ codes.items =
    λ codes has. c.data.ensures ∙ ap (λ index. index.items) c.deref-3.ensures
    ∙ items_at _ _ c.args.dictionary codes found.codes.now c.deref.ensures.value has found.ensures.lookup.1 in
    let local_are : (local : Index) → slice_get font.local_subroutines c.args.dictionary ≡ Some local → texts
    c.data-3.result.now ≡ local.items =
    λ local has. c.data-3.ensures ∙ ap (λ index. index.items) c.deref-5.ensures
    ∙ items_at _ _ c.args.dictionary local found.local.now c.deref-2.ensures.value has found.ensures'.lookup.1 in
    let alike : (codes local : Index) → HasGlyphs font c.args.dictionary codes local → first_refused_by
    (subroutines c.data-2.result.now c.data-3.result.now) (texts c.data.result.now) ≡ first_refused_by
    (lists font.global_subroutines local) codes.items =
    λ codes local has. refused_alike c.data.result.now c.data-2.result.now c.data-3.result.now codes font.global_subroutines local
    (codes_are codes has.0) global_are (local_are local has.1) in
    record {
      drawn = λ codes local has. rw
          (sym (by_items c.data.result.now c.data-2.result.now c.data-3.result.now codes font.global_subroutines local
          (codes_are codes has.0) global_are (local_are local has.1))) c.each_glyph.ensures.drawn;
      faultless = λ codes local has. rw (sym (alike codes local has)) c.each_glyph.ensures.faultless;
      refused = λ codes local has. rw (sym (alike codes local has)) c.each_glyph.ensures.refused;
      absent = λ missing. absurd (elim missing [
        | inl none ↦ there _ _ c.args.dictionary found.codes.now c.deref.ensures.value (ltb-true _ _ (sym found.ensures.lookup.0)) none
        | inr none ↦ there _ _ c.args.dictionary found.local.now c.deref-2.ensures.value (ltb-true _ _ (sym found.ensures'.lookup.0)) none
      ]);
    }
