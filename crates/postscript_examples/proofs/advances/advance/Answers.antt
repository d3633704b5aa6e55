use Rattle.std.proofs.Common.{◌≡◌, ℕ, List, Some, ltb-true, sym, ap, ◌∙◌, slice_get}
use Rattle.std.specs.Option.{option_copied}
use Rattle.postscript_base.specs.Compact1.Dictionary.{Dictionary}
use Rattle.postscript_compact1.specs.Index.{Index}
use Rattle.postscript_compact1.specs.FontSet.Value.{font_shown}
use Rattle.postscript_type2.specs.Program.Evaluation.{run_of}
use Rattle.postscript_type2.specs.Program.Routines.{subroutines}
use Rattle.postscript_examples.specs.Advances.{HasGlyph}
use Rattle.postscript_examples.specs.Glyphs.{lists}
use Rattle.postscript_examples.proofs.FontLists.{item_is, items_at, runs_alike, stands}
use Rattle.postscript_examples.proofs.advances.advance.Goals as goal

pub returns : goal.returns
returns c =
    let found = c.in-Some-Some-Some in
    let font = font_shown c.args.font.now in
    let global_are = c.data.ensures ∙ ap (λ index. index.items) c.deref-5.ensures in
    let item_of : (codes : Index) → slice_get font.char_strings c.args.dictionary ≡ Some codes → Some c.in-Some.code.now ≡ slice_get
    codes.items c.args.glyph =
    λ codes has. ap option_copied (sym c.in-Some.is) ∙ c.item.ensures
    ∙ ap (λ xs. slice_get xs c.args.glyph)
    (ap (λ index. index.items) c.deref-4.ensures
    ∙ items_at _ _ c.args.dictionary codes found.codes.now c.deref.ensures.value has found.ensures.lookup.1) in
    let codes_there = stands _ _ c.args.dictionary found.codes.now c.deref.ensures.value (ltb-true _ _ (sym found.ensures.lookup.0)) in
    let local_there = stands _ _ c.args.dictionary found.local.now c.deref-2.ensures.value (ltb-true _ _ (sym found.ensures'.lookup.0)) in
    let private_there = stands _ _ c.args.dictionary found.private.now c.deref-3.ensures.value
    (ltb-true _ _ (sym found.ensures''.lookup.0)) in
    let same : (code : List ℕ) (local : Index) (private : Dictionary) → HasGlyph font c.args.dictionary c.args.glyph code local private →
    (run_of (subroutines c.data.result.now c.data-2.result.now) c.in-Some.code.now ≡ run_of
    (lists font.global_subroutines local) code) × (found.private.now ≡ private) =
    λ code local private has.
    let local_are = c.data-2.ensures ∙ ap (λ index. index.items) c.deref-6.ensures
    ∙ items_at _ _ c.args.dictionary local found.local.now c.deref-2.ensures.value has.glyphs.1 found.ensures'.lookup.1 in
    let code_is : Some c.in-Some.code.now ≡ Some code = item_of has.codes has.glyphs.0 ∙ has.item in
    let code_same : c.in-Some.code.now ≡ code = cc in (
      runs_alike c.in-Some.code.now code c.data.result.now c.data-2.result.now font.global_subroutines local code_same global_are
          local_are,
      item_is _ _ c.args.dictionary private found.private.now c.deref-3.ensures.value has.dictionaries found.ensures''.lookup.1,
    ) in
    record {
      advance = λ code local private has. let s = same code local private has in rw (sym s.0, sym s.1) c.advance_over.ensures.advance;
      refused = λ code local private has. let s = same code local private has in rw (sym s.0) c.advance_over.ensures.refused;
      absent = λ none. absurd (none _ _ _
          (record { codes = _; glyphs = (codes_there, local_there); dictionaries = private_there; item = sym (item_of _ codes_there) }));
    }
