use Rattle.std.proofs.Common.{◌<◌, ◌∙◌, ap, subst, sym, inl, List, length, ℕ, arith}
use Rattle.std.proofs.lemmas.Result.{err_from_is_err_and}
use Rattle.postscript_view.specs.Contents.{View}
use Rattle.postscript_view.specs.Value.{view_shown}
use Rattle.postscript_drawing.specs.Components.{glyphs_of}
use Rattle.postscript_write.specs.Components.{IsOpened}
use Rattle.postscript_write.specs.Readings.{HasLenientFont}
use Rattle.postscript_write.specs.Sources.{AreThere, choice_by, kept_of}
use Rattle.postscript_write.specs.Steps.{IsNotChosen, IsNotOpened}
use Rattle.postscript_write.specs.declared.error.Error.{Error}
use Rattle.postscript_write.proofs.ReadAgain.{one_view, small_so}
use Rattle.postscript_write.proofs.Making.{names_none}
use Rattle.postscript_write.proofs.Stopping.{keeps-within, search-unnamed}
use Rattle.postscript_write.proofs.Subsets.{closed-so, not-chosen, not-found, not-opened, subset-made, subset-refused}
use Rattle.postscript_base.specs.Index.Lent.{items_of}
use Rattle.postscript_write.specs.Identified.{AreSources}
use Rattle.postscript_write.specs.Making.{IsFontBy}
use Rattle.postscript_write.proofs.Sourced.{long_by, sources_by}
use Rattle.postscript_write.proofs.fonts.subset_by.Goals as goal

pub returns-clause-written : goal.returns-clause-written
returns-clause-written c =
    let font = c.in_ok-font.font in
    let opened : IsOpened c.args.bytes.now font = record { laid = c.in_ok-font.ensures.is; there = c.in_ok-font.ensures.bytes } in
    let closed = c.in_ok-closed.closed.items in
    let same = c.deref-3.ensures.value ∙ c.in_ok-sources.ensures.sources
    ∙ ap (λ n. choice_by c.args.retain_gids c.deref-2.result.now n) c.len-2.ensures
    ∙ ap (λ xs. choice_by c.args.retain_gids xs (glyphs_of font)) c.deref-2.ensures.value in
    subset-made (IsFontBy c.args.retain_gids)
    (choice_by c.args.retain_gids) font c.args.bytes.now c.args.named.now closed c.in_ok-flat.flat.items c.deref-3.result.now opened
    (closed-so c.args.bytes.now c.args.named.now closed font opened c.in_ok-closed.ensures.closed) same c.in_ok-flat.ensures.font

pub returns-clause-kept : goal.returns-clause-kept
returns-clause-kept c =
    let font = c.in_ok-font.font in
    let opened : IsOpened c.args.bytes.now font = record { laid = c.in_ok-font.ensures.is; there = c.in_ok-font.ensures.bytes } in
    record {
      closed = c.in_ok-closed.closed.items;
      are = record { font = font; opened = opened; all = c.in_ok-closed.ensures.closed };
      all = c.in_ok-kept.ensures.kept ∙ ap (λ n. kept_of c.deref.result.now n) c.len.ensures
          ∙ ap (λ xs. kept_of xs (glyphs_of font)) c.deref.ensures.value;
    }

pub returns-clause-within : goal.returns-clause-within
returns-clause-within c =
    let opened : IsOpened c.args.bytes.now c.in_ok-font.font =
    record { laid = c.in_ok-font.ensures.is; there = c.in_ok-font.ensures.bytes } in
    keeps-within c.args.limit c.in_ok-font.font c.args.bytes.now c.args.named.now opened c.in_ok-closed.ensures.shared

pub returns-in_err-flat-clause-refused : goal.returns-in_err-flat-clause-refused
returns-in_err-flat-clause-refused c =
    let font = c.in_ok-font.font in
    let opened : IsOpened c.args.bytes.now font = record { laid = c.in_ok-font.ensures.is; there = c.in_ok-font.ensures.bytes } in
    let closed = c.in_ok-closed.closed.items in
    let same = c.deref-3.ensures.value ∙ c.in_ok-sources.ensures.sources
    ∙ ap (λ n. choice_by c.args.retain_gids c.deref-2.result.now n) c.len-2.ensures
    ∙ ap (λ xs. choice_by c.args.retain_gids xs (glyphs_of font)) c.deref-2.ensures.value in
    let error = err_from_is_err_and c.from_residual-in_err-flat.result c.from_residual-in_err-flat.ensures.1 in
    rw (error.1, error.2) (inl (subset-refused (choice_by c.args.retain_gids) font c.args.bytes.now c.args.named.now closed
    c.deref-3.result.now _ opened (closed-so c.args.bytes.now c.args.named.now closed font opened c.in_ok-closed.ensures.closed) same
    c.in_err-flat.ensures.refused))

pub returns-in_err-flat-clause-names : goal.returns-in_err-flat-clause-names
returns-in_err-flat-clause-names c =
    let error = err_from_is_err_and c.from_residual-in_err-flat.result c.from_residual-in_err-flat.ensures.1 in
    rw (error.1, error.2) c.in_err-flat.ensures.names

pub returns-clause-there : goal.returns-clause-there
returns-clause-there c = λ font is.
    let same = one_view c.args.bytes.now font (view_shown c.in_ok-font.font) is c.in_ok-font.ensures.is in
    subst (λ (v : View). AreThere c.args.named.now (length v.char_strings)) same c.in_ok-closed.ensures.named

pub returns-in_err-font-clause-refused : goal.returns-in_err-font-clause-refused
returns-in_err-font-clause-refused c =
    let error = err_from_is_err_and c.from_residual.result c.from_residual.ensures.1 in
    rw (error.1, error.2) (inl (not-opened c.args.named.now (choice_by c.args.retain_gids) c.args.bytes.now _ c.in_err-font.ensures.refused))

pub returns-in_err-closed-clause-refused : goal.returns-in_err-closed-clause-refused
returns-in_err-closed-clause-refused c =
    let error = err_from_is_err_and c.from_residual-in_err-closed.result c.from_residual-in_err-closed.ensures.1 in
    let opened : IsOpened c.args.bytes.now
    c.in_ok-font.font = record { laid = c.in_ok-font.ensures.is; there = c.in_ok-font.ensures.bytes } in
    rw (error.1, error.2) (not-found c.args.named.now
    (choice_by c.args.retain_gids) c.args.bytes.now c.in_ok-font.font c.args.limit _ opened c.in_err-closed.ensures.refused)

pub returns-in_err-kept-clause-refused : goal.returns-in_err-kept-clause-refused
returns-in_err-kept-clause-refused c =
    let error = err_from_is_err_and c.from_residual-in_err-kept.result c.from_residual-in_err-kept.ensures.1 in
    let same : (e : Error) → IsNotChosen c.deref.result.now c.len.result e → IsNotChosen c.in_ok-closed.closed.items
    (glyphs_of c.in_ok-font.font) e = λ e h. subst (λ (xs : List ℕ). IsNotChosen xs (glyphs_of c.in_ok-font.font) e) c.deref.ensures.value
    (subst (λ (n : ℕ). IsNotChosen c.deref.result.now n e) c.len.ensures h) in
    rw (error.1, error.2) (inl (not-chosen c.args.named.now c.in_ok-closed.closed.items (choice_by c.args.retain_gids) c.args.bytes.now
    (glyphs_of c.in_ok-font.font) _ c.in_ok-closed.ensures.there (same _ c.in_err-kept.ensures.refused)))

pub returns-in_err-sources-clause-refused : goal.returns-in_err-sources-clause-refused
returns-in_err-sources-clause-refused c =
    let error = err_from_is_err_and c.from_residual-in_err-sources.result c.from_residual-in_err-sources.ensures.1 in
    let same : (e : Error) → IsNotChosen c.deref-2.result.now c.len-2.result e → IsNotChosen c.in_ok-closed.closed.items
    (glyphs_of c.in_ok-font.font) e = λ e h. subst (λ (xs : List ℕ). IsNotChosen xs (glyphs_of c.in_ok-font.font) e) c.deref-2.ensures.value
    (subst (λ (n : ℕ). IsNotChosen c.deref-2.result.now n e) c.len-2.ensures h) in
    rw (error.1, error.2) (inl (not-chosen c.args.named.now c.in_ok-closed.closed.items (choice_by c.args.retain_gids) c.args.bytes.now
    (glyphs_of c.in_ok-font.font) _ c.in_ok-closed.ensures.there (same _ c.in_err-sources.ensures.refused)))

pub returns-clause-lenient : goal.returns-clause-lenient
returns-clause-lenient c =
    subst (λ (bs : List ℕ). HasLenientFont bs → HasLenientFont c.in_ok-flat.flat.items) c.in_ok-font.ensures.bytes c.in_ok-flat.ensures.lenient

pub font_of-requires-clause-few : goal.font_of-requires-clause-few
font_of-requires-clause-few c =
    let is = c.deref-3.ensures.value ∙ c.in_ok-sources.ensures.sources in
    let few = c.in_ok-font.ensures.few in
    omega (arith, ap length is, long_by c.args.retain_gids c.deref-2.result.now c.len-2.result, c.len-2.ensures, few)

pub font_of-requires-clause-sources : goal.font_of-requires-clause-sources
font_of-requires-clause-sources c =
    let glyphs = length (items_of c.in_ok-font.font.char_strings) in
    let is = c.deref-3.ensures.value ∙ c.in_ok-sources.ensures.sources
    ∙ ap (λ n. choice_by c.args.retain_gids c.deref-2.result.now n) c.len-2.ensures in
    let named : 0 < length c.args.named.now = omega (arith, c.if-named-eq0.false) in
    let there = c.in_ok-closed.ensures.named 0 named in
    subst (AreSources c.args.retain_gids glyphs) (sym is) (sources_by c.args.retain_gids c.deref-2.result.now glyphs (omega (arith, there)))

pub returns-clause-small : goal.returns-clause-small
returns-clause-small c =
    small_so c.in_ok-font.font c.args.bytes.now c.in_ok-flat.flat.items c.in_ok-font.ensures.is c.in_ok-font.ensures.bytes
    c.in_ok-flat.ensures.small

pub returns-in_err-font-clause-names : goal.returns-in_err-font-clause-names
returns-in_err-font-clause-names c =
    let error = err_from_is_err_and c.from_residual.result c.from_residual.ensures.1 in
    rw (error.1, error.2) (λ kept. names_none (IsNotOpened c.args.bytes.now) (λ glyph h. h) _ c.in_err-font.ensures.refused)

pub returns-in_err-closed-clause-names : goal.returns-in_err-closed-clause-names
returns-in_err-closed-clause-names c =
    let error = err_from_is_err_and c.from_residual-in_err-closed.result c.from_residual-in_err-closed.ensures.1 in
    rw (error.1, error.2) (λ kept. search-unnamed c.in_ok-font.font c.args.named.now c.args.limit _ c.in_err-closed.ensures.refused)

pub returns-in_err-kept-clause-names : goal.returns-in_err-kept-clause-names
returns-in_err-kept-clause-names c =
    let error = err_from_is_err_and c.from_residual-in_err-kept.result c.from_residual-in_err-kept.ensures.1 in
    rw (error.1, error.2) (λ kept. names_none (IsNotChosen c.deref.result.now c.len.result) (λ glyph h. h) _ c.in_err-kept.ensures.refused)

pub returns-in_err-sources-clause-names : goal.returns-in_err-sources-clause-names
returns-in_err-sources-clause-names c =
    let error = err_from_is_err_and c.from_residual-in_err-sources.result c.from_residual-in_err-sources.ensures.1 in
    rw (error.1, error.2) (λ kept. names_none (IsNotChosen c.deref-2.result.now c.len-2.result) (λ glyph h. h) _ c.in_err-sources.ensures.refused)
