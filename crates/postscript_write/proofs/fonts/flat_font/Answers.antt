use Rattle.std.proofs.Common.{refl, sym, ◌≡◌, ◌∙◌, ap, subst, List, length, arith}
use Rattle.std.specs.Prelude.{IfOk, Option, ℕ}
use Rattle.postscript_view.specs.Value.{view_shown}
use Rattle.postscript_write.specs.Making.{IsKeptFont}
use Rattle.postscript_write.specs.Readings.{HasLenientFont}
use Rattle.postscript_write.specs.Refusals.{FontRefusedBy}
use Rattle.postscript_write.specs.Steps.{IsNotOpened}
use Rattle.postscript_write.specs.Sources.{every}
use Rattle.std.proofs.lemmas.Result.{err_from_is_err_and}
use Rattle.postscript_write.proofs.ReadAgain.{small_so}
use Rattle.postscript_write.proofs.Drawings.{flat-drawn}
use Rattle.postscript_write.proofs.SameGlyphs.{flat-same}
use Rattle.postscript_write.proofs.Making.{if_err, if_ok, is_refused, memory_bytes, names_none, not_opened, on_ok}
use Rattle.postscript_base.specs.Index.Lent.{items_of}
use Rattle.postscript_write.specs.Identified.{KeepNumbers}
use Rattle.postscript_write.proofs.Sourced.{every_kept, every_long}
use Rattle.postscript_write.proofs.fonts.flat_font.Goals as goal

pub returns-clause-written : goal.returns-clause-written
returns-clause-written c =
    let old = view_shown c.in_ok-font.font in
    let bytes = c.in_ok-font.ensures.bytes in
    let are : c.deref.result.now ≡ every (length old.char_strings) = c.deref.ensures.value ∙ c.in_ok-sources.ensures.sources
    ∙ ap (λ n. every n) c.len.ensures in
    if_ok c.font_of.result (λ flat made. record {
      old = old;
      new = made.0;
      was = c.in_ok-font.ensures.is;
      is = made.1;
      made = subst (λ (s : List (Option ℕ)). IsKeptFont s c.args.bytes.now old flat.items made.0) are
          (subst (λ (bs : List ℕ). IsKeptFont c.deref.result.now bs old flat.items made.0) bytes made.2);
    }) c.font_of.ensures.font

pub returns-clause-refused : goal.returns-clause-refused
returns-clause-refused c =
    let old = view_shown c.in_ok-font.font in
    let bytes = c.in_ok-font.ensures.bytes in
    let are : c.deref.result.now ≡ every (length old.char_strings) = c.deref.ensures.value ∙ c.in_ok-sources.ensures.sources
    ∙ ap (λ n. every n) c.len.ensures in
    if_err c.font_of.result (λ e h.
    is_refused every c.args.bytes.now old e c.in_ok-font.ensures.is
    (subst (λ (s : List (Option ℕ)). FontRefusedBy c.args.bytes.now old s e) are
    (subst (λ (bs : List ℕ). FontRefusedBy bs old c.deref.result.now e) bytes h))) c.font_of.ensures.refused

pub returns-in_err-font-clause-refused : goal.returns-in_err-font-clause-refused
returns-in_err-font-clause-refused c =
    let error = err_from_is_err_and c.from_residual.result c.from_residual.ensures.1 in
    rw (error.1, error.2) (not_opened every c.args.bytes.now _ c.in_err-font.ensures.refused)

pub returns-in_err-sources-clause-refused : goal.returns-in_err-sources-clause-refused
returns-in_err-sources-clause-refused c =
    let error = err_from_is_err_and c.from_residual-in_err-sources.result c.from_residual-in_err-sources.ensures.1 in
    rw (error.1, error.2) (memory_bytes every c.args.bytes.now _ c.in_err-sources.ensures.memory)

pub returns-clause-drawn : goal.returns-clause-drawn
returns-clause-drawn c = flat-drawn c.font_of.result c.args.bytes.now (returns-clause-written c)

pub returns-clause-lenient : goal.returns-clause-lenient
returns-clause-lenient c =
    subst (λ (bs : List ℕ). IfOk c.font_of.result (λ flat. HasLenientFont bs → HasLenientFont flat.items)) c.in_ok-font.ensures.bytes
    c.font_of.ensures.lenient

pub font_of-requires-clause-few : goal.font_of-requires-clause-few
font_of-requires-clause-few c =
    let is = c.deref.ensures.value ∙ c.in_ok-sources.ensures.sources in
    let few = c.in_ok-font.ensures.few in
    omega (arith, ap length is, every_long c.len.result, c.len.ensures, few)

pub font_of-requires-clause-sources : goal.font_of-requires-clause-sources
font_of-requires-clause-sources c =
    let glyphs = length (items_of c.in_ok-font.font.char_strings) in
    let is = c.deref.ensures.value ∙ c.in_ok-sources.ensures.sources ∙ ap (λ n. every n) c.len.ensures in
    subst (λ (s : List (Option ℕ)). KeepNumbers s glyphs) (sym is) (every_kept glyphs)

pub returns-clause-one : goal.returns-clause-one
returns-clause-one c = on_ok c.font_of.result c.in_ok-font.ensures.one

pub returns-clause-small : goal.returns-clause-small
returns-clause-small c =
    if_ok c.font_of.result (λ flat small. small_so c.in_ok-font.font c.args.bytes.now flat.items c.in_ok-font.ensures.is
    c.in_ok-font.ensures.bytes small)
    c.font_of.ensures.small

pub returns-clause-same : goal.returns-clause-same
returns-clause-same c = flat-same c.font_of.result c.args.bytes.now (returns-clause-written c)

pub returns-in_err-font-clause-names : goal.returns-in_err-font-clause-names
returns-in_err-font-clause-names c =
    let error = err_from_is_err_and c.from_residual.result c.from_residual.ensures.1 in
    rw (error.1, error.2) (names_none (IsNotOpened c.args.bytes.now) (λ glyph h. h) _ c.in_err-font.ensures.refused)

pub returns-clause-names : goal.returns-clause-names
returns-clause-names c = if_err c.font_of.result (λ e names. names refl) c.font_of.ensures.names
