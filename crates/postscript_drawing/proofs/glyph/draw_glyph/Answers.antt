use Rattle.std.proofs.Common.{◌++◌, Err, Option, ap, inl, inr, rules, subst}
use Rattle.postscript_drawing.specs.Drawn.{HasOwn, zero_point}
use Rattle.postscript_drawing.specs.Spending.{PaysOwn}
use Rattle.postscript_drawing.specs.declared.accent.Accent.{Accent}
use Rattle.postscript_drawing.proofs.Filling.{received-before}
use Rattle.postscript_drawing.proofs.GlyphSpending.{not-too-long, spends-both, spends-more, suffices-then}
use Rattle.postscript_drawing.proofs.Owns.{accented-front, components-refused, draws-accented, draws-plain, passed-on}
use Rattle.postscript_outline.proofs.Receiving.{received-both}
use Rattle.postscript_drawing.proofs.ProgramLaws.{full-so, on-err}
use Rattle.postscript_drawing.proofs.glyph.draw_glyph.Goals as goal

pub returns-in_err-width-clause-spends : goal.returns-in_err-width-clause-spends
returns-in_err-width-clause-spends g c =
    let left = c.draw_own.new.limit in
    spends-more c.args.font.now 2 c.args.limit.now left (spends-more c.args.font.now 1 c.args.limit.now left c.draw_own.ensures.spends)

pub returns-in-None-clause-spends : goal.returns-in-None-clause-spends
returns-in-None-clause-spends g c =
    let left = c.draw_own.new.limit in
    spends-more c.args.font.now 2 c.args.limit.now left (spends-more c.args.font.now 1 c.args.limit.now left c.draw_own.ensures.spends)

pub returns-in_err-draw_components-in-Some-clause-spends : goal.returns-in_err-draw_components-in-Some-clause-spends
returns-in_err-draw_components-in-Some-clause-spends g c =
    spends-both c.args.font.now 2 c.args.limit.now c.draw_own.new.limit c.draw_components.new.limit c.draw_own.ensures.spends
    c.draw_components.ensures.spends

pub returns-in_ok-draw_components-in-Some-clause-spends : goal.returns-in_ok-draw_components-in-Some-clause-spends
returns-in_ok-draw_components-in-Some-clause-spends g c =
    spends-both c.args.font.now 2 c.args.limit.now c.draw_own.new.limit c.draw_components.new.limit c.draw_own.ensures.spends
    c.draw_components.ensures.spends

pub returns-in-None-clause-drawn : goal.returns-in-None-clause-drawn
returns-in-None-clause-drawn g c =
    let own = c.in_ok-width.ensures.own in
    let width = c.in_ok-width.field-0.width in
    let P : Option Accent → Type 0 = λ accent. HasOwn c.args.font.now c.args.glyph zero_point own.0 width accent in
    (own.0, draws-plain c.args.font.now c.args.glyph own.0 width (subst P c.in-None.is own.1), own.2)

pub returns-in_ok-draw_components-in-Some-clause-drawn : goal.returns-in_ok-draw_components-in-Some-clause-drawn
returns-in_ok-draw_components-in-Some-clause-drawn g c =
    let own = c.in_ok-width.ensures.own in
    let width = c.in_ok-width.field-0.width in
    let more = c.in_ok-draw_components-in-Some.ensures.drawn in
    let P : Option Accent → Type 0 = λ accent. HasOwn c.args.font.now c.args.glyph zero_point own.0 width accent in
    let has = subst P c.in-Some.is own.1 in (
      own.0 ++ more.0,
      draws-accented c.args.font.now c.args.glyph own.0 more.0 width c.in-Some.accent has more.1,
      received-both g.S.Sink.after _ _ _ own.0 more.0 own.2 more.2,
    )

pub returns-in_err-draw_components-in-Some-clause-why : goal.returns-in_err-draw_components-in-Some-clause-why
returns-in_err-draw_components-in-Some-clause-why g c =
    let own = c.in_ok-width.ensures.own in
    let width = c.in_ok-width.field-0.width in
    let e = c.in_err-draw_components-in-Some.field-0.0 in
    let P : Option Accent → Type 0 = λ accent. HasOwn c.args.font.now c.args.glyph zero_point own.0 width accent in
    let has = subst P c.in-Some.is own.1 in
    passed-on c.from_residual-in_err-draw_components-in-Some.result e _ c.from_residual-in_err-draw_components-in-Some.ensures.1
    (components-refused c.draw_components.new.limit c.args.font.now c.args.glyph zero_point own.0 width c.in-Some.accent e has
    c.in_err-draw_components-in-Some.ensures.why)

pub returns-in_err-draw_components-in-Some-clause-front : goal.returns-in_err-draw_components-in-Some-clause-front
returns-in_err-draw_components-in-Some-clause-front g c =
    let own = c.in_ok-width.ensures.own in
    let width = c.in_ok-width.field-0.width in
    let P : Option Accent → Type 0 = λ accent. HasOwn c.args.font.now c.args.glyph zero_point own.0 width accent in
    on-err c.from_residual-in_err-draw_components-in-Some.result
    (accented-front c.args.font.now c.args.glyph own.0 width c.in-Some.accent
    (subst P c.in-Some.is own.1) own.2 c.in_err-draw_components-in-Some.ensures.front)

pub returns-in_err-width-clause-more : goal.returns-in_err-width-clause-more
returns-in_err-width-clause-more g c = λ full.
    inl (c.in_err-width.ensures.more (ap Err (full-so c.from_residual.result c.in_err-width.field-0.0 c.from_residual.ensures.1 full)))

pub returns-in_err-draw_components-in-Some-clause-more : goal.returns-in_err-draw_components-in-Some-clause-more
returns-in_err-draw_components-in-Some-clause-more g c = λ full.
    let own = c.in_ok-width.ensures.own in
    let width = c.in_ok-width.field-0.width in
    let P : Option Accent → Type 0 = λ accent. HasOwn c.args.font.now c.args.glyph zero_point own.0 width accent in
    let back = c.from_residual-in_err-draw_components-in-Some in
    accented-front c.args.font.now c.args.glyph own.0 width c.in-Some.accent (subst P c.in-Some.is own.1)
    (received-before g.S.Sink.after _ _ own.0 own.2)
    (c.in_err-draw_components-in-Some.ensures.more (ap Err (full-so back.result c.in_err-draw_components-in-Some.field-0.0 back.ensures.1
    full)))

pub returns-in-None-clause-paid : goal.returns-in-None-clause-paid
returns-in-None-clause-paid g c =
    let P : Option Accent → Type 0 = λ accent. PaysOwn c.args.font.now c.args.glyph accent c.args.limit.now c.draw_own.new.limit in
    inl (subst P c.in-None.is c.in_ok-width.ensures.paid)

pub returns-in_ok-draw_components-in-Some-clause-paid : goal.returns-in_ok-draw_components-in-Some-clause-paid
returns-in_ok-draw_components-in-Some-clause-paid g c =
    let P : Option Accent → Type 0 = λ accent. PaysOwn c.args.font.now c.args.glyph accent c.args.limit.now c.draw_own.new.limit in
    inr (
      c.in-Some.accent,
      c.draw_own.new.limit,
      subst P c.in-Some.is c.in_ok-width.ensures.paid,
      c.in_ok-draw_components-in-Some.ensures.paid,
    )

pub returns-in_err-draw_components-in-Some-clause-named : goal.returns-in_err-draw_components-in-Some-clause-named
returns-in_err-draw_components-in-Some-clause-named g c =
    let P : Option Accent → Type 0 = λ accent. PaysOwn c.args.font.now c.args.glyph accent c.args.limit.now c.draw_own.new.limit in
    inr (c.in-Some.accent, c.draw_own.new.limit, subst P c.in-Some.is c.in_ok-width.ensures.paid, c.draw_components.ensures.named)

pub returns-in_ok-draw_components-in-Some-clause-named : goal.returns-in_ok-draw_components-in-Some-clause-named
returns-in_ok-draw_components-in-Some-clause-named g c =
    let P : Option Accent → Type 0 = λ accent. PaysOwn c.args.font.now c.args.glyph accent c.args.limit.now c.draw_own.new.limit in
    inr (c.in-Some.accent, c.draw_own.new.limit, subst P c.in-Some.is c.in_ok-width.ensures.paid, c.draw_components.ensures.named)

pub returns-in_err-draw_components-in-Some-clause-suffices : goal.returns-in_err-draw_components-in-Some-clause-suffices
returns-in_err-draw_components-in-Some-clause-suffices g c = λ suffices.
    let P : Option Accent → Type 0 = λ accent. PaysOwn c.args.font.now c.args.glyph accent c.args.limit.now c.draw_own.new.limit in
    let pays = subst P c.in-Some.is c.in_ok-width.ensures.paid in
    not-too-long c.from_residual-in_err-draw_components-in-Some.result c.in_err-draw_components-in-Some.field-0.0 c.draw_components.result
    (search rules) c.from_residual-in_err-draw_components-in-Some.ensures.1
    (c.draw_components.ensures.suffices (suffices-then c.args.font.now c.args.glyph c.in-Some.accent c.args.limit.now
    c.draw_own.new.limit suffices pays))
