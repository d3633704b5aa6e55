use Rattle.std.proofs.Common.{Err, Option, ap, inr, rules, refl, subst}
use Rattle.postscript_drawing.specs.Drawn.{HasOwn}
use Rattle.postscript_drawing.specs.Spending.{PaysOwn}
use Rattle.postscript_drawing.specs.declared.accent.Accent.{Accent}
use Rattle.postscript_drawing.proofs.GlyphSpending.{code-spends, not-too-long, nothing-spent}
use Rattle.postscript_drawing.proofs.Owns.{component-front, component-undrawn, draws-component, is-nested, own-whole, passed-on}
use Rattle.postscript_drawing.proofs.ProgramLaws.{full-so, on-err}
use Rattle.postscript_drawing.proofs.glyph.draw_component.Goals as goal

pub returns-in_err-glyph-clause-spends : goal.returns-in_err-glyph-clause-spends
returns-in_err-glyph-clause-spends g c = nothing-spent c.args.font.now 0 c.args.limit.now

pub returns-in_err-own-clause-why : goal.returns-in_err-own-clause-why
returns-in_err-own-clause-why g c =
    let e = c.in_err-own.field-0.0 in
    passed-on c.from_residual-in_err-own.result e _ c.from_residual-in_err-own.ensures.1
    (component-undrawn c.draw_own.new.limit c.args.font.now c.args.code c.in_ok-glyph.glyph c.args.origin e c.in_ok-glyph.ensures.found
    c.in_err-own.ensures.why)

pub returns-in-None-clause-drawn : goal.returns-in-None-clause-drawn
returns-in-None-clause-drawn g c =
    let own = c.in_ok-own.ensures.own in
    let width = c.in_ok-own.own.width in
    let P : Option Accent → Type 0 = λ accent. HasOwn c.args.font.now c.in_ok-glyph.glyph c.args.origin own.0 width accent in (
      own.0,
      draws-component c.args.font.now c.args.code c.in_ok-glyph.glyph c.args.origin own.0 width c.in_ok-glyph.ensures.found
          (subst P c.in-None.is own.1),
      own.2,
    )

pub returns-in-Some-clause-why : goal.returns-in-Some-clause-why
returns-in-Some-clause-why g c =
    let own = c.in_ok-own.ensures.own in
    let width = c.in_ok-own.own.width in
    let P : Option Accent → Type 0 = λ accent. HasOwn c.args.font.now c.in_ok-glyph.glyph c.args.origin own.0 width accent in
    inr (inr (inr (
      refl,
      is-nested c.args.font.now c.args.code c.in_ok-glyph.glyph c.args.origin own.0 width c.in-Some.field-0
          c.in_ok-glyph.ensures.found (subst P c.in-Some.is own.1),
    )))

pub returns-in_err-own-clause-front : goal.returns-in_err-own-clause-front
returns-in_err-own-clause-front g c =
    on-err c.from_residual-in_err-own.result
    (component-front c.args.font.now c.args.code c.in_ok-glyph.glyph c.args.origin c.in_ok-glyph.ensures.found c.in_err-own.ensures.front)

pub returns-in_err-own-clause-more : goal.returns-in_err-own-clause-more
returns-in_err-own-clause-more g c = λ full.
    component-front c.args.font.now c.args.code c.in_ok-glyph.glyph c.args.origin c.in_ok-glyph.ensures.found
    (c.in_err-own.ensures.more (ap Err (full-so c.from_residual-in_err-own.result c.in_err-own.field-0.0
    c.from_residual-in_err-own.ensures.1 full)))

pub returns-in-Some-clause-front : goal.returns-in-Some-clause-front
returns-in-Some-clause-front g c =
    let own = c.in_ok-own.ensures.own in
    inr (
      c.in_ok-glyph.glyph,
      c.in_ok-glyph.ensures.found,
      own-whole c.args.font.now c.in_ok-glyph.glyph c.args.origin own.0 c.in_ok-own.own.width c.in_ok-own.own.accent own.1 own.2,
    )

pub returns-in-None-clause-paid : goal.returns-in-None-clause-paid
returns-in-None-clause-paid g c =
    let P : Option Accent → Type 0 = λ accent. PaysOwn c.args.font.now c.in_ok-glyph.glyph accent c.args.limit.now c.draw_own.new.limit in
    (c.in_ok-glyph.glyph, c.in_ok-glyph.ensures.found, subst P c.in-None.is c.in_ok-own.ensures.paid)

pub returns-in_err-own-clause-suffices : goal.returns-in_err-own-clause-suffices
returns-in_err-own-clause-suffices g c = λ suffices.
    not-too-long c.from_residual-in_err-own.result c.in_err-own.field-0.0 c.draw_own.result (search rules) c.from_residual-in_err-own.ensures.1
    (c.draw_own.ensures.suffices (suffices c.in_ok-glyph.glyph c.in_ok-glyph.ensures.found))

pub returns-in-None-clause-named : goal.returns-in-None-clause-named
returns-in-None-clause-named g c =
    code-spends c.args.font.now c.args.code c.in_ok-glyph.glyph c.args.limit.now c.draw_own.new.limit c.in_ok-glyph.ensures.found
    c.draw_own.ensures.named

pub returns-in-Some-clause-named : goal.returns-in-Some-clause-named
returns-in-Some-clause-named g c =
    code-spends c.args.font.now c.args.code c.in_ok-glyph.glyph c.args.limit.now c.draw_own.new.limit c.in_ok-glyph.ensures.found
    c.draw_own.ensures.named
