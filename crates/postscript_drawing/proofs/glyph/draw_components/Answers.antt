use Rattle.std.proofs.Common.{Err, ap, false, inl, inr, subst, true}
use Rattle.std.specs.Prelude.{IfErr, OnErr, OnOk, ◌⊎◌}
use Rattle.postscript_outline.specs.declared.point.Point.{Point}
use Rattle.postscript_drawing.specs.DrawnProgram.{IsWanting}
use Rattle.postscript_drawing.specs.Drawn.{DrawsComponent, Takes}
use Rattle.postscript_drawing.specs.Given.{GivesComponent}
use Rattle.postscript_drawing.specs.Outcome.{OrFull}
use Rattle.postscript_drawing.specs.Refused.{IsComponentRefused}
use Rattle.postscript_drawing.proofs.Filling.{received-before}
use Rattle.postscript_drawing.proofs.GlyphSpending.{pays-both, spends-both, spends-more, suffices-behind}
use Rattle.postscript_drawing.proofs.Owns.{accent-front, accent-refused, draws-both}
use Rattle.postscript_drawing.proofs.ProgramLaws.{full-so, on-err}
use Rattle.postscript_drawing.proofs.glyph.draw_components.Goals as goal

pub returns-in_err-draw_component-clause-spends : goal.returns-in_err-draw_component-clause-spends
returns-in_err-draw_component-clause-spends g c =
    spends-more c.args.font.now 1 c.args.limit.now c.draw_component.new.limit c.draw_component.ensures.spends

pub returns-clause-drawn : goal.returns-clause-drawn
returns-clause-drawn g c =
    let font = c.args.font.now in
    let accent = c.args.accent.now in
    let P : Point → Type 0 = λ origin. OnOk c.draw_component-2.result
    (Takes g.S.Sink.after (g.S.Sink.state c.draw_component.new.sink) (g.S.Sink.state c.draw_component-2.new.sink)
    (DrawsComponent font accent.accent origin)) in
    draws-both g.S.Sink.after (g.S.Sink.state c.args.sink.now) (g.S.Sink.state c.draw_component.new.sink)
    (g.S.Sink.state c.draw_component-2.new.sink) c.draw_component-2.result font accent c.in_ok-draw_component.ensures.drawn
    (subst P c.place_of.ensures c.draw_component-2.ensures.drawn)

pub returns-clause-spends : goal.returns-clause-spends
returns-clause-spends g c =
    spends-both c.args.font.now 1 c.args.limit.now c.draw_component.new.limit c.draw_component-2.new.limit c.draw_component.ensures.spends
    c.draw_component-2.ensures.spends

pub returns-clause-why : goal.returns-clause-why
returns-clause-why g c =
    let font = c.args.font.now in
    let accent = c.args.accent.now in
    let P : Point → Type 0 = λ origin. IfErr c.draw_component-2.result
    (λ e. IsWanting c.draw_component-2.new.limit e ⊎ IsComponentRefused font accent.accent origin e) in
    let base = c.in_ok-draw_component.ensures.drawn in
    accent-refused c.draw_component-2.new.limit c.draw_component-2.result font accent base.0 base.1
    (subst P c.place_of.ensures c.draw_component-2.ensures.why)

pub returns-in_err-draw_component-clause-front : goal.returns-in_err-draw_component-clause-front
returns-in_err-draw_component-clause-front g c = on-err c.from_residual.result (inl c.in_err-draw_component.ensures.front)

pub returns-clause-front : goal.returns-clause-front
returns-clause-front g c =
    let font = c.args.font.now in
    let accent = c.args.accent.now in
    let between = g.S.Sink.state c.draw_component.new.sink in
    let new = g.S.Sink.state c.draw_component-2.new.sink in
    let P : Point → Type 0 = λ origin. OnErr c.draw_component-2.result
    (GivesComponent g.S.Sink.after origin between new font accent.accent) in
    accent-front g.S.Sink.after
    (g.S.Sink.state c.args.sink.now) between new c.draw_component-2.result font accent c.in_ok-draw_component.ensures.drawn
    (subst P c.place_of.ensures c.draw_component-2.ensures.front)

pub returns-in_err-draw_component-clause-more : goal.returns-in_err-draw_component-clause-more
returns-in_err-draw_component-clause-more g c = λ full.
    inl (c.in_err-draw_component.ensures.more (ap Err (full-so c.from_residual.result c.in_err-draw_component.field-0.0
    c.from_residual.ensures.1 full)))

pub returns-clause-more : goal.returns-clause-more
returns-clause-more g c = λ full.
    let accent = c.args.accent.now in
    let between = g.S.Sink.state c.draw_component.new.sink in
    let new = g.S.Sink.state c.draw_component-2.new.sink in
    let P : Point → Type 0 = λ origin.
    GivesComponent (OrFull g.S.Sink.after) origin (between, false) (new, true) c.args.font.now accent.accent in
    let base = c.in_ok-draw_component.ensures.drawn in
    inr (
      (between, false),
      (base.0, base.1, received-before g.S.Sink.after (g.S.Sink.state c.args.sink.now) between base.0 base.2),
      subst P c.place_of.ensures (c.draw_component-2.ensures.more full),
    )

pub returns-clause-paid : goal.returns-clause-paid
returns-clause-paid g c =
    pays-both c.args.font.now c.args.accent.now c.args.limit.now c.draw_component.new.limit c.draw_component-2.new.limit
    c.draw_component-2.result c.in_ok-draw_component.ensures.paid c.draw_component-2.ensures.paid

pub returns-clause-suffices : goal.returns-clause-suffices
returns-clause-suffices g c = λ suffices.
    c.draw_component-2.ensures.suffices
    (suffices-behind c.args.font.now c.args.accent.now c.args.limit.now c.draw_component.new.limit suffices
    c.in_ok-draw_component.ensures.paid)

pub returns-in_err-draw_component-clause-named : goal.returns-in_err-draw_component-clause-named
returns-in_err-draw_component-clause-named g c = inl c.draw_component.ensures.named
