use Rattle.std.proofs.Common.{ap, refl, sym, inl, inr, ◌∙◌, Err, arith}
use Rattle.postscript_instance_file.proofs.Drawing.{filled, missing, paid, too_long}
use Rattle.postscript_instance_file.proofs.drawn.draw_into.Goals as goal

pub returns-in-Ok-clause-why : goal.returns-in-Ok-clause-why
returns-in-Ok-clause-why c =
    let price = rw c.from-glyph.ensures at (paid _ _ _ c.args.face.now c.args.location.now c.from-glyph.result c.min-share.result c.draw_glyph-drawn.new.limit c.in-Ok.field-0
    c.in-Ok.ensures.drawn c.in-Ok.ensures.spends) in
    (refl, (price.0, price.1, omega (arith, price.2, c.saturating_sub-taken.ensures, c.if-taken-most.true)))

pub returns-in-Ok-2-clause-pays : goal.returns-in-Ok-2-clause-pays
returns-in-Ok-2-clause-pays c =
    let price = rw c.from-glyph.ensures at (paid _ _ _ c.args.face.now c.args.location.now c.from-glyph.result c.min-share.result c.draw_glyph-drawn.new.limit c.in-Ok-2.field-0
    c.in-Ok-2.ensures.drawn c.in-Ok-2.ensures.spends) in (
      price.0,
      price.1,
      elim price.3 [
        | inl nothing ↦
            omega (arith, price.2, nothing, c.saturating_sub-taken.ensures, c.saturating_sub-budget.ensures)
        | inr some ↦
            omega (arith, price.2, some, c.min-share.ensures, c.saturating_sub-taken.ensures, c.saturating_sub-budget.ensures, c.if-taken-most.false)
      ],
    )

pub returns-in-Err-clause-why : goal.returns-in-Err-clause-why
returns-in-Err-clause-why c =
    let stops = c.stops.ensures.0 c.if-stops.true in
    let is = c.in-Err.is ∙ ap Err (sym c.in-Err.error-is ∙ stops.0) in
    let full = rw c.from-glyph.ensures at (filled c.args.face.now c.args.location.now c.from-glyph.result
    (c.args.held.now.segments.items, c.args.held.now.most)
    (c.draw_glyph-drawn.new.sink.segments.items, c.draw_glyph-drawn.new.sink.most) (c.draw_glyph-drawn.ensures.more is)
    c.requires.empty stops.1) in
    (full.0 ∙ c.requires.room, full.1)

pub returns-in-Err-NoSuchGlyph-clause-why : goal.returns-in-Err-NoSuchGlyph-clause-why
returns-in-Err-NoSuchGlyph-clause-why c =
    rw c.from-glyph.ensures at (missing c.args.face.now c.args.location.now c.from-glyph.result c.draw_glyph-drawn.new.limit c.in-Err.error _
    c.in-Err.ensures.why (sym c.in-Err.error-is ∙ c.in-Err-NoSuchGlyph.field-0-is))

pub returns-in-Err-TooLong-clause-why : goal.returns-in-Err-TooLong-clause-why
returns-in-Err-TooLong-clause-why c =
    let is = c.in-Err.is ∙ ap Err (sym c.in-Err.error-is ∙ c.in-Err-TooLong.field-0-is) in
    let why = rw is at c.draw_glyph-drawn.ensures.why in
    let price = rw c.from-glyph.ensures at (too_long c.args.face.now c.args.location.now c.from-glyph.result c.min-share.result c.draw_glyph-drawn.new.limit why
    (λ suffices. c.draw_glyph-drawn.ensures.suffices suffices is)) in (
      omega (arith, c.min-share.ensures, c.if-share-budget.true),
      (price.0, price.1, omega (arith, price.2, c.min-share.ensures, c.if-share-budget.true)),
    )

pub returns-in-Err-TooLong-2-clause-why : goal.returns-in-Err-TooLong-2-clause-why
returns-in-Err-TooLong-2-clause-why c =
    let is = c.in-Err.is ∙ ap Err (sym c.in-Err.error-is ∙ c.in-Err-TooLong-2.field-0-is) in
    let why = rw is at c.draw_glyph-drawn.ensures.why in
    let price = rw c.from-glyph.ensures at (too_long c.args.face.now c.args.location.now c.from-glyph.result c.min-share.result c.draw_glyph-drawn.new.limit why
    (λ suffices. c.draw_glyph-drawn.ensures.suffices suffices is)) in
    (refl, (price.0, price.1, omega (arith, price.2, c.min-share.ensures, c.if-share-budget.false)))
