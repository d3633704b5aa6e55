use Rattle.std.proofs.Common.{inl, inr, arith}
use Rattle.postscript_view.proofs.select.Select.own.Goals as goal

pub returns-in-None-open : goal.returns-in-None-open
returns-in-None-open c = λ glyph fd selects.
    let read = c.in-Ok-eq3.ensures.exact.1 in
    let tested = c.in-Ok-eq3.field-0-is in
    elim selects [
      | inl listed ↦ absurd (grind (arith, listed.format, read, tested))
      | inr ranges ↦ c.in-None-open.ensures.none glyph fd ranges
    ]
