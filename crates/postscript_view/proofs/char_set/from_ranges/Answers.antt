use Rattle.std.proofs.Common.{◌<◌, ◌≤◌, ◌+◌, ◌-◌, sym, arith}
use Rattle.postscript_view.specs.CharSet.{first_of, more_of}
use Rattle.postscript_view.proofs.Covering.{covered_none, covered_more}
use Rattle.postscript_view.proofs.Naming.{extended, found_at, none_at, unnamed}
use Rattle.postscript_view.proofs.char_set.from_ranges.Goals as goal
use Rattle.postscript_view.proofs.char_set.from_ranges.Goals.{else-first-wanted-via-then-first-wanted+else-wanted-first, else-first-wanted-via-else-first-wanted}

pub loop-r-init : goal.loop-r-init
loop-r-init c = (sym (covered_none c.args.ranges.now c.args.size), λ other below. absurd (omega (arith, below)))

pub returns-then-glyph-glyphs-clause-none : goal.returns-then-glyph-glyphs-clause-none
returns-then-glyph-glyphs-clause-none c = λ glyph below. c.loop-r.invariant.1 glyph (omega (arith, below, c.if-glyph-glyphs.true))

pub returns-then-wanted-first-clause-found : goal.returns-then-wanted-first-clause-found
returns-then-wanted-first-clause-found c =
    let wanted = c.from-wanted.ensures in
    let first = c.number_at-first.ensures.value in
    let more = c.number_at-more.ensures.value in
    found_at c.glyph_after.result c.args.ranges.now c.args.size c.loop-r.r c.args.identifier c.args.glyphs c.loop-r.glyph
    (c.from-wanted.result - c.number_at-first.result) (omega (arith, wanted, first)) (omega (arith, c.loop-r-test.true))
    (omega (arith, c.ranges.identifier.fits)) c.loop-r.invariant.0 c.loop-r.invariant.1
    (omega (arith, c.if-first-wanted.true, wanted, first))
    (omega (arith, c.if-wanted-first.true, wanted, first, more)) c.glyph_after.ensures.found

pub returns-then-wanted-first-clause-none : goal.returns-then-wanted-first-clause-none
returns-then-wanted-first-clause-none c =
    let wanted = c.from-wanted.ensures in
    let first = c.number_at-first.ensures.value in
    let more = c.number_at-more.ensures.value in
    none_at c.glyph_after.result c.args.ranges.now c.args.size c.loop-r.r c.args.identifier c.args.glyphs c.loop-r.glyph
    (c.from-wanted.result - c.number_at-first.result) (omega (arith, wanted, first)) c.loop-r.invariant.0 c.loop-r.invariant.1
    (omega (arith, c.if-first-wanted.true, wanted, first)) (omega (arith, c.if-wanted-first.true, wanted, first, more)) c.glyph_after.ensures.none

pub returns-then-more-glyphs-clause-none : goal.returns-then-more-glyphs-clause-none
returns-then-more-glyphs-clause-none c =
    let wanted = c.from-wanted.ensures in
    let first = c.number_at-first.ensures.value in
    let more = c.number_at-more.ensures.value in
    let outside : first_of c.args.ranges.now c.args.size c.loop-r.r ≤ c.args.identifier → c.args.identifier ≤ first_of c.args.ranges.now
    c.args.size c.loop-r.r + more_of c.args.ranges.now c.args.size c.loop-r.r → ⊥ =
    λ low high. elim c.else-first-wanted.branch [
      | else-first-wanted-via-then-first-wanted+else-wanted-first w ↦ absurd
          (omega (arith, w.if-wanted-first.false, high, wanted, first, more))
      | else-first-wanted-via-else-first-wanted w ↦ absurd (omega (arith, w.if-first-wanted.false, low, wanted, first))
    ] in
    λ glyph below. extended c.args.ranges.now c.args.size c.loop-r.r c.args.identifier c.loop-r.glyph c.loop-r.invariant.0
    c.loop-r.invariant.1 outside glyph (omega (arith, below, more, c.if-more-glyphs.true))

pub loop-r-preserved : goal.loop-r-preserved
loop-r-preserved c =
    let wanted = c.from-wanted.ensures in
    let first = c.number_at-first.ensures.value in
    let more = c.number_at-more.ensures.value in
    let outside : first_of c.args.ranges.now c.args.size c.loop-r.r ≤ c.args.identifier → c.args.identifier ≤ first_of c.args.ranges.now
    c.args.size c.loop-r.r + more_of c.args.ranges.now c.args.size c.loop-r.r → ⊥ =
    λ low high. elim c.else-first-wanted.branch [
      | else-first-wanted-via-then-first-wanted+else-wanted-first w ↦ absurd
          (omega (arith, w.if-wanted-first.false, high, wanted, first, more))
      | else-first-wanted-via-else-first-wanted w ↦ absurd (omega (arith, w.if-first-wanted.false, low, wanted, first))
    ] in (
      omega (arith, covered_more c.args.ranges.now c.args.size c.loop-r.r, c.loop-r.invariant.0, more),
      λ other below. extended c.args.ranges.now c.args.size c.loop-r.r c.args.identifier c.loop-r.glyph c.loop-r.invariant.0
          c.loop-r.invariant.1 outside other (omega (arith, below, more)),
    )

pub returns-clause-none : goal.returns-clause-none
returns-clause-none c = λ glyph below named.
    let not_before : glyph < c.loop-r.glyph → ⊥ = λ before. c.loop-r.invariant.1 glyph before named in
    unnamed c.args.ranges.now c.args.size c.loop-r.r glyph c.args.identifier (omega (arith, c.loop-r-test.false))
    (omega (arith, not_before, c.loop-r.invariant.0)) named
