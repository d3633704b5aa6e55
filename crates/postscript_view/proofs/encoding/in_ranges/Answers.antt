use Rattle.std.proofs.Common.{◌≤◌, ◌+◌, ◌-◌, arith}
use Rattle.postscript_view.specs.Encoding.{first_code, codes_left}
use Rattle.postscript_view.proofs.Coding.{coded_none, coded_more, behind_them, have_not, in_ranges, not_in_ranges}
use Rattle.postscript_view.proofs.encoding.in_ranges.Goals as goal
use Rattle.postscript_view.proofs.encoding.in_ranges.Goals.{else-first-wanted-via-then-first-wanted+else-wanted-first, else-first-wanted-via-else-first-wanted}

pub loop-r-init : goal.loop-r-init
loop-r-init c = (omega (arith, coded_none c.args.ranges.now), λ q below. absurd (omega (arith, below)))

pub returns-then-glyph-glyphs-clause-none : goal.returns-then-glyph-glyphs-clause-none
returns-then-glyph-glyphs-clause-none c = λ glyph below named.
    let behind = behind_them c.args.ranges.now c.args.code glyph c.loop-r.r c.loop-r.glyph c.loop-r.invariant.0 c.loop-r.invariant.1
    named in
    absurd (omega (arith, behind, below, c.if-glyph-glyphs.true))

pub returns-then-wanted-first-clause-found : goal.returns-then-wanted-first-clause-found
returns-then-wanted-first-clause-found c =
    let wanted = c.from-wanted.ensures in
    let first = c.number_at-first.ensures.value in
    let left = c.number_at-left.ensures.value in
    in_ranges c.glyph_after.result c.args.ranges.now c.args.code c.loop-r.r c.args.glyphs c.loop-r.glyph
    (c.from-wanted.result - c.number_at-first.result) (omega (arith, wanted, first))
    (omega (arith, c.loop-r-test.true)) c.loop-r.invariant.0 c.loop-r.invariant.1 (omega (arith, c.if-first-wanted.true, wanted, first))
    (omega (arith, c.if-wanted-first.true, wanted, first, left)) c.glyph_after.ensures.found

pub returns-then-wanted-first-clause-none : goal.returns-then-wanted-first-clause-none
returns-then-wanted-first-clause-none c =
    let wanted = c.from-wanted.ensures in
    let first = c.number_at-first.ensures.value in
    let left = c.number_at-left.ensures.value in
    not_in_ranges c.glyph_after.result c.args.ranges.now c.args.code c.loop-r.r c.args.glyphs c.loop-r.glyph
    (c.from-wanted.result - c.number_at-first.result) (omega (arith, wanted, first)) c.loop-r.invariant.0 c.loop-r.invariant.1
    (omega (arith, c.if-first-wanted.true, wanted, first)) (omega (arith, c.if-wanted-first.true, wanted, first, left)) c.glyph_after.ensures.none

pub returns-then-left-glyphs-clause-none : goal.returns-then-left-glyphs-clause-none
returns-then-left-glyphs-clause-none c =
    let wanted = c.from-wanted.ensures in
    let first = c.number_at-first.ensures.value in
    let left = c.number_at-left.ensures.value in
    let outside : first_code c.args.ranges.now c.loop-r.r ≤ c.args.code → c.args.code ≤ first_code c.args.ranges.now
    c.loop-r.r + codes_left c.args.ranges.now c.loop-r.r → ⊥ =
    λ low high. elim c.else-first-wanted.branch [
      | else-first-wanted-via-then-first-wanted+else-wanted-first w ↦ absurd
          (omega (arith, w.if-wanted-first.false, high, wanted, first, left))
      | else-first-wanted-via-else-first-wanted w ↦ absurd (omega (arith, w.if-first-wanted.false, low, wanted, first))
    ] in
    let more = coded_more c.args.ranges.now c.loop-r.r in
    λ glyph below named.
    let behind = behind_them c.args.ranges.now c.args.code glyph (c.loop-r.r + 1) (c.loop-r.glyph + (c.number_at-left.result + 1))
    (omega (arith, more, left, c.loop-r.invariant.0))
    (have_not c.args.ranges.now c.args.code c.loop-r.r c.loop-r.invariant.1 outside) named in
    absurd (omega (arith, behind, below, c.if-left-glyphs.true))

pub loop-r-preserved : goal.loop-r-preserved
loop-r-preserved c =
    let wanted = c.from-wanted.ensures in
    let first = c.number_at-first.ensures.value in
    let left = c.number_at-left.ensures.value in
    let outside : first_code c.args.ranges.now c.loop-r.r ≤ c.args.code → c.args.code ≤ first_code c.args.ranges.now
    c.loop-r.r + codes_left c.args.ranges.now c.loop-r.r → ⊥ =
    λ low high. elim c.else-first-wanted.branch [
      | else-first-wanted-via-then-first-wanted+else-wanted-first w ↦ absurd
          (omega (arith, w.if-wanted-first.false, high, wanted, first, left))
      | else-first-wanted-via-else-first-wanted w ↦ absurd (omega (arith, w.if-first-wanted.false, low, wanted, first))
    ] in (
      omega (arith, coded_more c.args.ranges.now c.loop-r.r, c.loop-r.invariant.0, left),
      have_not c.args.ranges.now c.args.code c.loop-r.r c.loop-r.invariant.1 outside,
    )
