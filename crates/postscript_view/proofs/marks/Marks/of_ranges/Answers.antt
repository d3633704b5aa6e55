use Rattle.std.proofs.Common.{◌+◌, ◌/◌, ◌<◌, ◌≤◌, subst, arith}
use Rattle.postscript_view.specs.CharSet.{covered}
use Rattle.postscript_view.specs.Marks.{AreEvery}
use Rattle.postscript_view.proofs.Covering.{covered_more, few_ranges, none_behind}
use Rattle.postscript_view.proofs.marks.Marks.of_ranges.Goals as goal

pub returns-after-loop-r-clause-spread : goal.returns-after-loop-r-clause-spread
returns-after-loop-r-clause-spread c = (
  c.loop-r.next,
  subst (λ n. AreEvery (n / 64 + 1) c.loop-r.marks c.loop-r.next) c.min-count.ensures c.loop-r.invariant.spread,
  λ r there begins.
      let few = few_ranges c.args.ranges.now c.args.size c.args.glyphs r begins in
      omega (arith, few, there, c.min-count.ensures, c.loop-r-test.false, c.loop-r.invariant.reached),
)

pub returns-in-None-clause-spread : goal.returns-in-None-clause-spread
returns-in-None-clause-spread c = (
  c.mark-next.result,
  subst (λ n. AreEvery (n / 64 + 1) c.mark-next.new.self c.mark-next.result) c.min-count.ensures c.mark-next.ensures.spread,
  λ r there begins.
      let more = covered_more c.args.ranges.now c.args.size c.loop-r.r in
      let past : c.loop-r.covered + (c.number_at.result + 1) < 18446744073709551616 → ⊥ = λ h. c.in-None.ensures h in
      let many : c.args.glyphs ≤ covered c.args.ranges.now c.args.size (c.loop-r.r + 1) =
      omega (arith, more, c.loop-r.invariant.counted, c.number_at.ensures.value, past, c.ranges.glyphs.fits) in
      let here = none_behind c.args.ranges.now c.args.size c.args.glyphs c.loop-r.r r begins many in
      omega (arith, here, c.mark-next.ensures.passed),
)
