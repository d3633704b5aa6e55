use Rattle.std.proofs.Common.{◌∙◌, sym, subst, ◌<◌, ◌≤◌, length, arith}
use Rattle.std.proofs.lemmas.List.{get_or_default}
use Rattle.std.proofs.lemmas.Result.{err_from_is_err_and}
use Rattle.postscript_write.specs.Components.{AreComponentsOf}
use Rattle.postscript_write.specs.Stepping.{Leaves}
use Rattle.postscript_write.proofs.Stopping.{shared-all, shared-more, shared-none, stops-here}
use Rattle.postscript_write.proofs.Reaching.{follows-all, follows-more, follows-none, marked-there}
use Rattle.postscript_write.proofs.closure.follow.Goals as goal

pub loop-next-init : goal.loop-next-init
loop-next-init c = record {
  follows = follows-none c.args.font.now c.args.marks.now.items c.args.glyphs.now.items c.requires.many c.requires.marked;
  known = c.in_ok-known.ensures.known c.args.font.now;
  distinct = c.requires.distinct;
  shared = shared-none c.args.font.now c.args.limit.now;
}

pub loop-next-preserved : goal.loop-next-preserved
loop-next-preserved c =
    let l = c.loop-next in
    let test = c.loop-next-test.true in
    let len = c.len.ensures in
    let less : l.next < length l.glyphs.items = omega (arith, test, len) in
    let grown = c.in_ok-reach_components.ensures.grown in
    let is = c.index-glyph.ensures ∙ sym (get_or_default l.glyphs.items l.next 0 c.index-glyph.result.now less) in
    let more =
    follows-more c.args.font.now c.args.glyphs.now.items l.marks.items c.reach_components.new.marks.items l.glyphs.items
    c.reach_components.new.glyphs.items grown.0 l.next l.invariant.follows less
    (subst (λ g. AreComponentsOf c.args.font.now g grown.0) is grown.1) grown.2 in
    record {
      follows = more;
      known = c.in_ok-reach_components.ensures.known;
      distinct = grown.2.distinct l.invariant.distinct;
      shared = shared-more c.args.font.now c.args.limit.now l.limit c.reach_components.new.limit l.glyphs.items grown.2.more
          c.reach_components.new.glyphs.items l.next less grown.2.front l.invariant.shared
          (subst (λ g. Leaves c.args.font.now l.limit g c.reach_components.new.limit) is c.in_ok-reach_components.ensures.leaves);
    }

pub returns-clause-reached : goal.returns-clause-reached
returns-clause-reached c =
    let test = c.loop-next-test.false in
    let len = c.len.ensures in
    let past : length c.loop-next.glyphs.items ≤ c.loop-next.next = omega (arith, test, len) in
    follows-all c.args.font.now c.args.glyphs.now.items c.loop-next.marks.items c.loop-next.glyphs.items c.loop-next.next
    c.loop-next.invariant.follows past c.requires.notdef

pub returns-clause-there : goal.returns-clause-there
returns-clause-there c =
    marked-there c.loop-next.marks.items c.loop-next.glyphs.items _ c.loop-next.invariant.follows.many c.loop-next.invariant.follows.marked

pub returns-clause-distinct : goal.returns-clause-distinct
returns-clause-distinct c = c.loop-next.invariant.distinct

pub returns-clause-shared : goal.returns-clause-shared
returns-clause-shared c =
    let test = c.loop-next-test.false in
    let len = c.len.ensures in
    let past : length c.loop-next.glyphs.items ≤ c.loop-next.next = omega (arith, test, len) in
    shared-all c.args.font.now c.args.limit.now c.loop-next.limit c.loop-next.glyphs.items c.loop-next.next past c.loop-next.invariant.shared

pub returns-in_err-reach_components-clause-stops : goal.returns-in_err-reach_components-clause-stops
returns-in_err-reach_components-clause-stops c =
    let l = c.loop-next in
    let test = c.loop-next-test.true in
    let len = c.len.ensures in
    let less : l.next < length l.glyphs.items = omega (arith, test, len) in
    let is = c.index-glyph.ensures ∙ sym (get_or_default l.glyphs.items l.next 0 c.index-glyph.result.now less) in
    let error = err_from_is_err_and c.from_residual-in_err-reach_components.result c.from_residual-in_err-reach_components.ensures.1 in
    rw (error.1, error.2) (stops-here c.args.font.now c.args.glyphs.now.items l.glyphs.items l.next _ c.args.limit.now l.limit _
    c.limit_is_cost.ensures.spent less is l.invariant.distinct l.invariant.follows.least l.invariant.shared
    c.in_err-reach_components.ensures.stops)
