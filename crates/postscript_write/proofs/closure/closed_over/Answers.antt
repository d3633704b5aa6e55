use Rattle.std.proofs.Common.{sym, subst, inr, []}
use Rattle.std.proofs.lemmas.List.Elements.{Contains-push}
use Rattle.std.proofs.lemmas.Result.{err_from_is_err_and}
use Rattle.postscript_write.specs.Costs.{AreDistinct}
use Rattle.postscript_write.proofs.Reaching.{closed-of, contains-of, grow-named, none-distinct, reached-same}
use Rattle.postscript_write.proofs.Stopping.{all-share, not-searched}
use Rattle.postscript_write.proofs.closure.closed_over.Goals as goal

pub follow-requires-clause-notdef : goal.follow-requires-clause-notdef
follow-requires-clause-notdef c = (c.in_ok-reach.ensures.grown.all 0).1 (inr (Contains-push [] 0))

pub follow-requires-clause-distinct : goal.follow-requires-clause-distinct
follow-requires-clause-distinct c =
    c.in_ok-reach.ensures.grown.distinct (c.in_ok-reach_all.ensures.grown.distinct (subst AreDistinct (sym c.new-closed.ensures.items) none-distinct))

pub returns-clause-closed : goal.returns-clause-closed
returns-clause-closed c =
    let named = c.args.named.now in
    let grown = grow-named c.in_ok-marks.marks.items c.reach_all.new.marks.items c.reach.new.marks.items _ c.reach_all.new.glyphs.items
    c.reach.new.glyphs.items named c.new-closed.ensures.items c.in_ok-reach_all.ensures.grown c.in_ok-reach.ensures.grown in
    closed-of c.args.font.now c.in_ok-marks.marks.items c.reach.new.marks.items c.reach.new.glyphs.items named c.follow.new.glyphs.items
    grown c.in_ok-follow.ensures.reached

pub returns-clause-shared : goal.returns-clause-shared
returns-clause-shared c =
    let named = c.args.named.now in
    let grown = grow-named c.in_ok-marks.marks.items c.reach_all.new.marks.items c.reach.new.marks.items _ c.reach_all.new.glyphs.items
    c.reach.new.glyphs.items named c.new-closed.ensures.items c.in_ok-reach_all.ensures.grown c.in_ok-reach.ensures.grown in
    all-share c.args.font.now named c.follow.new.glyphs.items c.args.limit c.follow.new.limit c.in_ok-follow.ensures.distinct
    (contains-of c.args.font.now c.in_ok-marks.marks.items c.reach.new.marks.items c.reach.new.glyphs.items named c.follow.new.glyphs.items
    grown c.in_ok-follow.ensures.reached) c.in_ok-follow.ensures.shared

pub returns-in_err-follow-clause-refused : goal.returns-in_err-follow-clause-refused
returns-in_err-follow-clause-refused c =
    let named = c.args.named.now in
    let grown = grow-named c.in_ok-marks.marks.items c.reach_all.new.marks.items c.reach.new.marks.items _ c.reach_all.new.glyphs.items
    c.reach.new.glyphs.items named c.new-closed.ensures.items c.in_ok-reach_all.ensures.grown c.in_ok-reach.ensures.grown in
    let error = err_from_is_err_and c.from_residual-in_err-follow.result c.from_residual-in_err-follow.ensures.1 in
    rw (error.1, error.2) (not-searched c.args.font.now c.reach.new.glyphs.items named c.args.limit _
    (λ glyph. (reached-same c.args.font.now c.in_ok-marks.marks.items c.reach.new.marks.items c.reach.new.glyphs.items named grown glyph).0)
    c.in_err-follow.ensures.stops)
