use Rattle.std.proofs.Common.{subst, List, Bool}
use Rattle.postscript_layout.specs.Steps.{AreMarked}
use Rattle.postscript_layout.proofs.Listing.{closes}
use Rattle.postscript_layout.proofs.Rounds.{not-low}
use Rattle.postscript_layout.proofs.closing.closure_over.Goals as goal

pub returns-clause-closed : goal.returns-clause-closed
returns-clause-closed c =
    closes c.args.gsub.now c.args.lookups.now c.args.glyphs.now c.in_ok-closed.closed.items c.in_ok-set.set c.hold_all.new.self c.settle.new.set
    c.in_ok-set.ensures.none c.hold_all.ensures c.in_ok-settle.ensures.done
    (subst (λ (marks : List Bool). AreMarked marks c.in_ok-closed.closed.items) c.deref.ensures.value c.in_ok-closed.ensures.all)

pub returns-in_err-settle-clause-suffices : goal.returns-in_err-settle-clause-suffices
returns-in_err-settle-clause-suffices c = λ enough _.
    not-low c.args.gsub.now c.args.lookups.now c.args.glyphs.now c.in_ok-set.set c.hold_all.new.self c.args.limit.now c.in_ok-set.ensures.none c.hold_all.ensures
    c.in_err-settle.ensures.low enough
