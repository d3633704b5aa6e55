use Rattle.std.proofs.Common.{sym, subst, ℕ}
use Rattle.std.specs.Prelude.{Option}
use Rattle.postscript_layout_write.specs.Calls.{CallsIn}
use Rattle.postscript_layout_write.specs.Reaching.{AddsOnly}
use Rattle.postscript_layout_write.proofs.called.Lookups.add_part.Goals as goal

pub returns-in_ok-add_subtable-clause-added : goal.returns-in_ok-add_subtable-clause-added
returns-in_ok-add_subtable-clause-added c =
    subst (λ (p : Option ℕ). AddsOnly (CallsIn c.args.source.now.gsub.now c.args.source.now.kept.now c.args.kind p) c.args.self.now.lookups.items
    c.add_subtable.new.self.lookups.items) (sym c.in-Some.is) c.in_ok-add_subtable.ensures.added
