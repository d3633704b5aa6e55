use Rattle.std.proofs.Common.{◌≡◌, ◌∙◌, sym, true, false, ℕ}
use Rattle.postscript_layout_write.specs.Calls.{AppliesTo, IsNamedBy}
use Rattle.postscript_layout_write.proofs.Reaching.{adds-none, adds-so}
use Rattle.postscript_layout_write.proofs.called.Lookups.add_context.Goals as goal

pub returns-in_ok-add_named-clause-added : goal.returns-in_ok-add_named-clause-added
returns-in_ok-add_named-clause-added c = λ context is.
    adds-so (λ m. (r : ℕ) × IsNamedBy c.args.gsub.now c.args.parts r m) (AppliesTo c.args.gsub.now context c.args.parts) _ _
    (λ m named. (sym is ∙ c.if-applies.true, named)) (λ m applies. applies.1) c.in_ok-add_named.ensures.added

pub returns-else-applies-clause-added : goal.returns-else-applies-clause-added
returns-else-applies-clause-added c = λ context is.
    adds-none (AppliesTo c.args.gsub.now context c.args.parts) _
    (λ m applies. let never : false ≡ true = sym c.if-applies.false ∙ is ∙ applies.0 in absurd (cc))
