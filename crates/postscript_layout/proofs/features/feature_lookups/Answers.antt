use Rattle.std.proofs.Common.{subst, List, Bool}
use Rattle.postscript_layout.specs.Steps.{AreMarked}
use Rattle.postscript_layout.proofs.Named.{are-named}
use Rattle.postscript_layout.proofs.features.feature_lookups.Goals as goal

pub returns-clause-exact : goal.returns-clause-exact
returns-clause-exact c =
    are-named c.args.table.now c.args.tags.now c.in_ok-lookups.lookups.items c.in_ok-set.set c.put_features.new.set c.in_ok-set.ensures.none
    c.in_ok-put_features.ensures.done
    (subst (λ (marks : List Bool). AreMarked marks c.in_ok-lookups.lookups.items) c.deref.ensures.value c.in_ok-lookups.ensures.all)
