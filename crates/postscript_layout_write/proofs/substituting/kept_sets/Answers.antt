use Rattle.std.proofs.Common.{sym, length}
use Rattle.postscript_layout_write.proofs.RuleCollecting.{then-sets}
use Rattle.postscript_layout_write.proofs.substituting.kept_sets.Goals as goal

pub returns-in_ok-sets-clause-exact : goal.returns-in_ok-sets-clause-exact
returns-in_ok-sets-clause-exact c =
    let sets = c.in_ok-sets.sets in
    then-sets c.args.whole c.args.gsub.now c.args.lookups.now c.args.kept.now c.args.i c.args.lookup c.type_of-kind.result (length c.args.kept.now)
    sets.firsts.items sets.offsets.items sets.bytes.items (sym c.if-keeps.ensures) c.type_of-kind.ensures.exact c.in_ok-sets.ensures.exact
