use Rattle.std.proofs.Common.{[], sym, subst, Bool, true, false, Ok}
use Rattle.std.specs.Prelude.{IfOk}
use Rattle.postscript_files.specs.Origins.{AreOrigins}
use Rattle.postscript_write.specs.Components.{AreKept}
use Rattle.postscript_files.proofs.Few.{if-few}
use Rattle.postscript_files.proofs.subset.origins_by.Goals as goal

pub returns-then-retain_gids-clause-are : goal.returns-then-retain_gids-clause-are
returns-then-retain_gids-clause-are c =
    subst (λ (retain : Bool). IfOk c.every.result (λ origins. AreOrigins retain c.args.named.now c.args.cff.now origins.items))
    (sym c.if-retain_gids.true) c.every.ensures.all

pub returns-then-retain_gids-clause-few : goal.returns-then-retain_gids-clause-few
returns-then-retain_gids-clause-few c = if-few c.every.result true [] c.args.cff.now c.are_bytes.ensures c.every.ensures.all

pub returns-in_ok-copy-clause-are : goal.returns-in_ok-copy-clause-are
returns-in_ok-copy-clause-are c =
    subst (λ (retain : Bool). AreOrigins retain c.args.named.now c.args.cff.now c.in_ok-copy.copy.items) (sym c.if-retain_gids.false)
    (subst (AreKept c.args.named.now c.args.cff.now) (sym c.in_ok-copy.ensures.items) c.requires.kept)

pub returns-in_ok-copy-clause-few : goal.returns-in_ok-copy-clause-few
returns-in_ok-copy-clause-few c =
    if-few (Ok c.in_ok-copy.copy) false c.args.named.now c.args.cff.now c.are_bytes.ensures
    (subst (AreKept c.args.named.now c.args.cff.now) (sym c.in_ok-copy.ensures.items) c.requires.kept)
