use Rattle.std.proofs.Common.{[], sym, subst, Bool, true, false}
use Rattle.std.specs.Prelude.{IfOk}
use Rattle.postscript_files.specs.Origins.{AreOrigins}
use Rattle.postscript_files.proofs.Few.{if-few}
use Rattle.postscript_files.proofs.Refusing.{no-every, no-kept}
use Rattle.postscript_files.proofs.subset.origins_of.Goals as goal

pub returns-then-retain_gids-clause-are : goal.returns-then-retain_gids-clause-are
returns-then-retain_gids-clause-are c =
    subst (λ (retain : Bool). IfOk c.every.result (λ origins. AreOrigins retain c.args.named.now c.args.cff.now origins.items))
    (sym c.if-retain_gids.true) c.every.ensures.all

pub returns-then-retain_gids-clause-refused : goal.returns-then-retain_gids-clause-refused
returns-then-retain_gids-clause-refused c =
    no-every c.every.result c.args.limit c.args.retain_gids c.args.named.now c.args.cff.now c.every.ensures.refused

pub returns-else-retain_gids-clause-are : goal.returns-else-retain_gids-clause-are
returns-else-retain_gids-clause-are c =
    subst (λ (retain : Bool). IfOk c.kept_glyphs_of.result (λ origins. AreOrigins retain c.args.named.now c.args.cff.now origins.items))
    (sym c.if-retain_gids.false) c.kept_glyphs_of.ensures.are

pub returns-else-retain_gids-clause-refused : goal.returns-else-retain_gids-clause-refused
returns-else-retain_gids-clause-refused c =
    no-kept c.kept_glyphs_of.result c.args.limit c.args.retain_gids c.args.named.now c.args.cff.now c.kept_glyphs_of.ensures.refused

pub returns-then-retain_gids-clause-few : goal.returns-then-retain_gids-clause-few
returns-then-retain_gids-clause-few c = if-few c.every.result true [] c.args.cff.now c.are_bytes.ensures c.every.ensures.all

pub returns-else-retain_gids-clause-few : goal.returns-else-retain_gids-clause-few
returns-else-retain_gids-clause-few c = if-few c.kept_glyphs_of.result false c.args.named.now c.args.cff.now c.are_bytes.ensures c.kept_glyphs_of.ensures.are
