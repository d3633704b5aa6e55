use Rattle.postscript_write.proofs.Drawings.{drawn-by}
use Rattle.postscript_write.proofs.Making.{if_ok}
use Rattle.postscript_write.proofs.SameGlyphs.{same-by}
use Rattle.postscript_write.proofs.Told.{has-all}
use Rattle.postscript_write.proofs.fonts.subset_within.Goals as goal

pub returns-clause-drawn : goal.returns-clause-drawn
returns-clause-drawn c =
    if_ok c.subset_by.result (λ subset written. drawn-by c.args.retain_gids c.args.named.now c.args.bytes.now subset.font.items written)
    c.subset_by.ensures.written

pub returns-clause-same : goal.returns-clause-same
returns-clause-same c =
    if_ok c.subset_by.result (λ subset written. same-by c.args.retain_gids c.args.named.now c.args.bytes.now subset.font.items written)
    c.subset_by.ensures.written

pub returns-clause-all : goal.returns-clause-all
returns-clause-all c =
    let retain = c.args.retain_gids in
    let named = c.args.named.now in
    let bytes = c.args.bytes.now in
    if_ok c.subset_by.result (λ subset written. has-all retain named bytes subset.font.items written
    (drawn-by retain named bytes subset.font.items written) (same-by retain named bytes subset.font.items written)) c.subset_by.ensures.written
