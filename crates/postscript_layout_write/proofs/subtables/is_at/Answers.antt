use Rattle.std.proofs.lemmas.Bool.Decides.{Decides-eqb}
use Rattle.std.proofs.lemmas.Slice.Eq.{slice_eq-Decides}
use Rattle.postscript_layout_write.proofs.Holding.{holds-part}
use Rattle.postscript_layout_write.proofs.subtables.is_at.Goals as goal

pub returns : goal.returns
returns c = λ yes. (let same = slice_eq-Decides Decides-eqb _ _ _ c.eq.ensures in
    holds-part c.args.text.now c.args.bytes.now c.args.offset _ c.if-offset-bytes.false (same.0 yes))
