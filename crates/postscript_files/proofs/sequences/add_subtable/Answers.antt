use Rattle.std.proofs.Common.{arith}
use Rattle.postscript_files.proofs.Varied.{like_with}
use Rattle.postscript_files.proofs.sequences.add_subtable.Goals as goal

pub returns-in-Ok-clause-map : goal.returns-in-Ok-clause-map
returns-in-Ok-clause-map c =
    like_with c.args.plain.items c.deref.result.now c.args.subtable.now c.in-Ok.cmap.items c.deref.ensures.value c.requires.closed
    (c.requires.format (omega (arith, c.if-subtable-lt-ONE.false))) c.in-Ok.ensures.added c.in-Ok.ensures.read c.in-Ok.ensures.told
    c.in-Ok.ensures.format4 c.in-Ok.ensures.told_in_4 c.in-Ok.ensures.ascend
