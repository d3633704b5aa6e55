use Rattle.std.proofs.Common.{arith}
use Rattle.postscript_sfnt_write.proofs.Added.{still_ascends, still_format4, still_readable, still_told, still_told_in_4}
use Rattle.postscript_sfnt_write.proofs.Moved.{written_with}
use Rattle.postscript_sfnt_write.proofs.sequences.with_sequences.Goals as goal

pub returns-clause-added : goal.returns-clause-added
returns-clause-added c =
    let count = c.in_ok-count.ensures.count in
    let few = c.if-count-eq65535.false in
    let short = c.if-cmap-subtable-ge-SIZE.false in
    written_with c.args.cmap.now c.args.subtable.now c.in_ok-new.new.items c.index_in-at.result c.in_ok-count.count count.0
    c.in_ok-count.ensures.subtables (omega (arith, count.1, few)) (omega (arith, short)) c.index_in-at.ensures.listed
    c.index_in-at.ensures.lower c.index_in-at.ensures.higher c.in_ok-new.ensures.lower c.in_ok-new.ensures.higher c.in_ok-new.ensures.text

pub returns-clause-read : goal.returns-clause-read
returns-clause-read c = still_readable (returns-clause-added c)

pub returns-clause-told : goal.returns-clause-told
returns-clause-told c = still_told (returns-clause-added c)

pub returns-clause-format4 : goal.returns-clause-format4
returns-clause-format4 c = still_format4 (returns-clause-added c)

pub returns-clause-told_in_4 : goal.returns-clause-told_in_4
returns-clause-told_in_4 c = still_told_in_4 (returns-clause-added c)

pub returns-clause-ascend : goal.returns-clause-ascend
returns-clause-ascend c = still_ascends (returns-clause-added c)
