use Rattle.std.proofs.Common.{arith}
use Rattle.postscript_layout_write.proofs.Fields.{room}
use Rattle.postscript_layout_write.proofs.pairs.class_pair.Goals as goal

pub returns-then-column-columns-clause-near : goal.returns-then-column-columns-clause-near
returns-then-column-columns-clause-near c =
    let most = room c.in_ok-row.row c.word-columns.result c.in_ok-column.column c.args.size
    c.in_ok-row.ensures.small c.word-columns.ensures.small c.in_ok-column.ensures.small c.requires.small in
    omega (arith, most)
