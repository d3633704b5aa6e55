use Rattle.std.proofs.Common.{ap, arith, length}
use Rattle.std.proofs.lemmas.List.Sums.{sum_by_more}
use Rattle.postscript_sequences.specs.Sizes.{tables_size}
use Rattle.postscript_sequences.proofs.Placing.{no_rows, rows_more}
use Rattle.postscript_sequences.proofs.writing.put_parts.Goals as goal

pub loop-part-init : goal.loop-part-init
loop-part-init c = record {
  rows = no_rows c.args.base c.new-rows.result.items c.args.tables.now.items c.new-rows.ensures.items;
  size = ap length c.requires.none;
}

pub loop-part-preserved : goal.loop-part-preserved
loop-part-preserved c = record {
  rows = rows_more c.args.base c.args.parts.now c.loop-part.part-index c.part-item.result c.loop-part.rows.items c.push.new.self.items
      c.in_ok-row.row c.loop-part.tables.items c.put_part.new.out.items c.requires.base c.loop-part-test.true c.part-item.is
      c.loop-part.invariant.rows c.in_ok-row.ensures.row c.in_ok-push.ensures.items;
  size =
      let next = sum_by_more tables_size c.args.parts.now c.loop-part.part-index c.part-item.result c.loop-part-test.true in
      omega (arith, next, c.loop-part.invariant.size, c.in_ok-row.ensures.size, ap tables_size c.part-item.is);
}
