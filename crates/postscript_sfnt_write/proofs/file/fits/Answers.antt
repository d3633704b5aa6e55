use Rattle.std.proofs.Common.{arith}
use Rattle.postscript_sfnt_write.proofs.Rests.{rooms_more, rooms_done}
use Rattle.postscript_sfnt_write.proofs.file.fits.Goals as goal

pub returns-then-table-gt-MOST : goal.returns-then-table-gt-MOST
returns-then-table-gt-MOST c =
    let e = rooms_more c.args.tables.now c.loop-table.table-index (omega arith) in
    let was = c.loop-table.invariant.0 in
    (λ never. absurd (grind arith), λ less. absurd (omega (arith, e, was, less)))

pub returns-then-size-gt-MOST : goal.returns-then-size-gt-MOST
returns-then-size-gt-MOST c =
    let e = rooms_more c.args.tables.now c.loop-table.table-index (omega arith) in
    let was = c.loop-table.invariant.0 in
    (λ never. absurd (grind arith), λ less. absurd (omega (arith, e, was, less)))

pub loop-table-preserved : goal.loop-table-preserved
loop-table-preserved c =
    let e = rooms_more c.args.tables.now c.loop-table.table-index (omega arith) in
    let was = c.loop-table.invariant.0 in
    (omega (arith, e, was), omega arith)

pub returns : goal.returns
returns c =
    let e = rooms_done c.args.tables.now c.loop-table.table-index (omega arith) in
    let was = c.loop-table.invariant.0 in
    let low = c.loop-table.invariant.1 in
    (λ _. omega (arith, e, was, low), λ _. grind arith)
