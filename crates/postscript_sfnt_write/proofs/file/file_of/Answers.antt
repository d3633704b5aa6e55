use Rattle.std.proofs.Common.{arith}
use Rattle.postscript_sfnt_write.specs.Files.{CanStand}
use Rattle.postscript_sfnt_write.proofs.Opening.{opens, listed, lent, packed, searched, written_size}
use Rattle.postscript_sfnt_write.proofs.Adjusting.{adjusted}
use Rattle.postscript_sfnt_write.proofs.file.file_of.Goals as goal

can_stand : (c : goal.In_ok-file) → CanStand c.args.tables.now
can_stand c = record { rise = grind arith; counted = omega arith; fits = grind arith }

pub returns-clause-opens : goal.returns-clause-opens
returns-clause-opens c = opens c.args.tables.now c.in_ok-file.file.items (can_stand c) c.in_ok-file.ensures

pub returns-clause-listed : goal.returns-clause-listed
returns-clause-listed c = listed c.args.tables.now c.in_ok-file.file.items (can_stand c) c.in_ok-file.ensures

pub returns-clause-lent : goal.returns-clause-lent
returns-clause-lent c = lent c.args.tables.now c.in_ok-file.file.items (can_stand c) c.in_ok-file.ensures

pub returns-clause-packed : goal.returns-clause-packed
returns-clause-packed c = packed c.args.tables.now c.in_ok-file.file.items (can_stand c) c.in_ok-file.ensures

pub returns-clause-searched : goal.returns-clause-searched
returns-clause-searched c some = searched c.args.tables.now c.in_ok-file.file.items (can_stand c) c.in_ok-file.ensures some

pub returns-clause-adjusted : goal.returns-clause-adjusted
returns-clause-adjusted c = adjusted c.args.tables.now c.in_ok-file.file.items (can_stand c).rise c.in_ok-file.ensures

pub returns-clause-size : goal.returns-clause-size
returns-clause-size c = written_size c.args.tables.now c.in_ok-file.file.items c.in_ok-file.ensures

pub returns-clause-sound : goal.returns-clause-sound
returns-clause-sound c some =
    let tables = c.args.tables.now in
    let file = c.in_ok-file.file.items in
    let stand = can_stand c in
    let is = c.in_ok-file.ensures in
    record {
      tables = tables;
      rise = stand.rise;
      opens = opens tables file stand is;
      lent = lent tables file stand is;
      listed = listed tables file stand is;
      packed = packed tables file stand is;
      searched = searched tables file stand is some;
      adjusted = adjusted tables file stand.rise is;
    }
