use Rattle.std.proofs.Common.{List, ℕ}
use Rattle.postscript_vertical.proofs.Records.{listed-with, listed-without}
use Rattle.postscript_vertical.proofs.origins.records_of.Goals as goal
use Rattle.postscript_vertical.proofs.origins.records_of.Goals.{in-Some+in_ok-put_pair, in_default}

pub loop-i-preserved : goal.loop-i-preserved
loop-i-preserved c =
    let vorg = c.args.vorg.now in
    let origins = c.args.origins.now in
    let i = c.loop-i.i in
    let old : List ℕ = c.loop-i.records.items in
    elim c.match-record_of.branch [
      | in-Some+in_ok-put_pair w ↦ rw w.records-is
          (listed-with vorg origins old w.put_pair.new.out.items i w.in-Some.y c.requires.sound c.loop-i.invariant w.in-Some.ensures
          w.in_ok-put_pair.ensures.put)
      | in_default w ↦ rw w.records-is (listed-without vorg origins old i c.loop-i.invariant w.in_default.ensures)
    ]
